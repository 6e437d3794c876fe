-- The lines of bytes, joined again, are the bytes.
use Rattle.std.proofs.Common.{◌≡◌, ℕ, Bool, true, false, List, [], ◌∷◌, ◌++◌, refl, ap, ◌==◌, All}
use Rattle.std.proofs.lemmas.{Bool.eqb-true, List.Elements.All-nil, List.Elements.All-cons, List.Elements.All-head, List.Elements.All-tail}
use Rattle.line_input.specs.{Lines.has_end, Lines.IsEndless, Lines.ended_lines, Lines.into_first, Lines.onto_first, Lines.joined, Law.last_line, Law.AreLinesOf, Law.LinesAreTheBytes}

-- one byte more in front, within the first line
within_first : (b : ℕ) (bytes : List ℕ) (ended : List (List ℕ)) (rest : List ℕ) → (b == 10) ≡ false → joined ended ++ rest ≡ bytes → All IsEndless ended →
    has_end rest ≡ false → (later : List ℕ) × (joined (onto_first b ended) ++ later ≡ b ∷ bytes) × All IsEndless (onto_first b ended)
    × (has_end later ≡ false) × (into_first b (ended ++ last_line rest) ≡ onto_first b ended ++ last_line later)
within_first b bytes [] rest test whole endless last = (b ∷ rest, ap (λ (bs : List ℕ). b ∷ bs) whole, endless, rw (test, last) refl, by_rest rest)
  where
    by_rest : (rest : List ℕ) → into_first b (last_line rest) ≡ (b ∷ rest) ∷ []
    by_rest [] = refl
    by_rest (c ∷ rest) = refl
within_first b bytes (line ∷ lines) rest test whole endless last = (
  rest,
  ap (λ (bs : List ℕ). b ∷ bs) whole,
  All-cons IsEndless (b ∷ line) lines (rw (test, All-head IsEndless line lines endless) refl) (All-tail IsEndless line lines endless),
  last,
  refl,
)

pub lines_are_the_bytes : LinesAreTheBytes
lines_are_the_bytes [] = record { rest = []; whole = refl; endless = All-nil IsEndless; last = refl; lines = refl }
lines_are_the_bytes (b ∷ bytes) = by_test (b == 10) refl (lines_are_the_bytes bytes)
  where
    by_test : (test : Bool) → (b == 10) ≡ test → AreLinesOf bytes → AreLinesOf (b ∷ bytes)
    by_test true is of = record {
      rest = of.rest;
      whole = rw is (let same : b ≡ 10 = eqb-true b 10 is in rw (same, of.whole) refl);
      endless = rw is (All-cons IsEndless [] (ended_lines bytes) refl of.endless);
      last = of.last;
      lines = rw is (ap (λ (lines : List (List ℕ)). [] ∷ lines) of.lines);
    }
    by_test false is of =
        let more = within_first b bytes (ended_lines bytes) of.rest is of.whole of.endless of.last in
        record { rest = more.0; whole = rw is more.1; endless = rw is more.2; last = more.3; lines = rw (is, of.lines) more.4 }
