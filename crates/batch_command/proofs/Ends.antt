-- Which lines of the input were answered, by what was taken of it.
use Rattle.std.proofs.Common.{refl, ◌≡◌, ◌≤◌, ◌<◌, inl, inr, ℕ, List, [], ◌∷◌, ◌++◌, None, Some, IfSome, length, sym, ap, ◌∙◌, append-nil, append_assoc, arith}
use Rattle.std.specs.Prelude.{Option, All}
use Rattle.std.specs.Io.KnownBytes.{Consumes, Keeps, IsAtEnd, prepend_known}
use Rattle.std.proofs.{KnownBytes.Consumes-kept, KnownBytes.Consumes-trans, KnownBytes.Consumes-whole, lemmas.Option.IfSome_then}
use Rattle.line_input.specs.{Lines.IsEndless, Lines.lines_of, Lines.joined, Reading.BeginsLong}
use Rattle.line_input.proofs.Passed.{FirstIsLong, lines_of-line, lines_of-last, ended_lines-none, lines_of-joined, ended_lines-joined, first_is_long}
use Rattle.batch_command.specs.Batch.{line_limit, most_lines, Follows}
use Rattle.batch_command.specs.declared.ending.Ending.{Ending}

-- a line that isn't empty is there alone
lines_of-alone : (line : List ℕ) → IsEndless line → 0 < length line → lines_of line ≡ line ∷ []
lines_of-alone [] endless some = absurd (omega arith)
lines_of-alone (b ∷ line) endless some = lines_of-last b line endless

-- what was taken of the input, and what is left of it, are the input
by_taken : (left now : Option (List ℕ)) (taken : List ℕ) (P : List ℕ → Type 0) → Consumes left now taken → ((rest : List ℕ) → now ≡ Some rest → P (taken ++ rest)) → IfSome left P
by_taken None now taken P consumed each = tt
by_taken (Some x) None taken P consumed each = absurd consumed
by_taken (Some x) (Some y) taken P consumed each = rw consumed (each y refl)

long_line : (bytes : List ℕ) → BeginsLong line_limit bytes → (line : List ℕ) × (others : List (List ℕ)) × (lines_of bytes ≡ line ∷ others) × (line_limit < length line)
long_line bytes long = by_front long.front long.whole long.endless long.long
  where
    by_front : (front : List ℕ) → bytes ≡ front ++ long.rest → IsEndless front → line_limit < length front
        → (line : List ℕ) × (others : List (List ℕ)) × (lines_of bytes ≡ line ∷ others) × (line_limit < length line)
    by_front [] whole endless more = absurd (omega arith)
    by_front (b ∷ front) whole endless more =
        let first : FirstIsLong ((b ∷ front) ++ long.rest) (length (b ∷ front)) = first_is_long b front long.rest endless in
        let most : length (b ∷ front) ≤ length first.line = first.long in
        (first.line, first.others, ap lines_of whole ∙ first.lines, omega arith)

-- where a reader that holds some bytes has none left, its source has none
pub none_behind : (held : List ℕ) (left : Option (List ℕ)) → IsAtEnd (prepend_known held left) → IsAtEnd left
none_behind held None ended = tt
none_behind [] (Some x) ended = ended
none_behind (b ∷ held) (Some x) ended = absurd (cc)

-- a front of the lines was taken
abbrev pub IsFront : List ℕ → List (List ℕ) → Type 0
IsFront input lines = (rest : List (List ℕ)) × (lines_of input ≡ lines ++ rest)

-- the front is all of them
pub is_front_last : (left : Option (List ℕ)) (lines : List (List ℕ)) → IfSome left (λ input. lines ≡ lines_of input) → IfSome left (λ input. IsFront input lines)
is_front_last left lines is = IfSome_then left is (λ input all. ([], sym all ∙ sym (append-nil lines)))

pub follows_failed : (left known left_now : Option (List ℕ)) (rest : List ℕ) (lines : List (List ℕ)) → Consumes left known (joined lines) → All IsEndless lines
    → Keeps known (prepend_known rest left_now) → IsEndless rest → IfSome left (λ input. Follows input left_now lines Ending.ReadFault)
follows_failed None known left_now rest lines taken endless kept one = tt
follows_failed (Some x) None left_now rest lines taken endless kept one = absurd taken
follows_failed (Some x) (Some y) None rest lines taken endless kept one = absurd kept
follows_failed (Some x) (Some y) (Some z) rest lines taken endless kept one = (
  joined lines ++ rest,
  taken ∙ ap (λ l. joined lines ++ l) (sym kept) ∙ sym (append_assoc (joined lines) rest z),
  sym (ended_lines-joined lines rest endless ∙ ap (λ ls. lines ++ ls) (ended_lines-none rest one) ∙ append-nil lines),
)

module _ (left known : Option (List ℕ)) (lines : List (List ℕ)) (taken : Consumes left known (joined lines)) (endless : All IsEndless lines) where
  pub is_front : IfSome left (λ input. IsFront input lines)
  is_front = by_taken left known (joined lines) (λ input. IsFront input lines) taken (λ rest there. (lines_of rest, lines_of-joined lines rest endless))

  -- nothing is left
  pub follows_done : (now left_now : Option (List ℕ)) → Keeps known now → IsAtEnd now → IsAtEnd left_now →
      IfSome left (λ input. Follows input left_now lines Ending.Done)
  follows_done now left_now kept ended at_end =
      Consumes-whole left now (joined lines) (λ input. (lines ≡ lines_of input) × IsAtEnd left_now) (Consumes-kept left known now (joined lines) taken kept) ended
      (sym (simp append-nil at (lines_of-joined lines [] endless)), at_end)

  -- the last line was taken
  last_taken : (last : List ℕ) → IsEndless last → 0 < length last → lines_of (joined lines ++ last) ≡ lines ++ last ∷ []
  last_taken last one some = lines_of-joined lines last endless ∙ rw (lines_of-alone last one some) refl

  pub follows_last : (now : Option (List ℕ)) (last : List ℕ) → IsEndless last → 0 < length last → Consumes known now last → IsAtEnd now
      → IfSome left (λ input. lines ++ last ∷ [] ≡ lines_of input)
  follows_last now last one some consumed ended =
      Consumes-whole left now (joined lines ++ last) (λ input. lines ++ last ∷ [] ≡ lines_of input) (Consumes-trans left known now (joined lines) last taken consumed) ended
      (sym (last_taken last one some))

  -- the next line is too long
  pub follows_long : (now left_now : Option (List ℕ)) → Keeps known now → IfSome now (BeginsLong line_limit)
      → IfSome left (λ input. Follows input left_now lines Ending.TooLong)
  follows_long now left_now kept long =
      by_taken left now (joined lines) (λ input. Follows input left_now lines Ending.TooLong) (Consumes-kept left known now (joined lines) taken kept) (λ rest there.
      (let first = long_line rest (rw there at long) in
      (first.0, first.1, lines_of-joined lines rest endless ∙ ap (λ ls. lines ++ ls) first.2, inr first.3)))

  -- the next line was taken, and its end
  pub next_line : (now : Option (List ℕ)) (line : List ℕ) → IsEndless line → Consumes known now (line ++ 10 ∷ [])
      → IfSome left (λ input. (rest : List (List ℕ)) × (lines_of input ≡ lines ++ line ∷ rest))
  next_line now line one consumed =
      by_taken left now (joined lines ++ (line ++ 10 ∷ [])) (λ input. (rest : List (List ℕ)) × (lines_of input ≡ lines ++ line ∷ rest))
      (Consumes-trans left known now (joined lines) (line ++ 10 ∷ []) taken consumed) (λ rest there.
      (lines_of rest, simp append_assoc (lines_of-joined lines (line ++ 10 ∷ rest) endless ∙ ap (λ ls. lines ++ ls) (lines_of-line line rest one))))

  -- one line more than there may be
  pub follows_more : (now left_now : Option (List ℕ)) (line : List ℕ) → IsEndless line → Consumes known now (line ++ 10 ∷ []) → length lines ≡ most_lines
      → IfSome left (λ input. Follows input left_now lines Ending.TooLong)
  follows_more now left_now line one consumed many =
      IfSome_then left (next_line now line one consumed) (λ input next. (line, next.0, next.1, inl many))

  pub follows_more_last : (now left_now : Option (List ℕ)) (last : List ℕ) → IsEndless last → 0 < length last → Consumes known now last → IsAtEnd now
      → length lines ≡ most_lines → IfSome left (λ input. Follows input left_now lines Ending.TooLong)
  follows_more_last now left_now last one some consumed ended many =
      Consumes-whole left now (joined lines ++ last) (λ input. Follows input left_now lines Ending.TooLong)
      (Consumes-trans left known now (joined lines) last taken consumed) ended (last, [], last_taken last one some, inl many)
