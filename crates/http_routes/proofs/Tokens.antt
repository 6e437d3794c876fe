-- The tokens of a route's text take of a path what its steps take.
use Rattle.std.proofs.Common.{◌≡◌, ℕ, ◌==◌, ◌&&◌, not, Bool, true, false, cond, List, [], ◌∷◌, ◌++◌, suc, length, refl, sym, ap, ◌∙◌, arith}
use Rattle.std.specs.{List.list_all, Prelude.bytes_eq, Prelude.nat_lt}
use Rattle.std.proofs.lemmas.Bool.{and_left, and_parts, lt-ltb, eqb-false, eqb-true, ltb-true, ne_eqb, not-true}
use Rattle.http_routes.specs.{Paths.Step, Paths.behind, Paths.fits, Paths.part_of, Paths.value, Paths.word, Table.tokens_of}
use Rattle.http_routes.proofs.Walks.{token_fits}

-- a byte of a word, which is no slash
abbrev pub is_plain_byte : ℕ → Bool
is_plain_byte b = nat_lt b 256 && not (b == 47)

abbrev pub are_plain : List Step → Bool
are_plain [] = true
are_plain (word text ∷ steps) = list_all is_plain_byte text && are_plain steps
are_plain (value ∷ steps) = are_plain steps

same_and : (a b c : Bool) → (a && (b && c)) ≡ ((a && b) && c)
same_and true b c = refl
same_and false b c = refl

-- the steps that are left are taken from a slash on, or are none
ends_here : (steps : List Step) (c : ℕ) (path : List ℕ) → (c == 47) ≡ false → fits steps (c ∷ path) ≡ false
ends_here [] c path other = refl
ends_here (step ∷ steps) c path other = and_left _ _ (ne_eqb 47 c (λ e. eqb-false c 47 other (sym e)))

-- a word and what follows it, behind a slash
word_fits : (text : List ℕ) (steps : List Step) → list_all is_plain_byte text ≡ true
    → ((path : List ℕ) → token_fits (tokens_of steps) path ≡ fits steps path) → (path : List ℕ)
    → token_fits (text ++ tokens_of steps) path ≡ (bytes_eq text (part_of path) && fits steps (behind path))
word_fits [] steps plain rest [] = rest []
word_fits [] steps plain rest (c ∷ path) = rest (c ∷ path) ∙ by (c == 47) refl
  where
    by : (v : Bool) → (c == 47) ≡ v
        → fits steps (c ∷ path) ≡ (bytes_eq [] (cond v [] (c ∷ part_of path)) && fits steps (cond v (c ∷ path) (behind path)))
    by true is = refl
    by false is = ends_here steps c path is
word_fits (x ∷ text) steps plain rest [] = refl
word_fits (x ∷ text) steps plain rest (c ∷ path) = rw no_value (by (word_fits text steps (and_parts (is_plain_byte x) (list_all is_plain_byte text) plain).1 rest path) (c == 47) refl)
  where
    no_value : (x == 256) ≡ false
    no_value = ne_eqb x 256 (λ e. omega (arith, ltb-true x 256 (and_parts (nat_lt x 256) (not (x == 47)) (and_parts (is_plain_byte x) (list_all is_plain_byte text) plain).0).0))

    no_slash : (x == 47) ≡ false
    no_slash = not-true _ (and_parts (nat_lt x 256) (not (x == 47)) (and_parts (is_plain_byte x) (list_all is_plain_byte text) plain).0).1

    by : token_fits (text ++ tokens_of steps) path ≡ (bytes_eq text (part_of path) && fits steps (behind path)) → (v : Bool) → (c == 47) ≡ v → (x == c && token_fits (text ++ tokens_of steps) path)
        ≡ (bytes_eq (x ∷ text) (cond v [] (c ∷ part_of path)) && fits steps (cond v (c ∷ path) (behind path)))
    by later true is = and_left _ _ (ne_eqb x c (λ e. eqb-false x 47 no_slash (e ∙ eqb-true c 47 is)))
    by later false is =
        ap (λ (v : Bool). x == c && v) later
        ∙ same_and (x == c) (bytes_eq text (part_of path)) (fits steps (behind path))

value_fits : (steps : List Step) → ((path : List ℕ) → token_fits (tokens_of steps) path ≡ fits steps path) → (path : List ℕ)
    → token_fits (256 ∷ tokens_of steps) path ≡ (nat_lt 0 (length (part_of path)) && fits steps (behind path))
value_fits steps rest [] = refl
value_fits steps rest (c ∷ path) = by (c == 47)
  where
    by : (v : Bool) → (not v && token_fits (tokens_of steps) (behind path))
        ≡ (nat_lt 0 (length (cond v [] (c ∷ part_of path))) && fits steps (cond v (c ∷ path) (behind path)))
    by true = refl
    by false = rest (behind path) ∙ sym (ap (λ (v : Bool). v && fits steps (behind path)) (lt-ltb 0 (suc (length (part_of path))) (omega arith)))

pub token_fits_steps : (steps : List Step) → are_plain steps ≡ true → (path : List ℕ) → token_fits (tokens_of steps) path ≡ fits steps path
token_fits_steps [] plain [] = refl
token_fits_steps [] plain (b ∷ path) = refl
token_fits_steps (word text ∷ steps) plain [] = refl
token_fits_steps (word text ∷ steps) plain (b ∷ path) =
    let both = and_parts (list_all is_plain_byte text) (are_plain steps) plain in
    ap (λ (v : Bool). 47 == b && v) (word_fits text steps both.0 (token_fits_steps steps both.1) path)
token_fits_steps (value ∷ steps) plain [] = refl
token_fits_steps (value ∷ steps) plain (b ∷ path) =
    ap (λ (v : Bool). 47 == b && v) (value_fits steps (token_fits_steps steps plain) path)
