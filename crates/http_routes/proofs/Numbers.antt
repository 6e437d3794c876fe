-- Numbers as std reads them.
use Rattle.std.proofs.Common.{◌≡◌, ℕ, ◌<◌, ◌≤◌, ◌^◌, ◌==◌, true, false, List, [], ◌∷◌, length, ◌⊎◌, inl, inr, refl, ap, subst, arith}
use Rattle.std.specs.{Char.digit_value, Char.is_ascii_digit, List.list_all, Prelude.Err, Prelude.None, Prelude.Ok, Prelude.Result, Prelude.Some, Prelude.nat_lt, Result.OkIff, Result.result_ok, Str.Parse.AllDigits, Str.Parse.IsNumeral, Str.Parse.ParsesUnsigned, Str.Parse.digits_value, Str.Parse.without_leading_plus}
use Rattle.std.proofs.lemmas.{Bool.and_parts, Bool.and_right, Bool.le-leb, Bool.leb-true, Bool.lt-leb, Bool.lt-ltb, Bool.ne_eqb, Bool.true≢false, Bool.Decides.nat_tests, Bool.cases_lt}
use Rattle.http_routes.specs.Asks.{number_from}

no_sign : (text : List ℕ) → list_all is_ascii_digit text ≡ true → 0 < length text → without_leading_plus text ≡ text
no_sign [] all some = absurd (omega arith)
no_sign (c ∷ cs) all some =
    let low : 48 ≤ c = leb-true 48 c (and_parts _ _ (and_parts _ _ all).0).0 in
    rw (ne_eqb c 43 (λ e. omega arith)) refl

digit_small : (c : ℕ) → is_ascii_digit c ≡ true → digit_value c < 10
digit_small c is = grind (arith, nat_tests, is)

all_digits : (text : List ℕ) → list_all is_ascii_digit text ≡ true → AllDigits 10 text
all_digits [] all = tt
all_digits (c ∷ cs) all = let both = and_parts (is_ascii_digit c) (list_all is_ascii_digit cs) all in (digit_small c both.0, all_digits cs both.1)

pub number_parsed : {E : Type 0} (text : List ℕ) (read : Result ℕ E) → ParsesUnsigned 32 10 text read → list_all is_ascii_digit text ≡ true
    → 0 < length text → result_ok read ≡ number_from text
unfolding number_from
number_parsed {E} text read parses all some =
    by read (subst (λ (l : List ℕ). OkIff read (IsNumeral 10 l × (digits_value 10 l < 2 ^ 32)) (digits_value 10 l)) (no_sign text all some) parses)
  where
    by : (read : Result ℕ E) → OkIff read (IsNumeral 10 text × (digits_value 10 text < 2 ^ 32)) (digits_value 10 text) → result_ok read ≡ number_from text
    by (Ok number) (is, same) =
        rw (lt-ltb 0 (length text) some, all, le-leb (digits_value 10 text) 4294967295 (omega (arith, is.1))) (ap Some same)
    by (Err e) not = by_size (cases_lt (digits_value 10 text) 4294967296)
      where
        by_size : (digits_value 10 text < 4294967296) ⊎ (4294967296 ≤ digits_value 10 text) → None ≡ number_from text
        by_size (inl small) = absurd (not ((some, all_digits text all), small))
        by_size (inr large) = rw (lt-leb (digits_value 10 text) 4294967295 (omega arith), and_right _ _ refl) refl

pub no_number : (text : List ℕ) → list_all is_ascii_digit text ≡ false → None ≡ number_from text
unfolding number_from
no_number text none = rw (none, and_right (nat_lt 0 (length text)) false refl) refl

pub empty_number : (text : List ℕ) → length text ≡ 0 → None ≡ number_from text
unfolding number_from
empty_number [] none = refl
empty_number (c ∷ cs) none = absurd (omega arith)

pub not_empty : (text : List ℕ) → (length text == 0) ≡ false → 0 < length text
not_empty [] some = absurd (true≢false some)
not_empty (c ∷ cs) some = omega arith
