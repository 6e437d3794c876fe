-- A number read digit by digit, up to a bound.
use Rattle.std.proofs.Common.{◌≡◌, ℕ, ◌+◌, ◌*◌, ◌-◌, ◌<◌, ◌≤◌, ◌∙◌, min, true, false, List, [], ◌∷◌, length, take, drop, get_or, refl, sym, ap, arith}
use Rattle.std.specs.{Char.digit_value, Char.is_ascii_digit, List.list_all, Prelude.Err, Prelude.Ok, Prelude.nat_lt, Str.Parse.digits_value, Str.Parse.digits_value_after}
use Rattle.std.proofs.lemmas.{Bool.and_from, Bool.and_right, Bool.le-ltb, Bool.lt-ltb, Bool.Decides.nat_tests, List.Folds.list_all_at, List.at_drop_more, List.drop_all, List.take_all}
use Rattle.http_heads.specs.{Headers.is_number, Headers.length_from, declared.fault.Fault.Fault}

-- numbers that agree up to the bound do so after more digits
pub capped : (most n m : ℕ) (digits : List ℕ) → min n most ≡ min m most
    → min (digits_value_after 10 n digits) most ≡ min (digits_value_after 10 m digits) most
capped most n m [] same = same
capped most n m (d ∷ digits) same = capped most (n * 10 + digit_value d) (m * 10 + digit_value d) digits (step n m (digit_value d) same)
  where
    step : (a b v : ℕ) → min a most ≡ min b most → min (a * 10 + v) most ≡ min (b * 10 + v) most
    step a b v e = omega arith

-- ---- the length that a value says, as its digits are read

pub no_digit : (digits : List ℕ) → length digits ≡ 0 → Err Fault.BadLength ≡ length_from digits
unfolding length_from
no_digit [] none = refl
no_digit (d ∷ digits) none = absurd (omega arith)

pub bad_digit : (digits : List ℕ) (i : ℕ) → i < length digits → is_ascii_digit (get_or digits i 0) ≡ false → Err Fault.BadLength ≡ length_from digits
unfolding length_from
bad_digit digits i below bad =
    rw (and_right (nat_lt 0 (length digits)) (list_all is_ascii_digit digits) (list_all_at is_ascii_digit digits i 0 below bad)) refl

digit_is : (d : ℕ) → is_ascii_digit d ≡ true → digit_value d ≡ d - 48
digit_is d is = grind (arith, nat_tests, is)

pub next_digit : (digits : List ℕ) (count i next : ℕ) → i < length digits → is_ascii_digit (get_or digits i 0) ≡ true
    → next ≡ min (count * 10 + (get_or digits i 0 - 48)) 16385
    → min (digits_value_after 10 count (drop i digits)) 16385 ≡ min (digits_value 10 digits) 16385
    → min (digits_value_after 10 next (drop (i + 1) digits)) 16385 ≡ min (digits_value 10 digits) 16385
next_digit digits count i next below is next_is so_far =
    let d = get_or digits i 0 in
    let more : min (digits_value_after 10 count (drop i digits)) 16385 ≡ min (digits_value_after 10 (count * 10 + digit_value d) (drop (i + 1) digits)) 16385 =
    at_drop_more (λ (l : List ℕ). min (digits_value_after 10 count l) 16385) digits i 0 below in
    let value = digit_is d is in
    let same : min next 16385 ≡ min (count * 10 + digit_value d) 16385 = omega (arith, next_is, value) in
    capped 16385 next (count * 10 + digit_value d) (drop (i + 1) digits) same ∙ sym more ∙ so_far

-- at the end of the digits
at_end : (digits : List ℕ) (count i : ℕ) → length digits ≤ i → min (digits_value_after 10 count (drop i digits)) 16385 ≡ min (digits_value 10 digits) 16385
    → min count 16385 ≡ min (digits_value 10 digits) 16385
at_end digits count i past so_far =
    sym (ap (λ (l : List ℕ). min (digits_value_after 10 count l) 16385) (drop_all i digits past)) ∙ so_far

number_there : (digits : List ℕ) (i : ℕ) → 0 < length digits → length digits ≤ i → list_all is_ascii_digit (take i digits) ≡ true → is_number digits ≡ true
number_there digits i some past all =
    and_from _ _ (lt-ltb 0 (length digits) some) (ap (list_all is_ascii_digit) (sym (take_all i digits past)) ∙ all)

pub long_length : (digits : List ℕ) (count i : ℕ) → 0 < length digits → length digits ≤ i → list_all is_ascii_digit (take i digits) ≡ true
    → min (digits_value_after 10 count (drop i digits)) 16385 ≡ min (digits_value 10 digits) 16385 → 16384 < count → Err Fault.BodyTooLong ≡ length_from digits
unfolding length_from
long_length digits count i some past all so_far long =
    let same = at_end digits count i past so_far in
    let above : 16384 < digits_value 10 digits = omega (arith, same) in
    rw (number_there digits i some past all, lt-ltb 16384 (digits_value 10 digits) above) refl

pub good_length : (digits : List ℕ) (count i : ℕ) → 0 < length digits → length digits ≤ i → list_all is_ascii_digit (take i digits) ≡ true
    → min (digits_value_after 10 count (drop i digits)) 16385 ≡ min (digits_value 10 digits) 16385 → count ≤ 16384 → Ok count ≡ length_from digits
unfolding length_from
good_length digits count i some past all so_far few =
    let same = at_end digits count i past so_far in
    let is : count ≡ digits_value 10 digits = omega (arith, same) in
    let below : digits_value 10 digits ≤ 16384 = omega arith in
    rw (number_there digits i some past all, le-ltb 16384 (digits_value 10 digits) below) (ap Ok is)
