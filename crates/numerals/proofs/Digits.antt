-- Reading digits from the left, and the text of a number.
use Rattle.std.proofs.Common.{◌≡◌, ◌∙◌, ℕ, ◌+◌, ◌-◌, ◌*◌, ◌^◌, ◌<◌, ◌≤◌, ◌&&◌, Bool, cond, true, false, leb, eqb, List, [], ◌∷◌, length, drop, get_or, Option, Some, None, refl, sym, ap, subst, inl, inr, rules, arith}
use Rattle.std.specs.Prelude.{decimal}
use Rattle.std.specs.Char.{is_ascii_digit}
use Rattle.std.specs.Str.{all_ascii_digits}
use Rattle.std.proofs.lemmas.Bool.{cases_Bool, eq-eqb, le-leb, lt-leb, ne_eqb, true≢false}
use Rattle.std.proofs.lemmas.Option.{cond_some, none-some}
use Rattle.std.proofs.lemmas.List.{at_drop_more, at_drop_all}
use Rattle.std.proofs.lemmas.Fmt.{decimal-digits_value, digits_decimal, digits_value-decimal, decimal_nonempty, first_decimal}
use Rattle.std.proofs.lemmas.Str.Parse.{IsNumeralModel, numerals_by_fold}
use Rattle.numerals.specs.Numerals.{begins_with_zero, if_between, is_numeral, number_after, number_between, number_of, plain_number_between}

-- what is read where these digits follow those of a number
abbrev pub found_after : ℕ → ℕ → ℕ → List ℕ → Option ℕ
found_after least most number text = cond (all_ascii_digits text) (if_between least most (number_after number text)) None

pub from_start : (least most : ℕ) (text : List ℕ) → eqb (length text) 0 ≡ false → number_between least most text ≡ found_after least most 0 text
unfolding number_between
from_start least most [] e = absurd (true≢false e)
from_start least most (x ∷ xs) e = refl

-- digits that follow never make the number smaller
grows : (number : ℕ) (digits : List ℕ) → number ≤ number_after number digits
grows number [] = omega arith
grows number (digit ∷ digits) = let more = grows (10 * number + (digit - 48)) digits in omega arith

no_room : (least most number : ℕ) (b : Bool) → most < number → cond b (if_between least most number) None ≡ None
no_room least most number false above = refl
no_room least most number true above = rw (lt-leb number most above) (go (leb least number))
  where
    go : (b : Bool) → cond (b && false) (Some number) None ≡ None
    go true = refl
    go false = refl

pub too_large : (least most number : ℕ) (digits : List ℕ) → most < number → found_after least most number digits ≡ None
too_large least most number digits above =
    no_room least most (number_after number digits) (all_ascii_digits digits) (let more = grows number digits in omega arith)

-- one digit more
pub next_digit : (least most number : ℕ) (text : List ℕ) (i d : ℕ) → i < length text → is_ascii_digit (get_or text i d) ≡ true
    → found_after least most number (drop i text) ≡ found_after least most (10 * number + (get_or text i d - 48)) (drop (i + 1) text)
next_digit least most number text i d inside digit =
    at_drop_more (found_after least most number) text i d inside
    ∙ ap (λ (b : Bool). cond (b && all_ascii_digits (drop (i + 1) text)) (if_between least most (number_after (10 * number + (get_or text i d - 48)) (drop (i + 1) text))) None) digit

pub no_digit : (least most number : ℕ) (text : List ℕ) (i d : ℕ) → i < length text → is_ascii_digit (get_or text i d) ≡ false
    → found_after least most number (drop i text) ≡ None
no_digit least most number text i d inside digit =
    at_drop_more (found_after least most number) text i d inside
    ∙ ap (λ (b : Bool). cond (b && all_ascii_digits (drop (i + 1) text)) (if_between least most (number_after (10 * number + (get_or text i d - 48)) (drop (i + 1) text))) None) digit

pub at_end : (least most number : ℕ) (text : List ℕ) (i : ℕ) → length text ≤ i → found_after least most number (drop i text) ≡ if_between least most number
at_end least most number text i past = at_drop_all (found_after least most number) text i past

-- ---- the text of a number

own : IsNumeralModel (λ digits. all_ascii_digits digits ≡ true) (number_after 0)
own = numerals_by_fold _ (search rules) number_after (search rules)

numeral_from : (text : List ℕ) → 0 < length text → all_ascii_digits text ≡ true → is_numeral text ≡ true
numeral_from [] above e = absurd (omega arith)
numeral_from (x ∷ xs) above e = e

numeral_parts : (text : List ℕ) → is_numeral text ≡ true → (0 < length text) × (all_ascii_digits text ≡ true)
numeral_parts [] e = absurd (true≢false (sym e))
numeral_parts (x ∷ xs) e = (omega arith, e)

is_between : (least most number : ℕ) → least ≤ number → number ≤ most → if_between least most number ≡ Some number
is_between least most number low high = rw (le-leb least number low, le-leb number most high) refl

pub reads_decimal : (least most number : ℕ) → least ≤ number → number ≤ most → number < 2 ^ 64 → number_between least most (decimal number) ≡ Some number
unfolding number_between
reads_decimal least most number low high fits =
    ap (λ b. cond b (if_between least most (number_of (decimal number))) None) (numeral_from (decimal number) (decimal_nonempty number fits) (digits_decimal own number fits))
    ∙ ap (if_between least most) (digits_value-decimal own number fits) ∙ is_between least most number low high

starts_above : (text : List ℕ) → 48 < get_or text 0 0 → begins_with_zero text ≡ false
starts_above [] above = absurd (omega arith)
starts_above (x ∷ xs) above = ne_eqb x 48 (λ e. omega arith)

pub reads_plain : (least most number : ℕ) → 0 < number → least ≤ number → number ≤ most → number < 2 ^ 64 → plain_number_between least most (decimal number) ≡ Some number
unfolding plain_number_between
reads_plain least most number above low high fits =
    rw (starts_above (decimal number) (first_decimal number above fits)) (reads_decimal least most number low high fits)

-- digits without a zero in front are their number's own text
zero_alone : (text : List ℕ) → begins_with_zero text ≡ false → get_or text 0 0 ≡ 48 → length text ≡ 1
zero_alone [] e first = absurd (omega arith)
zero_alone (x ∷ xs) e first = absurd (true≢false (sym (eq-eqb x 48 first) ∙ e))

pub written_plain : (least most number : ℕ) (text : List ℕ) → plain_number_between least most text ≡ Some number → number < 2 ^ 64 → text ≡ decimal number
unfolding plain_number_between number_between
written_plain least most number text read fits =
    elim (cases_Bool (begins_with_zero text)) [
      | inl zero ↦ absurd (none-some number (rw zero at read))
      | inr none ↦ elim (cases_Bool (is_numeral text)) [
        | inl numeral ↦
            let h = rw (none, numeral) at read in
            let parts = numeral_parts text numeral in
            let is = (cond_some _ (number_of text) number h).1 in
            let small : number_of text < 2 ^ 64 = subst (λ n. n < 2 ^ 64) (sym is) fits in
            sym (decimal-digits_value own text parts.1 parts.0 (zero_alone text none) small) ∙ ap decimal is
        | inr not_numeral ↦ absurd (none-some number (rw (none, not_numeral) at read))
      ]
    ]
