-- What the form tells of the lines of a closing.
use Rattle.std.proofs.Common.{◌≡◌, ◌∙◌, ◌≤◌, ◌+◌, ◌-◌, ◌++◌, ◌∷◌, [], ℕ, ℤ, ◌+ℤ◌, List, Bool, true, false, cond, not, filter, length, replicate, refl, sym, nat_eq, arith}
use Rattle.std.proofs.lemmas.Int.{ints}
use Rattle.std.specs.List.{join_with_byte}
use Rattle.std.proofs.lemmas.List.{length-append, length-replicate}
use Rattle.std.proofs.lemmas.List.Sorted.{IsPermutation-filter_both}
use Rattle.text_columns.specs.Columns.{left, right}
use Rattle.voucher_core.specs.{declared.line.Line.Line, Lines.total}
use Rattle.office_core.specs.Below.office_answers.Vouchers.{lines_of_closing}
use Rattle.forms_text.specs.Form.{adjusting_columns, own_columns}
use Rattle.forms_text.specs.Laws.{AdjustingRowsLineUp, ColumnsLineUp, EachLineOnce, OwnRowsLineUp, TotalsAreSums}

-- ---- each line once

pub each_line_once : EachLineOnce
each_line_once month lines =
    IsPermutation-filter_both (λ (line : Line). nat_eq line.for_month month) (λ line. not (nat_eq line.for_month month)) (λ _. refl) (lines_of_closing month lines)

-- ---- sums

kept_left : (a x y z : ℤ) → x +ℤ y ≡ z → (a +ℤ x) +ℤ y ≡ a +ℤ z
kept_left a x y z is = omega (arith, ints, is)

kept_right : (a x y z : ℤ) → x +ℤ y ≡ z → x +ℤ (a +ℤ y) ≡ a +ℤ z
kept_right a x y z is = omega (arith, ints, is)

in_one : (passes : Bool) (line : Line) (xs ys zs : List Line) → total xs +ℤ total ys ≡ total zs
    → total (cond passes (line ∷ xs) xs) +ℤ total (cond (not passes) (line ∷ ys) ys) ≡ total (line ∷ zs)
in_one true line xs ys zs is = kept_left line.amount (total xs) (total ys) (total zs) is
in_one false line xs ys zs is = kept_right line.amount (total xs) (total ys) (total zs) is

both : (p : Line → Bool) (lines : List Line) → total (filter p lines) +ℤ total (filter (λ l. not (p l)) lines) ≡ total lines
both p [] = refl
both p (line ∷ lines) = in_one (p line) line (filter p lines) (filter (λ l. not (p l)) lines) lines (both p lines)

pub totals_are_sums : TotalsAreSums
totals_are_sums month lines = record {
  requested = refl;
  adjustments = refl;
  both = sym (both (λ line. nat_eq line.for_month month) (lines_of_closing month lines));
}

-- ---- columns

right_width : (width : ℕ) (part : List ℕ) → length part ≤ width → length (right width part) ≡ width
right_width width part fits = length-append (replicate (width - length part) 32) part ∙ omega (arith, length-replicate {A = ℕ} (width - length part) 32, fits)

left_width : (width : ℕ) (part : List ℕ) → length part ≤ width → length (left width part) ≡ width
left_width width part fits = length-append part (replicate (width - length part) 32) ∙ omega (arith, length-replicate {A = ℕ} (width - length part) 32, fits)

joined : (x y : List ℕ) (xs : List (List ℕ)) → length (join_with_byte 32 (x ∷ y ∷ xs)) ≡ length x + (length (join_with_byte 32 (y ∷ xs)) + 1)
joined x y xs = length-append x (32 ∷ join_with_byte 32 (y ∷ xs)) ∙ omega arith

row_width : (a b c d e f g : List ℕ) →
    length (join_with_byte 32 (a ∷ b ∷ c ∷ d ∷ e ∷ f ∷ g ∷ []) ++ 10 ∷ [])
    ≡ length a + length b + length c + length d + length e + length f + length g + 7
row_width a b c d e f g =
    length-append (join_with_byte 32 (a ∷ b ∷ c ∷ d ∷ e ∷ f ∷ g ∷ [])) (10 ∷ [])
    ∙ omega (arith, joined a b (c ∷ d ∷ e ∷ f ∷ g ∷ []), joined b c (d ∷ e ∷ f ∷ g ∷ []), joined c d (e ∷ f ∷ g ∷ []), joined d e (f ∷ g ∷ []), joined e f (g ∷ []), joined f g [])

own_rows_line_up : OwnRowsLineUp
unfolding own_columns
own_rows_line_up household unit first last number amount name h u f l n a =
    row_width (right 9 household) (left 10 unit) (left 10 first) (left 10 last) (right 6 number) (right 10 amount) name
    ∙ omega (arith, right_width 9 household h, left_width 10 unit u, left_width 10 first f, left_width 10 last l, right_width 6 number n, right_width 10 amount a)

adjusting_rows_line_up : AdjustingRowsLineUp
unfolding adjusting_columns
adjusting_rows_line_up household month first last old new amount h m f l o n a =
    row_width (right 9 household) (left 7 month) (left 10 first) (left 10 last) (right 6 old) (right 6 new) (right 10 amount)
    ∙ omega (arith, right_width 9 household h, left_width 7 month m, left_width 10 first f, left_width 10 last l, right_width 6 old o, right_width 6 new n, right_width 10 amount a)

pub columns_line_up : ColumnsLineUp
columns_line_up = (own_rows_line_up, adjusting_rows_line_up)
