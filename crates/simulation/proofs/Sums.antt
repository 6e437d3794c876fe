-- What is requested and what is adjusted come together to all.
use Rattle.std.proofs.Common.{◌≡◌, ◌∷◌, ◌==◌, [], ℤ, ◌+ℤ◌, List, Bool, true, false, cond, not, refl, arith}
use Rattle.std.proofs.lemmas.Int.{ints}
use Rattle.voucher_core.specs.{declared.line.Line.Line, Lines.total}
use Rattle.simulation.specs.Trial.{adjusting_lines, own_lines}

kept_left : (a x y z : ℤ) → x +ℤ y ≡ z → (a +ℤ x) +ℤ y ≡ a +ℤ z
kept_left a x y z is = omega (arith, ints, is)

kept_right : (a x y z : ℤ) → x +ℤ y ≡ z → x +ℤ (a +ℤ y) ≡ a +ℤ z
kept_right a x y z is = omega (arith, ints, is)

in_one : (passes : Bool) (line : Line) (xs ys zs : List Line) → total xs +ℤ total ys ≡ total zs
    → total (cond passes (line ∷ xs) xs) +ℤ total (cond (not passes) (line ∷ ys) ys) ≡ total (line ∷ zs)
in_one true line xs ys zs is = kept_left line.amount (total xs) (total ys) (total zs) is
in_one false line xs ys zs is = kept_right line.amount (total xs) (total ys) (total zs) is

pub both : (lines : List Line) → total (own_lines lines) +ℤ total (adjusting_lines lines) ≡ total lines
both [] = refl
both (line ∷ lines) = in_one (line.for_month == line.month) line (own_lines lines) (adjusting_lines lines) lines (both lines)
