-- What the form tells of the lines of a closing.
use Rattle.std.specs.Prelude.{◌≡◌, ◌≤◌, ℕ, ◌+◌, ◌+ℤ◌, List, ◌++◌, length, IsPermutation}
use Rattle.voucher_core.specs.{declared.line.Line.Line, Lines.total}
use Rattle.office_core.specs.Below.office_answers.{declared.answer.Voucher.Voucher, Vouchers.lines_of_closing, Vouchers.voucher_of}
use Rattle.forms_text.specs.Form.{adjusting_columns, adjusting_lines, own_columns, own_lines}

-- each line of the closing stands in one row of one of the schedules
abbrev pub EachLineOnce : Type 0
EachLineOnce = (month : ℕ) (lines : List Line)
    → IsPermutation (lines_of_closing month lines) (own_lines (voucher_of month lines) ++ adjusting_lines (voucher_of month lines))

-- the sums that are printed are those of the lines in the schedules, and of both
pub record IsSummed (voucher : Voucher) : Type 0 where
  pub requested : voucher.requested ≡ total (own_lines voucher)
  pub adjustments : voucher.adjustments ≡ total (adjusting_lines voucher)
  pub both : voucher.total ≡ voucher.requested +ℤ voucher.adjustments

abbrev pub TotalsAreSums : Type 0
TotalsAreSums = (month : ℕ) (lines : List Line) → IsSummed (voucher_of month lines)

-- where the first six fit their columns, the name begins at the same place in each row
abbrev pub OwnRowsLineUp : Type 0
OwnRowsLineUp = (household unit first last number amount name : List ℕ)
    → length household ≤ 9 → length unit ≤ 10 → length first ≤ 10 → length last ≤ 10 → length number ≤ 6 → length amount ≤ 10
    → length (own_columns household unit first last number amount name) ≡ 61 + length name + 1

-- and where all fit theirs, each row has the same width
abbrev pub AdjustingRowsLineUp : Type 0
AdjustingRowsLineUp = (household month first last old new amount : List ℕ)
    → length household ≤ 9 → length month ≤ 7 → length first ≤ 10 → length last ≤ 10 → length old ≤ 6 → length new ≤ 6 → length amount ≤ 10
    → length (adjusting_columns household month first last old new amount) ≡ 64 + 1

abbrev pub ColumnsLineUp : Type 0
ColumnsLineUp = OwnRowsLineUp × AdjustingRowsLineUp
