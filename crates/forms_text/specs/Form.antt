-- The application for the payments of a month (form HUD-52670 in outline; the layout is the office's own).
use Rattle.std.specs.Prelude.{ℕ, ◌==◌, not, if◌then◌else◌, option_and_then, option_map, unwrap_or, List, [], ◌∷◌, ◌++◌, filter, find, map, nat_eq, codes, decimal}
use Rattle.std.specs.{Fmt.signed_decimal, List.flat_map, Set.distinct_count}
use Rattle.days_core.specs.DayText.{day_text, month_text}
use Rattle.record_history.specs.declared.records.Record.{Record}
use Rattle.rent_table.specs.{declared.rows.Unit.Unit as UnitRow, Table.unit_at}
use Rattle.voucher_core.specs.declared.line.Line.{Line}
use Rattle.book_rows.specs.Book.{Book}
use Rattle.office_core.specs.Below.office_step.{Known.Known, Known.known_of, Known.own_in}
use Rattle.office_core.specs.Below.office_answers.{declared.answer.Voucher.Voucher, Households.name_in, Vouchers.is_closed, Vouchers.voucher_of}
use Rattle.text_columns.specs.Columns.{labelled, left, line, right, row}

-- ---- the schedule of the month itself

unfoldable pub own_columns : List ℕ → List ℕ → List ℕ → List ℕ → List ℕ → List ℕ → List ℕ → List ℕ
own_columns household unit first last record_number amount name =
    row (right 9 household ∷ left 10 unit ∷ left 10 first ∷ left 10 last ∷ right 6 record_number ∷ right 10 amount ∷ name ∷ [])

-- the name of the unit of the record by which a line is paid
abbrev pub unit_name : Known → Line → List ℕ
unit_name known line =
    unwrap_or (option_map (λ (unit : UnitRow). unit.name)
    (option_and_then (λ (held : Record). unit_at known.units held.unit) (find (λ r. r.number == line.new) (own_in known line.household)))) []

unfoldable pub own_line : Known → Line → List ℕ
own_line known line =
    own_columns (decimal line.household) (unit_name known line) (day_text line.first) (day_text line.last) (decimal line.new) (signed_decimal line.amount) (name_in known line.household)

abbrev pub own_header : List ℕ
own_header = own_columns (codes "Household") (codes "Unit") (codes "First") (codes "Last") (codes "Record") (codes "Amount") (codes "Name")

-- the lines for the month itself
abbrev pub own_lines : Voucher → List Line
own_lines voucher = filter (λ line. line.for_month == voucher.month) voucher.lines

unfoldable pub own_schedule : Known → Voucher → List ℕ
own_schedule known voucher = codes "SCHEDULE OF TENANT ASSISTANCE PAYMENTS DUE\n" ++ own_header ++ flat_map (own_line known) (own_lines voucher)

-- ---- the schedule of earlier months

unfoldable pub adjusting_columns : List ℕ → List ℕ → List ℕ → List ℕ → List ℕ → List ℕ → List ℕ → List ℕ
adjusting_columns household month first last old new amount =
    row (right 9 household ∷ left 7 month ∷ left 10 first ∷ left 10 last ∷ right 6 old ∷ right 6 new ∷ right 10 amount ∷ [])

unfoldable pub adjusting_line : Line → List ℕ
adjusting_line line =
    adjusting_columns (decimal line.household) (month_text line.for_month) (day_text line.first) (day_text line.last) (decimal line.old) (decimal line.new) (signed_decimal line.amount)

abbrev pub adjusting_header : List ℕ
adjusting_header = adjusting_columns (codes "Household") (codes "Month") (codes "First") (codes "Last") (codes "Old") (codes "New") (codes "Amount")

-- the lines that change earlier months
abbrev pub adjusting_lines : Voucher → List Line
adjusting_lines voucher = filter (λ line. not (line.for_month == voucher.month)) voucher.lines

unfoldable pub adjusting_schedule : Voucher → List ℕ
adjusting_schedule voucher = codes "SCHEDULE OF ADJUSTMENTS\n" ++ adjusting_header ++ flat_map adjusting_line (adjusting_lines voucher)

-- ---- the form

-- how many households the lines name
abbrev pub household_count : List Line → ℕ
household_count lines = distinct_count nat_eq (map (λ line. line.household) lines)

unfoldable pub heading : Voucher → List ℕ
heading voucher =
    codes "FORM HUD-52670 (office layout)\n"
    ++ labelled (codes "Month: ") (month_text voucher.month)
    ++ labelled (codes "Households: ") (decimal (household_count (own_lines voucher)))
    ++ labelled (codes "Requested: ") (signed_decimal voucher.requested)
    ++ labelled (codes "Adjustments: ") (signed_decimal voucher.adjustments)
    ++ labelled (codes "Total: ") (signed_decimal voucher.total)

-- the heading and the two schedules, with an empty line between each two
unfoldable pub form_text : Known → Voucher → List ℕ
form_text known voucher = heading voucher ++ codes "\n" ++ own_schedule known voucher ++ codes "\n" ++ adjusting_schedule voucher

abbrev pub not_closed : ℕ → List ℕ
not_closed month = codes "month " ++ month_text month ++ codes " is not closed\n"

-- the form of a month that is closed
abbrev pub voucher_text : Book → ℕ → List ℕ
voucher_text book month =
    if is_closed (known_of book).plan (known_of book).closing month then form_text (known_of book) (voucher_of month book.lines) else not_closed month
