-- All lines as CSV.
use Rattle.std.specs.Prelude.{ℕ, List, [], ◌∷◌, ◌++◌, codes, decimal}
use Rattle.std.specs.{Fmt.signed_decimal, List.flat_map}
use Rattle.days_core.specs.DayText.{day_text, month_text}
use Rattle.voucher_core.specs.declared.line.Line.{Line}
use Rattle.csv_records.specs.Records.{record_text}

abbrev pub column_names : List (List ℕ)
column_names =
    codes "closing" ∷ codes "household" ∷ codes "for_month" ∷ codes "first" ∷ codes "last" ∷ codes "old" ∷ codes "new" ∷ codes "amount" ∷ []

abbrev pub fields_of_line : Line → List (List ℕ)
fields_of_line line =
    month_text line.month ∷ decimal line.household ∷ month_text line.for_month ∷ day_text line.first ∷ day_text line.last
    ∷ decimal line.old ∷ decimal line.new ∷ signed_decimal line.amount ∷ []

abbrev pub line_record : Line → List ℕ
line_record line = record_text (fields_of_line line)

-- the header, and a record for each line in its order
abbrev pub lines_text : List Line → List ℕ
lines_text lines = record_text column_names ++ flat_map line_record lines
