-- What a trial tells: how many acts and lines an office has that answered the lines of a made office, and what those amount to.
use Rattle.std.specs.Prelude.{ℕ, ◌==◌, ◌+ℤ◌, not, List, ◌++◌, filter, length, map, codes, decimal}
use Rattle.std.specs.{Fmt.signed_decimal, List.enumerate_from}
use Rattle.text_columns.specs.Columns.{labelled}
use Rattle.voucher_core.specs.{declared.line.Line.Line, Lines.total}
use Rattle.book_rows.specs.Book.{Book, empty_book}
use Rattle.generator.specs.{declared.act.MadeAct.MadeAct, Acts.made_acts, Lines.made_line}
use Rattle.batch_command.specs.{Below.office_step.declared.call.Capacity.Capacity, Output.Given, Output.batch_output}

-- ---- the book

-- an act's line, on the day of the act
abbrev pub given_of : ℕ × MadeAct → Given
given_of numbered = record { line = made_line numbered; day = numbered.1.day }

-- with requests from 1 on
abbrev pub given_acts : List MadeAct → List Given
given_acts acts = map given_of (enumerate_from 1 acts)

-- the book after these lines, from an empty one on
abbrev pub book_after : Capacity → List MadeAct → Book
book_after capacity acts = (batch_output capacity empty_book (given_acts acts)).book

-- ---- its sums

-- the lines that are for the month of their closing, and those that change earlier months
abbrev pub own_lines : List Line → List Line
own_lines lines = filter (λ line. line.for_month == line.month) lines

abbrev pub adjusting_lines : List Line → List Line
adjusting_lines lines = filter (λ line. not (line.for_month == line.month)) lines

unfoldable pub summary : Book → List ℕ
summary book =
    labelled (codes "acts ") (decimal (length book.acts))
    ++ labelled (codes "lines ") (decimal (length book.lines))
    ++ labelled (codes "requested ") (signed_decimal (total (own_lines book.lines)))
    ++ labelled (codes "adjustments ") (signed_decimal (total (adjusting_lines book.lines)))
    ++ labelled (codes "total ") (signed_decimal (total (own_lines book.lines) +ℤ total (adjusting_lines book.lines)))

-- what a trial of so many units writes
abbrev pub trial_text : Capacity → ℕ → List ℕ
trial_text capacity units = summary (book_after capacity (made_acts units))
