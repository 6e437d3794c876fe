-- What rows of applicants are answered with, and which of them were answered.
use Rattle.std.specs.Prelude.{◌≡◌, ◌⊎◌, ℕ, Option, Some, None, List, ◌++◌, All, Contains, map, Result, Ok, Err, codes}
use Rattle.book_rows.specs.Book.{Book}
use Rattle.applicant_rows.specs.declared.row.ImportRow.{ImportRow}
use Rattle.batch_command.specs.Below.office_step.declared.call.Capacity.{Capacity}
use Rattle.batch_command.specs.Below.json_front.declared.line.BatchLine.{BatchLine}
use Rattle.batch_command.specs.{declared.ending.Ending.Ending, Line.IsMadeBy, Output.Told, Output.told_by, Output.output, Answers.Writes}

-- a row, and the day that the clock showed for it
pub record GivenRow : Type 0 where
  pub row : ImportRow
  pub day : ℕ

-- a row is a line that tells no day of its own, or one whose first bad path is `row`
abbrev pub line_of_row : ImportRow → Result BatchLine (List ℕ)
line_of_row (ImportRow.Call call) = Ok (BatchLine.Act None call)
line_of_row ImportRow.Bad = Err (codes "row")

-- what a row is answered with, and the book after it
abbrev pub told_of_row : Capacity → Book → GivenRow → Told
told_of_row capacity book given = told_by capacity book given.day (line_of_row given.row)

abbrev pub rows_in : List GivenRow → List ImportRow
rows_in given = map (λ g. g.row) given

-- all rows were answered, or a front of them
abbrev pub AreFront : List ImportRow → List ImportRow → Ending → Type 0
AreFront rows answered Ending.Done = answered ≡ rows
AreFront rows answered Ending.TooLong = ⊥
AreFront rows answered Ending.ReadFault = ⊥
AreFront rows answered _ = (rest : List ImportRow) × (rows ≡ answered ++ rest)

-- These rows were answered, each on a day that the clock may show: the book is the one after them, and what was written is
-- their answers. `held` is what the sink held before and now.
pub record RowsRan (capacity : Capacity) (shows : ℕ → Type 0) (rows : List ImportRow) (old new : Book) (held held_now : Option (List ℕ)) (end : Ending) : Type 0 where
  pub given : List GivenRow
  pub shown : All (λ g. shows g.day) given
  pub front : AreFront rows (rows_in given) end
  pub book : new ≡ (output (told_of_row capacity) old given).book
  pub writes : Writes (told_of_row capacity) old given held held_now end

-- a crash leaves the book that the office has, or the one that it would have made of it by one of the rows
abbrev pub LeavesByRow : Capacity → (ℕ → Type 0) → List ImportRow → Book → Option Book → Type 0
LeavesByRow capacity shows rows held after =
    (after ≡ Some held)
    ⊎ ((row : ImportRow) × Contains rows row
    × IsMadeBy shows capacity held (λ day. told_of_row capacity held (record { row = row; day = day })) after)
