-- What holds of every book that an office can come to.
use Rattle.std.specs.Prelude.{◌≡◌, ◌≤◌, ◌<◌, ℕ, ◌+◌, true, false, None, List, [], length, slice_index_or, All, AllPairs, IfSome, IsSomeAnd}
use Rattle.record_history.specs.declared.records.Record.{Record}
use Rattle.voucher_core.specs.declared.line.Line.{Line}
use Rattle.book_rows.specs.{declared.rows.ActRow.ActRow, declared.rows.Batch.Batch, Book.Book, Book.IsBatch, Book.IsBefore, Fit.is_fit}
use Rattle.command_forms.specs.Commands.{command_in}
use Rattle.days_core.specs.OfficeDays.{first_office_day, last_office_day}
use Rattle.office_step.specs.{declared.call.Capacity.Capacity, Refusals.is_request_of, Step.IsAppended, Step.IsReached}
use Rattle.office_step.specs.Acts.{Act, acts_of, plan_of, applications_of, takes_off_list, household_count, ask_in}

-- the number of one of so many
pub record IsOneOf (count number : ℕ) : Type 0 where
  pub least : 1 ≤ number
  pub most : number ≤ count

-- a day of the years 2000 to 2099
pub record IsOfOffice (day : ℕ) : Type 0 where
  pub least : first_office_day ≤ day
  pub most : day ≤ last_office_day

-- The acts have the numbers 1, 2 and so on; each is of a fit command; their days are of the years 2000 to 2099 and never
-- fall; and none is of the clerk and request of another before it.
pub record AreActs (rows : List ActRow) : Type 0 where
  pub numbers : (place : ℕ) (d : ActRow) → place < length rows → (slice_index_or rows place d).n ≡ place + 1
  pub fit : All (λ row. IsSomeAnd (command_in row.body) (λ asked. is_fit asked ≡ true)) rows
  pub years : All (λ row. IsOfOffice row.day) rows
  pub days : AllPairs (λ row next. row.day ≤ next.day) rows
  pub once : AllPairs (λ row next. is_request_of next.clerk next.request row ≡ false) rows

-- each record and each line is of one of so many acts, a record of a later one than the record before it, and a line of no
-- earlier one than the line before it
pub record AreOfActs (count : ℕ) (records : List Record) (lines : List Line) : Type 0 where
  pub of_records : All (λ r. r.act ≤ count) records
  pub of_lines : All (λ line. line.act ≤ count) lines
  pub records_rise : AllPairs (λ r next. r.act < next.act) records
  pub lines_rise : AllPairs (λ line next. line.act ≤ next.act) lines

-- the plan comes first, and acts and records name applicants and households that are there
pub record NamesOnlyThose (acts : List Act) (records : List Record) : Type 0 where
  pub planned : plan_of acts ≡ None → acts ≡ []
  pub off : All (λ act. (number : ℕ) → takes_off_list number act.command ≡ true → IsOneOf (length (applications_of acts)) number) acts
  pub asked : All (λ act. IfSome (ask_in act.command) (λ ask. IsOneOf (household_count acts) ask.household)) acts
  pub held : All (λ r. IsOneOf (household_count acts) r.household) records

-- no more acts and lines than the capacity
pub record FitsIn (capacity : Capacity) (book : Book) : Type 0 where
  pub acts : length book.acts ≤ capacity.acts
  pub lines : length book.lines ≤ capacity.lines

pub record Kept (capacity : Capacity) (book : Book) : Type 0 where
  pub acts : AreActs book.acts
  pub made : AreOfActs (length book.acts) book.records book.lines
  pub names : NamesOnlyThose (acts_of book.acts) book.records
  pub room : FitsIn capacity book

abbrev pub BooksAreKept : Type 0
BooksAreKept = (capacity : Capacity) (book : Book) → IsReached capacity book → Kept capacity book

-- the rows that are appended are those of one act, and every row before is of an act before it
abbrev pub BatchesFollow : Type 0
BatchesFollow = (capacity : Capacity) (book : Book) (rows : Batch) → IsReached capacity book → IsAppended capacity book rows →
    IsBatch rows × IsBefore book rows.act.n
