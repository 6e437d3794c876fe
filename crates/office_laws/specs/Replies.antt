-- What a reply tells, and that a repeat gets the reply that its act got.
use Rattle.std.specs.Prelude.{◌≡◌, ℕ, Contains}
use Rattle.record_history.specs.declared.records.Record.{Record}
use Rattle.book_rows.specs.{declared.rows.ActRow.ActRow, declared.rows.Batch.Batch, Book.Book, Book.appended}
use Rattle.command_forms.specs.Commands.{body_of}
use Rattle.office_step.specs.{declared.call.Call.Call, declared.call.Capacity.Capacity, Reply.done_of, plain.Replies.TellsRecord}
use Rattle.office_laws.specs.History.{IsLater}
use Rattle.office_step.specs.Step.{IsAppended, IsReached, step, again}

-- the row is of the call's clerk, request and command
pub record IsOf (call : Call) (row : ActRow) : Type 0 where
  pub clerk : row.clerk ≡ call.clerk
  pub request : row.request ≡ call.request
  pub body : row.body ≡ body_of call.command

-- the reply to each act that made a record tells what that certifies
abbrev pub RepliesTellRecords : Type 0
RepliesTellRecords = (capacity : Capacity) (book : Book) → IsReached capacity book → (row : ActRow) → Contains book.acts row →
    (r : Record) → Contains book.records r → r.act ≡ row.n → TellsRecord r (done_of book row).made

-- later acts leave the reply to an act
abbrev pub RepliesStay : Type 0
RepliesStay = (capacity : Capacity) (book later : Book) → IsReached capacity book → IsLater capacity book later →
    (row : ActRow) → Contains book.acts row → done_of later row ≡ done_of book row

-- the call of an act is given the reply to that act again, in any session and on any day
abbrev pub RepeatsAreAnswered : Type 0
RepeatsAreAnswered = (capacity : Capacity) (book : Book) → IsReached capacity book → (row : ActRow) → Contains book.acts row →
    (call : Call) → IsOf call row → (session clock : ℕ) → step book capacity session clock call ≡ again (done_of book row)

-- and on any later book it is given the very reply that it got when its rows were appended
abbrev pub FirstRepliesAreGivenAgain : Type 0
FirstRepliesAreGivenAgain = (capacity : Capacity) (book : Book) (rows : Batch) → IsReached capacity book →
    (appends : IsAppended capacity book rows) → (later : Book) → IsLater capacity (appended book rows) later →
    (session clock : ℕ) → step later capacity session clock appends.call ≡ again (done_of (appended book rows) rows.act)
