-- What it comes to that rows are appended to a book.
use Rattle.std.specs.Prelude.{◌≡◌, ℕ, ◌+◌, true, None, length}
use Rattle.book_rows.specs.{declared.rows.Batch.Batch, Book.Book}
use Rattle.command_forms.specs.{Holdable.IsHoldable, Commands.body_of}
use Rattle.office_step.specs.{declared.call.Call.Call, declared.call.Capacity.Capacity, Known.known_of, Made.record_of, Made.lines_of, Refusals.repeated, Refusals.request_reused, Refusals.lines_full, Against.refused_by}
use Rattle.office_step.specs.Step.{act_day, step, appends, is_fit_call, IsAppended}

-- the call is no repeat, nothing refuses it, and the rows are those of its act
pub record Accepted (capacity : Capacity) (book : Book) (call : Call) (rows : Batch) : Type 0 where
  pub is_new : repeated book.acts call.clerk call.request (body_of call.command) ≡ None
  pub is_unused : request_reused book.acts call.clerk call.request (body_of call.command) ≡ None
  pub is_allowed : refused_by (known_of book) capacity.acts rows.act.day call.command ≡ None
  pub has_room : lines_full (length book.lines) (length rows.lines) capacity.lines ≡ None
  pub n : rows.act.n ≡ length book.acts + 1
  pub clerk : rows.act.clerk ≡ call.clerk
  pub request : rows.act.request ≡ call.request
  pub day : rows.act.day ≡ act_day book.acts rows.act.day
  pub body : rows.act.body ≡ body_of call.command
  pub made : rows.made ≡ record_of (known_of book) call.command
  pub lines : rows.lines ≡ lines_of (known_of book) call.command

-- the rows that are appended are those of a call that was accepted
abbrev pub AppendedIsAccepted : Type 0
AppendedIsAccepted = (capacity : Capacity) (book : Book) (rows : Batch) → (appends : IsAppended capacity book rows) →
    Accepted capacity book appends.call rows

-- the rows that the office appends for a call in a session, while the clock shows a day, are appended for their own session
-- and day too
abbrev pub NewIsAppended : Type 0
NewIsAppended = (capacity : Capacity) (book : Book) (session clock : ℕ) (call : Call) (rows : Batch) →
    is_fit_call call ≡ true → IsHoldable call.command → step book capacity session clock call ≡ appends rows → IsAppended capacity book rows
