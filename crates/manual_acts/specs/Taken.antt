-- What is told of an office's acts, one after another: what each asks, makes and is answered. And that an office takes them.
use Rattle.std.specs.Prelude.{ℕ, ℤ, ◌+◌, ◌≤◌, ◌≡◌, Option, Some, None, List, [], ◌∷◌, length, ⊤}
use Rattle.record_history.specs.declared.records.Record.{Record}
use Rattle.voucher_core.specs.declared.line.Line.{Line}
use Rattle.book_rows.specs.{declared.command.Command.Command, declared.rows.Batch.Batch, Book.Book, Book.empty_book, Book.appended}
use Rattle.command_forms.specs.Commands.{body_of}
use Rattle.office_step.specs.{declared.call.Call.Call, declared.call.Capacity.Capacity, declared.reply.Made.Made, Reply.done_of, Step.step, Step.appends, Step.IsReached}
use Rattle.manual_acts.specs.Commands.{close}

-- an act: the clerk's request, its day, what it asks, the record that it makes, the lines of its closing, and the reply
pub record Told : Type 0 where
  pub request : ℕ
  pub day : ℕ
  pub asked : Command
  pub made : Option Record
  pub lines : List Line
  pub reply : Made

-- an act that makes neither record nor lines, one that makes a record, and a closing
abbrev pub sets : ℕ → ℕ → Command → Made → Told
sets request day asked reply = record { request = request; day = day; asked = asked; made = None; lines = []; reply = reply }

abbrev pub makes : ℕ → ℕ → Command → Record → Made → Told
makes request day asked made reply = record { request = request; day = day; asked = asked; made = Some made; lines = []; reply = reply }

abbrev pub closes : ℕ → ℕ → ℕ → List Line → Made → Told
closes request day month lines reply = record { request = request; day = day; asked = close month; made = None; lines = lines; reply = reply }

-- a line of the closing of a month by that act, at that place: it pays a household for days of a month, by that record and
-- where another was paid by before less that
abbrev pub line : ℕ → ℕ → ℕ → ℕ → ℕ → ℕ → ℕ → ℕ → ℕ → ℤ → Line
line act month place household for_month first last old new amount = record {
  act = act;
  place = place;
  month = month;
  household = household;
  for_month = for_month;
  first = first;
  last = last;
  old = old;
  new = new;
  amount = amount;
}

-- ---- books

-- the call of clerk 1
abbrev pub call_of : Told → Call
call_of told = record { clerk = 1; request = told.request; command = told.asked }

-- its rows as the act of that number, in session 1
unfoldable pub batch_of : ℕ → Told → Batch
batch_of n told = record {
  act = record { n = n; session = 1; clerk = 1; request = told.request; day = told.day; body = body_of told.asked };
  made = told.made;
  lines = told.lines;
}

-- the number of the next act
abbrev pub next_number : Book → ℕ
next_number book = length book.acts + 1

-- the book with one act more, and with all of these
abbrev pub with_act : Book → Told → Book
with_act book told = appended book (batch_of (next_number book) told)

abbrev pub with_acts : Book → List Told → Book
with_acts book [] = book
with_acts book (told ∷ more) = with_acts (with_act book told) more

-- ---- what is taken

-- the office takes the act of that number on the book: it appends its rows, and replies what is told
pub record IsTaken (capacity : Capacity) (book : Book) (n : ℕ) (told : Told) : Type 0 where
  pub accepted : step book capacity 1 told.day (call_of told) ≡ appends (batch_of n told)
  pub answered : done_of (appended book (batch_of n told)) (batch_of n told).act ≡ record { act = n; day = told.day; made = told.reply }

-- and each of these, one after another
unfoldable pub AreTaken : Capacity → Book → List Told → Type 0
AreTaken capacity book [] = ⊤
AreTaken capacity book (told ∷ more) = IsTaken capacity book (next_number book) told × AreTaken capacity (with_act book told) more

-- from nothing on the office takes them all, and comes to the book with them
pub record Takes (capacity : Capacity) (acts : List Told) : Type 0 where
  pub taken : AreTaken capacity empty_book acts
  pub reached : IsReached capacity (with_acts empty_book acts)

-- room for what the manual tells
pub record HasRoom (capacity : Capacity) : Type 0 where
  pub acts : 27 ≤ capacity.acts
  pub lines : 29 ≤ capacity.lines
