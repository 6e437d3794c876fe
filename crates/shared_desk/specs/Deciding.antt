-- What is decided of a call while its pass is held, and what is so whenever no pass is.
use Rattle.std.specs.Prelude.{◌≡◌, ⊤, ◌⊎◌, Option, Some, List, [], ◌∷◌, ◌++◌, Contains}
use Rattle.book_rows.specs.{declared.rows.Batch.Batch, Book.Book, Book.appended}
use Rattle.clerk_desk.specs.Below.office_answers.declared.reply.Reply.{Reply}
use Rattle.clerk_desk.specs.Below.office_step.{declared.call.Capacity.Capacity, Step.Outcome, Step.again, Step.refused, Step.appends, Step.IsAppended}
use Rattle.keeper_core.specs.declared.keeper.Keeper as keeper
use Rattle.clerk_desk.specs.Below.office_core.Office.{Holding}
use Rattle.clerk_desk.specs.{OpenBook.IsOpen, Serving.reply_of}
use Rattle.desk_history.specs.declared.views.{BookView.BookView, HoldingView.HoldingView}
use Rattle.shared_desk.specs.declared.naming.Naming as naming
use Rattle.shared_desk.specs.History.{book_in, capacity_of, tables_at, IsLegalHistory}

-- ---- what the lock keeps

-- the tables with rows that were tried, and that the office would append to them
pub record IsTriedOn (capacity : Capacity) (held : Book) (tried : List Batch) (after : Option Book) : Type 0 where
  pub rows : Batch
  pub were_tried : Contains tried rows
  pub appends_them : IsAppended capacity held rows
  pub left : after ≡ Some (appended held rows)

-- the tables, or these and the rows of one further act that was tried
abbrev pub IsLeftBy : Capacity → Book → List Batch → Option Book → Type 0
IsLeftBy capacity held tried after = (after ≡ Some held) ⊎ IsTriedOn capacity held tried after

-- The office's tables are those after the book's history, which is legal; the keeper tells these tables and no others, and
-- told the opening ones when the desk was opened; and its faults are those of the book's view. A keeper that is well tells
-- the tables, if it told a book when the desk was opened. A stop leaves the tables, or these and the rows of one act that was
-- tried, where the keeper tells what one may leave, and what one would have left was known when the desk was opened.
pub record IsBetweenCalls {B K : Type 0} (desk : naming.Ghosts B) (tells : keeper.Ghosts K) (office : Holding) (its : K) (book : BookView) : Type 0 where
  pub tables : office.book ≡ tables_at book.start book.list
  pub capacity_is : office.capacity ≡ capacity_of book.start
  pub legal : IsLegalHistory book.start book.list
  pub kept : IsOpen tells office its
  pub first : (now : Book) → tells.holds its now → desk.told (book_in book.start.opening)
  pub on : tells.is_well its → (was : Book) → desk.told was → tells.holds its office.book
  pub faults_are : tells.faults its ≡ book.faults
  pub survives : desk.sound → tells.tells_crash its → (now : Book) → tells.holds its now → (after : Option Book) → tells.leaves its after → IsLeftBy office.capacity office.book book.tried after

-- ---- what is decided

-- the pass that is held stays what it was when it came, and so does the start of the desk
pub record HoldsOn (old new : HoldingView) : Type 0 where
  pub pass : new.pass ≡ old.pass
  pub found : new.found ≡ old.found
  pub start : new.book.start ≡ old.book.start
  pub next : new.book.next ≡ old.book.next

-- the call was booked: its row is appended, nothing was tried in vain, and the reply is the office's on the tables before
pub record Books (outcome : Outcome) (held : Book) (old new : HoldingView) (reply : Reply) : Type 0 where
  pub rows : Batch
  pub appends_them : outcome ≡ appends rows
  pub list : new.book.list ≡ old.book.list ++ rows.act ∷ []
  pub since : new.since ≡ old.since ++ rows.act ∷ []
  pub tries_since : new.tries ≡ old.tries
  pub replied : reply ≡ reply_of held (appends rows)

-- the reply to a call that isn't booked: to a repeat the first reply again, or the office's refusal; or the keeper failed or
-- memory ran out
abbrev pub IsReplied : Outcome → Reply → Type 0
IsReplied outcome (Reply.Accepted done) = outcome ≡ again done
IsReplied outcome (Reply.Refused refusal) = outcome ≡ refused refusal
IsReplied outcome _ = ⊤

-- the one try of a call: the rows that the office appends
pub record IsTheTry (outcome : Outcome) (tries : List Batch) : Type 0 where
  pub rows : Batch
  pub appends_them : outcome ≡ appends rows
  pub one : tries ≡ rows ∷ []

-- what was tried of a call that isn't booked: nothing, or the rows that the office appends, where the keeper failed or memory
-- ran out
abbrev pub AreTries : Outcome → List Batch → Reply → Type 0
AreTries outcome tries Reply.StoreFault = IsTheTry outcome tries
AreTries outcome tries Reply.NoMemory = (tries ≡ []) ⊎ IsTheTry outcome tries
AreTries outcome tries _ = tries ≡ []

-- nothing was booked
pub record Rests (outcome : Outcome) (old new : HoldingView) (reply : Reply) : Type 0 where
  pub list : new.book.list ≡ old.book.list
  pub since : new.since ≡ old.since
  pub replied : IsReplied outcome reply
  pub tries : List Batch
  pub tried : AreTries outcome tries reply
  pub tries_since : new.tries ≡ old.tries ++ tries

abbrev pub Decides : Outcome → Book → HoldingView → HoldingView → Reply → Type 0
Decides outcome held old new reply = Books outcome held old new reply ⊎ Rests outcome old new reply
