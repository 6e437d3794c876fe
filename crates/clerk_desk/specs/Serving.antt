-- What a clerk is told of a call, and the book after it.
use Rattle.std.specs.Prelude.{◌≡◌, ◌⊎◌, ⊤, ℕ, Option, Some}
use Rattle.office_io.specs.Outside.{Faulted}
use Rattle.book_rows.specs.{declared.rows.Batch.Batch, Book.Book, Book.appended}
use Rattle.keeper_core.specs.declared.keeper.Keeper as keeper
use Rattle.keeper_core.specs.Keeping.{LeavesTold}
use Rattle.office_core.specs.Office.{Holding}
use Rattle.office_core.specs.Below.{office_answers.declared.reply.Reply.Reply, office_step.declared.call.Capacity.Capacity, office_step.Reply.done_of, office_step.Step.Outcome, office_step.Step.again, office_step.Step.refused, office_step.Step.appends, office_step.Step.IsAppended}
use Rattle.clerk_desk.specs.declared.serving.Booking.{Booking}

-- the reply to a call of which the office does this
abbrev pub reply_of : Book → Outcome → Reply
reply_of book (again done) = Reply.Accepted done
reply_of book (refused refusal) = Reply.Refused refusal
reply_of book (appends rows) = Reply.Accepted (done_of (appended book rows) rows.act)

-- the book after it
abbrev pub book_after : Book → Outcome → Book
book_after book (again done) = book
book_after book (refused refusal) = book
book_after book (appends rows) = appended book rows

-- it is the office's reply and the book after it; or the keeper failed or memory ran out, and the book is as before
abbrev pub Serves : Outcome → Book → Book → Reply → Type 0
Serves outcome old new (Reply.Accepted done) = (Reply.Accepted done ≡ reply_of old outcome) × (new ≡ book_after old outcome)
Serves outcome old new (Reply.Refused refusal) = (Reply.Refused refusal ≡ reply_of old outcome) × (new ≡ book_after old outcome)
Serves outcome old new _ = new ≡ old

-- the keeper is blamed only where it counted a fault
abbrev pub ReplyCause : ℕ → ℕ → Reply → Type 0
ReplyCause before now Reply.StoreFault = Faulted before now
ReplyCause before now _ = now ≡ before

-- ---- what a crash leaves

-- it left this book, which the office would have made of the one that it has by the rows of an act
pub record IsFurther (capacity : Capacity) (held made : Book) (after : Option Book) : Type 0 where
  pub rows : Batch
  pub appends_them : IsAppended capacity held rows
  pub makes : made ≡ appended held rows
  pub left : after ≡ Some made

-- the book now; or, where nothing was appended, what it could leave before
abbrev pub LeavesOnly : (old new : Book) → (Book → Type 0) → (Option Book → Type 0) → (Option Book → Type 0) → Type 0
LeavesOnly old new holds left leaves = (told : Book) → holds told → (after : Option Book) → leaves after → (after ≡ Some new) ⊎ ((new ≡ old) × left after)

-- one of these, or, where nothing was appended, a further book that is such
abbrev pub LeavesFurther : (Option Book → Type 0) → (old new : Book) → (Book → Type 0) → (Option Book → Type 0) → (Option Book → Type 0) → Type 0
LeavesFurther Is old new holds left leaves = (told : Book) → holds told → (after : Option Book) → leaves after →
    (after ≡ Some new) ⊎ ((new ≡ old) × (left after ⊎ Is after))

-- Only where the keeper failed or memory ran out may it leave the book that the call would have made.
abbrev pub ServeCrash : Capacity → (made old new : Book) → (Book → Type 0) → (Option Book → Type 0) → (Option Book → Type 0) → Reply → Type 0
ServeCrash capacity made old new holds left leaves (Reply.Accepted done) = LeavesOnly old new holds left leaves
ServeCrash capacity made old new holds left leaves (Reply.Refused refusal) = LeavesOnly old new holds left leaves
ServeCrash capacity made old new holds left leaves _ = LeavesFurther (IsFurther capacity old made) old new holds left leaves

-- ---- what came of a call

abbrev pub reply_to : Booking → Reply
reply_to (Booking.Booked done) = Reply.Accepted done
reply_to (Booking.Unsent reply) = reply
reply_to (Booking.Unkept step reply) = reply

-- the rows are what the office appends
pub record IsNewAct (outcome : Outcome) (office : Holding) (rows : Batch) : Type 0 where
  pub appends_them : outcome ≡ appends rows
  pub by_office : IsAppended office.capacity office.book rows

-- the first reply again, or the office's refusal, or that memory ran out
abbrev pub IsUnsentReply : Outcome → Reply → Type 0
IsUnsentReply outcome (Reply.Accepted done) = outcome ≡ again done
IsUnsentReply outcome (Reply.Refused refusal) = outcome ≡ refused refusal
IsUnsentReply outcome Reply.StoreFault = ⊥
IsUnsentReply outcome Reply.NoMemory = ⊤

-- that the keeper failed or memory ran out
abbrev pub IsUnkeptReply : Reply → Type 0
IsUnkeptReply (Reply.Accepted done) = ⊥
IsUnkeptReply (Reply.Refused refusal) = ⊥
IsUnkeptReply _ = ⊤

-- A new act was booked; or the keeper was sent nothing, and is as it was; or it was sent the rows of a new act and did not say it
-- kept them. In the last two cases the book is as before, and in the last a crash may leave it with the rows.
abbrev pub ComesTo : {K : Type 0} → keeper.Ghosts K → Outcome → Holding → K → Holding → K → Booking → Type 0
ComesTo tells outcome office was office_now now (Booking.Booked done) = (rows : Batch) × IsNewAct outcome office rows × (office_now.book ≡ appended office.book rows)
ComesTo tells outcome office was office_now now (Booking.Unsent reply) = IsUnsentReply outcome reply × (office_now.book ≡ office.book) × (now ≡ was)
ComesTo tells outcome office was office_now now (Booking.Unkept step reply) = IsUnkeptReply reply × IsNewAct outcome office step.rows × (office_now.book ≡ office.book)
    × (tells.tells_crash now → LeavesFurther (IsFurther office.capacity office.book (appended office.book step.rows)) office.book office_now.book (tells.holds now) (tells.leaves was) (tells.leaves now))

-- the book that the office has, or this and the rows of one further act that it would append
abbrev pub IsLeft : Capacity → Book → Option Book → Type 0
IsLeft capacity held after = (after ≡ Some held) ⊎ ((made : Book) × IsFurther capacity held made after)

-- Where a crash before could leave nothing but the book that was told, one now leaves in this way of the book that is told.
abbrev pub Outlives : (Book → Option Book → Type 0) → (Book → Type 0) → (Option Book → Type 0) → Type 0 → (Book → Type 0) → (Option Book → Type 0) → Type 0 → Type 0
Outlives Leaves holds leaves tells holds_now leaves_now tells_now =
    (tells → LeavesTold holds leaves) → tells_now → (now : Book) → holds_now now → (after : Option Book) → leaves_now after → Leaves now after
