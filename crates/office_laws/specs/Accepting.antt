-- The laws of acceptance hold of every book that an office comes to: all that is known by it is sound.
use Rattle.std.specs.Prelude.{ℕ}
use Rattle.book_rows.specs.{declared.command.Command.Command, Book.Book}
use Rattle.office_step.specs.{declared.call.Call.Call, declared.call.Capacity.Capacity, Known.known_of, Matter.matter_of, Step.IsReached}
use Rattle.office_step.specs.plain.Acceptance.{IsSound, IsNew, HasRoom, IsAcceptedPlainly}

-- whatever is asked of the book, all that is known by it is sound
abbrev pub ReachedBooksAreSound : Type 0
ReachedBooksAreSound = (capacity : Capacity) (book : Book) → IsReached capacity book → (asked : Command) → IsSound (matter_of (known_of book) asked)

-- in any session, on whatever day the clock shows
abbrev pub AcceptanceOfReachedBooks : Type 0
AcceptanceOfReachedBooks = (capacity : Capacity) (book : Book) → IsReached capacity book → (session clock : ℕ) (call : Call) →
    IsNew book call → HasRoom capacity book call → IsAcceptedPlainly capacity book session clock call
