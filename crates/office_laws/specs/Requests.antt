-- What a household said last of another unit, by the acts of a book.
use Rattle.std.specs.Prelude.{◌≡◌, ◌↔◌, ◌≤◌, ℕ, Some, Contains}
use Rattle.book_rows.specs.{declared.command.Command.Command, declared.moves.AskTransferAct.AskTransferAct, declared.rows.ActRow.ActRow, Book.Book}
use Rattle.command_forms.specs.Commands.{command_in}
use Rattle.office_step.specs.{declared.call.Capacity.Capacity, declared.known.Request.Request, Candidates.request_in, Known.known_of, Step.IsReached}

-- the row is of the act by which the household said that
pub record SaysBy (row : ActRow) (household : ℕ) (request : Request) : Type 0 where
  pub ask : AskTransferAct
  pub reads : command_in row.body ≡ Some (Command.AskTransfer ask)
  pub household_is : ask.household ≡ household
  pub act : request.act ≡ row.n
  pub wanted : request.wanted ≡ ask.wanted
  pub accessible : request.accessible ≡ ask.accessible

-- an act of the book says that, and no later one says anything of the household
pub record SaidLast (book : Book) (household : ℕ) (request : Request) : Type 0 where
  pub row : ActRow
  pub held : Contains book.acts row
  pub says : SaysBy row household request
  pub last : (other : ActRow) (its : Request) → Contains book.acts other → SaysBy other household its → other.n ≤ row.n

abbrev pub RequestsAreLast : Type 0
RequestsAreLast = (capacity : Capacity) (book : Book) → IsReached capacity book → (household : ℕ) (request : Request) →
    (request_in (known_of book).requests household ≡ Some request) ↔ SaidLast book household request
