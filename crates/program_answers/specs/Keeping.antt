-- What comes of the keeper of a book by a run of the program or a server.
use Rattle.std.specs.Prelude.{Option}
use Rattle.book_rows.specs.Book.{Book}
use Rattle.batch_command.specs.Below.clerk_desk.Serving.{IsLeft, Outlives}
use Rattle.program_answers.specs.Opening.{largest}

-- a keeper that is well tells a book now, where it told one
abbrev pub StillTells : (holds : Book → Type 0) (well : Type 0) → (Book → Type 0) → Type 0
StillTells holds well holds_now = well → (book : Book) → holds book → (now : Book) × holds_now now

-- a stop leaves the book that is told, or this and the rows of one further act that the office of that book would append
abbrev pub OutlivesStops : (holds : Book → Type 0) (leaves : Option Book → Type 0) → Type 0 → (holds_now : Book → Type 0) (leaves_now : Option Book → Type 0) → Type 0 → Type 0
OutlivesStops = Outlives (IsLeft largest)
