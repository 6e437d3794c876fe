-- Who waits, in plain facts.
use Rattle.std.specs.Prelude.{◌≡◌, ◌↔◌, ◌+◌, ℕ, Some, Contains, slice_get}
use Rattle.wait_list.specs.{declared.applicant.Applicant.Applicant, Rank.best_rank}
use Rattle.book_rows.specs.{declared.rows.ActRow.ActRow, declared.command.Command.Command, Book.Book}
use Rattle.command_forms.specs.Commands.{command_in}
use Rattle.office_step.specs.{declared.known.Application.Application, Acts.ranks_of, Known.Known, Known.known_of}

-- an application is an act of the book by which somebody applied
pub record IsActOf (book : Book) (application : Application) : Type 0 where
  pub row : ActRow
  pub there : Contains book.acts row
  pub n : row.n ≡ application.act
  pub reads : command_in row.body ≡ Some (Command.Apply application.apply)

-- the applicant of an application: its number says which it is, from 1, and the rest is what its act says
pub record AppliedBy (known : Known) (applicant : Applicant) : Type 0 where
  pub place : ℕ
  pub application : Application
  pub applied : slice_get known.applications place ≡ Some application
  pub number : applicant.number ≡ place + 1
  pub act : applicant.act ≡ application.act
  pub size : applicant.size ≡ application.apply.size
  pub persons : applicant.persons ≡ application.apply.persons
  pub rank : applicant.rank ≡ best_rank (ranks_of known.plan) application.apply.preferences
  pub accessible : applicant.accessible ≡ application.apply.accessible
  pub annual : applicant.annual ≡ application.apply.annual

-- the act removes or admits the applicant of that number
abbrev pub TakesOff : ℕ → Command → Type 0
TakesOff number (Command.Remove remove) = remove.applicant ≡ number
TakesOff number (Command.Admit admit) = admit.applicant ≡ number
TakesOff number _ = ⊥

-- who applied, and was neither removed nor admitted: an admission that is withdrawn later brings nobody back
pub record IsWaiting (book : Book) (applicant : Applicant) : Type 0 where
  pub applied : AppliedBy (known_of book) applicant
  pub stayed : (row : ActRow) (asked : Command) → Contains book.acts row → command_in row.body ≡ Some asked → ¬ TakesOff applicant.number asked

pub record ThoseWaitWhoApplied (book : Book) : Type 0 where
  pub applications : (application : Application) → Contains (known_of book).applications application ↔ IsActOf book application
  pub waiting : (applicant : Applicant) → Contains (known_of book).waiting applicant ↔ IsWaiting book applicant
