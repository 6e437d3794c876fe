-- What is planned for an act, and when it is planned for an office.
use Rattle.std.specs.Prelude.{ℕ, ◌≡◌, Option, List, IfSome}
use Rattle.record_history.specs.Held.{IsWithin}
use Rattle.book_rows.specs.{declared.rows.Batch.Batch, declared.command.Command.Command, Book.Book}
use Rattle.office_core.specs.declared.drafting.Draft.{Draft}
use Rattle.office_answers.specs.Below.{office_step.declared.call.Capacity.Capacity, office_step.Acts.name_given, office_step.Known.known_of, office_step.Step.IsAppended, office_register.Registered.HasDates}

-- the rows that an act appends, its command, and the name of the household that it makes, if it makes one
pub record Planned : Type 0 where
  pub rows : Batch
  pub asked : Command
  pub name : Option (List ℕ)

-- what is planned for that command by a draft
abbrev pub planned_as : Command → Draft → Planned
planned_as asked draft = record { rows = draft.batch; asked = asked; name = draft.name }

-- the record lies within the bounds of every record
pub record HoldsRecord (step : Planned) : Type 0 where
  pub within : IfSome step.rows.made IsWithin
  pub dates : IfSome step.rows.made HasDates

-- an office of that capacity and book appends just these rows, for that command
pub record IsPlannedFor (capacity : Capacity) (book : Book) (step : Planned) : Type 0 where
  pub appends : IsAppended capacity book step.rows
  pub asked : appends.call.command ≡ step.asked
  pub name : step.name ≡ name_given (known_of book).applications step.asked
