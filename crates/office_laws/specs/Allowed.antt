-- No cause stood against an act when it was accepted: rightful days, order, units and the rest (docs/REFUSALS.md, 2 to 23).
use Rattle.std.specs.Prelude.{ℕ}
use Rattle.book_rows.specs.{declared.rows.Batch.Batch, declared.command.Command.Command, Book.Book}
use Rattle.office_step.specs.{declared.call.Capacity.Capacity, declared.refusal.Refusal.Refusal, Known.Known, Known.known_of, Matter.matter_of, Step.IsAppended, Step.IsReached}
use Rattle.office_step.specs.plain.Acceptance.{StandsAgainst}

-- none of the causes stands against the act, by what was known before it, on its day, where a book may hold so many acts
abbrev pub IsAllowed : ℕ → Known → Batch → Command → Type 0
IsAllowed most known rows asked = (refusal : Refusal) → ¬ StandsAgainst most rows.act.day (matter_of known asked) refusal

abbrev pub ActsAreAllowed : Type 0
ActsAreAllowed = (capacity : Capacity) (book : Book) (rows : Batch) → IsReached capacity book → (appends : IsAppended capacity book rows) →
    IsAllowed capacity.acts (known_of book) rows appends.call.command
