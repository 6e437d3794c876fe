-- What the answer to a call says of the office's step.
use Rattle.std.specs.Prelude.{◌≡◌, ⊤, Result, Ok, Err}
use Rattle.book_rows.specs.Book.{Book}
use Rattle.office_answers.specs.Below.office_step.{declared.call.Capacity.Capacity, Step.Outcome, Step.again, Step.refused, Step.appends}
use Rattle.office_core.specs.{declared.judged.Judged.Judged, declared.judged.Judgment.Judgment, Planned.IsPlannedFor}

-- the answer is what the office does; want of memory says nothing
abbrev pub Judges : Outcome → Result Judged Judgment → Type 0
Judges outcome (Ok (Judged.Repeat done)) = outcome ≡ again done
Judges outcome (Ok (Judged.New step)) = outcome ≡ appends step.rows
Judges outcome (Err (Judgment.Refused refusal)) = outcome ≡ refused refusal
Judges outcome (Err Judgment.NoMemory) = ⊤

-- a new step is planned for the office
abbrev pub PlansFor : Capacity → Book → Judged → Type 0
PlansFor capacity book (Judged.Repeat done) = ⊤
PlansFor capacity book (Judged.New step) = IsPlannedFor capacity book step
