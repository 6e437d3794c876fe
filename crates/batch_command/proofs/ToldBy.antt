-- What a line that is a call is answered with.
use Rattle.std.proofs.Common.{◌≡◌, ℕ, List, Ok, sym, subst, ap, ◌∙◌}
use Rattle.std.specs.Prelude.{Option, Result, unwrap_or}
use Rattle.book_rows.specs.Book.{Book}
use Rattle.clerk_desk.specs.Below.office_step.{declared.call.Call.Call, declared.call.Capacity.Capacity, Step.step}
use Rattle.json_front.specs.declared.line.BatchLine.{BatchLine}
use Rattle.batch_command.specs.Output.{Told, session, told_of_call, told_by}
use Rattle.batch_command.specs.{Line.TellsLine, declared.ending.Ending.Ending}

pub call_told : (capacity : Capacity) (old : Book) (today day : ℕ) (own : Option ℕ) (call : Call) (read : Result BatchLine (List ℕ))
    → read ≡ Ok (BatchLine.Act own call) → day ≡ unwrap_or own today → told_of_call old (step old capacity session day call) ≡ told_by capacity old today read
call_told capacity old today day own call read is dated =
    ap (λ (d : ℕ). told_of_call old (step old capacity session d call)) dated ∙ ap (told_by capacity old today) (sym is)

pub tells_call : (capacity : Capacity) (old new : Book) (today day : ℕ) (own : Option ℕ) (call : Call) (read : Result BatchLine (List ℕ)) (result : Result (List ℕ) Ending)
    → read ≡ Ok (BatchLine.Act own call) → day ≡ unwrap_or own today
    → TellsLine (told_of_call old (step old capacity session day call)) old new result → TellsLine (told_by capacity old today read) old new result
tells_call capacity old new today day own call read result is dated tells =
    subst (λ (t : Told). TellsLine t old new result) (call_told capacity old today day own call read is dated) tells
