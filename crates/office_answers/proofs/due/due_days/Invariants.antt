use Rattle.office_answers.proofs.Dues.{AreDue}
use Rattle.office_answers.proofs.due.due_days.Given as goal

abbrev pub invariant-loop-place : goal.invariant-loop-place
invariant-loop-place l = AreDue l.register.known.households l.day l.place l.dues.items
