use Rattle.admission_order.proofs.Counted.{SoFar}
use Rattle.admission_order.proofs.admissions.targets_by.Given as goal

abbrev pub invariant-loop-place : goal.invariant-loop-place
invariant-loop-place l = SoFar l.plan l.fn.day l.history.households l.place l.admitted l.extremely
