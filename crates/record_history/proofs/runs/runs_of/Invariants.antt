use Rattle.record_history.proofs.Words.{◌≡◌, map, take, stretch_of}
use Rattle.record_history.proofs.runs.runs_of.Given as goal

abbrev pub invariant-loop-stretch : goal.invariant-loop-stretch
invariant-loop-stretch l = map stretch_of l.runs.items ≡ take l.stretch-index l.days
