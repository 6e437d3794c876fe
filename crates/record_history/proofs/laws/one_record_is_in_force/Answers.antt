use Rattle.record_history.proofs.ForceLemmas.{one_now, one_as_of}
use Rattle.record_history.proofs.laws.one_record_is_in_force.Goals as goal

pub returns-clause-known : goal.returns-clause-known
returns-clause-known c = one_now

pub returns-clause-as_of : goal.returns-clause-as_of
returns-clause-as_of c = one_as_of
