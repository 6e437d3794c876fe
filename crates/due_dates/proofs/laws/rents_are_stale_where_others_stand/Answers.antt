use Rattle.due_dates.proofs.OtherRents.{stale_by_facts}
use Rattle.due_dates.proofs.laws.rents_are_stale_where_others_stand.Goals as goal

pub returns : goal.returns
returns c = stale_by_facts
