use Rattle.office_core.proofs.Found.{last_is}
use Rattle.office_core.proofs.drafting.last_day.Goals as goal

pub returns-in-Some : goal.returns-in-Some
returns-in-Some c = last_is c.args.acts.now c.in-Some.row.now c.in-Some.ensures.value
