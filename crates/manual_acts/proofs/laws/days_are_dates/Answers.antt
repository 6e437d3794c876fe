use Rattle.manual_acts.proofs.Dates.{days_are_dates}
use Rattle.manual_acts.proofs.laws.days_are_dates.Goals as goal

pub returns : goal.returns
returns c = days_are_dates
