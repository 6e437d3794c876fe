use Rattle.due_dates.proofs.RightfulLemmas.{is_month_after}
use Rattle.due_dates.proofs.laws.assistance_resumes_with_a_month.Goals as goal

pub returns : goal.returns
returns c done in_range = is_month_after done in_range
