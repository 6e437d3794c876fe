use Rattle.row_choice.proofs.FirstDayLemmas.{first_day-is}
use Rattle.row_choice.proofs.laws.first_day_is_a_beginning.Goals as goal

pub returns : goal.returns
returns c = first_day-is
