use Rattle.desk_history.proofs.Following.{new_numbers_have_no_entries}
use Rattle.desk_history.proofs.laws.new_numbers_have_no_entries.Goals as goal

pub returns : goal.returns
returns c = new_numbers_have_no_entries
