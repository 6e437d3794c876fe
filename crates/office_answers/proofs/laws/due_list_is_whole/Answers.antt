use Rattle.office_answers.proofs.Whole.{due_list_is_whole}
use Rattle.office_answers.proofs.laws.due_list_is_whole.Goals as goal

pub returns : goal.returns
returns c = due_list_is_whole
