use Rattle.wait_list.proofs.PlainNext.{next_is_plain}
use Rattle.wait_list.proofs.laws.next_is_plain.Goals as goal

pub returns : goal.returns
returns c = next_is_plain
