use Rattle.http_messages.proofs.Cuttings.{cut_in_one_way_lem}
use Rattle.http_messages.proofs.laws.cut_in_one_way.Goals as goal

pub returns : goal.returns
returns c = cut_in_one_way_lem
