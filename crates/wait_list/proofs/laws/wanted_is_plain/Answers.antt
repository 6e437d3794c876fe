use Rattle.wait_list.proofs.WantedLaw.{wanted_is_plain, rank_is_plain}
use Rattle.wait_list.proofs.laws.wanted_is_plain.Goals as goal

pub returns-clause-wanted : goal.returns-clause-wanted
returns-clause-wanted c = wanted_is_plain

pub returns-clause-rank : goal.returns-clause-rank
returns-clause-rank c = rank_is_plain
