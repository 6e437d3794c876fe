use Rattle.share_rules.proofs.SharesAdd.{total_their_part, none_above}
use Rattle.share_rules.proofs.laws.shares_total_their_part.Goals as goal

pub returns-clause-total : goal.returns-clause-total
returns-clause-total c = total_their_part

pub returns-clause-within : goal.returns-clause-within
returns-clause-within c = none_above
