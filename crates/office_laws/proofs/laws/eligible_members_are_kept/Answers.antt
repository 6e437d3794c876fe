use Rattle.office_laws.proofs.MembersKept.{eligible_members_are_kept}
use Rattle.office_laws.proofs.laws.eligible_members_are_kept.Goals as goal

pub returns : goal.returns
returns c = eligible_members_are_kept
