use Rattle.certified_figures.proofs.Family.{has_family}
use Rattle.certified_figures.proofs.certified.family_eligible.Goals as goal

pub eligible_members-requires : goal.eligible_members-requires
eligible_members-requires c = record { few = (has_family c.args.facts.now c.args.day c.requires).few_persons }

pub returns-clause-some : goal.returns-clause-some
returns-clause-some c = rw c.eligible_members.ensures (has_family c.args.facts.now c.args.day c.requires).some_eligible

pub returns-clause-among : goal.returns-clause-among
returns-clause-among c = rw c.eligible_members.ensures (has_family c.args.facts.now c.args.day c.requires).eligible
