use Rattle.record_history.proofs.Kept.{is_household}
use Rattle.tenancy_rules.proofs.Told.{told_push}
use Rattle.tenancy_rules.proofs.tenancies.Tenancies.push.Goals as goal

pub invariant_of-self : goal.invariant_of-self
invariant_of-self c =
    rw c.push.ensures.households
    (told_push c.self.inside.history.households c.self.inside.uses.items c.tell.new.uses.items c.args.held (is_household c.args.self.now.room c.args.held.household c.requires.room)
    c.self.invariant c.tell.ensures.in_order c.tell.ensures.kept c.tell.ensures.told)
