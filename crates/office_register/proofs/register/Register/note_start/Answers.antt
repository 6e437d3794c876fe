use Rattle.office_register.proofs.Words.{refl, Command}
use Rattle.office_register.proofs.{Standing.few, Lists.unchanged, Next.accepted_new, Next.fits, Next.start_makes}
use Rattle.office_register.proofs.register.Register.note_start.Goals as goal

pub record_in-requires : goal.record_in-requires
record_in-requires c =
    rw c.requires.accepted.is_made
    (start_makes c.args.self.now.known (rw (← c.self.view_is) c.self.invariant.sound.plan_act) c.args.start c.args.made c.requires.accepted)

pub add_household-requires-clause-few : goal.add_household-requires-clause-few
add_household-requires-clause-few c = few c.requires.accepted

pub add_household-requires-clause-household : goal.add_household-requires-clause-household
add_household-requires-clause-household c =
    (accepted_new c.args.self.now.known (Command.Start c.args.start) _ c.args.made c.record_in.result refl refl c.requires.accepted c.record_in.ensures).household_is

pub add_household-requires-clause-next : goal.add_household-requires-clause-next
add_household-requires-clause-next c =
    (accepted_new c.args.self.now.known (Command.Start c.args.start) _ c.args.made c.record_in.result refl refl c.requires.accepted c.record_in.ensures).next

pub add_household-requires-clause-eligible : goal.add_household-requires-clause-eligible
add_household-requires-clause-eligible c =
    fits c.args.self.now.known (Command.Start c.args.start) c.args.made c.record_in.result c.args.eligible (rw (← c.self.view_is) c.self.invariant.sound.members.all)
    c.requires.accepted c.record_in.ensures c.requires.eligible

pub returns : goal.returns
returns c = rw (c.add_household.ensures, c.requires.eligible, c.record_in.ensures) (simp unchanged)
