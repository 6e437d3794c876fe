use Rattle.office_register.proofs.Words.{Command}
use Rattle.office_register.proofs.{Lists.unchanged, Standing.few, Next.accepted_further, Next.fits}
use Rattle.office_register.proofs.register.Register.note_further.Goals as goal

pub hold-requires-clause-few : goal.hold-requires-clause-few
hold-requires-clause-few c = few c.requires.accepted

pub hold-requires-clause-household : goal.hold-requires-clause-household
hold-requires-clause-household c =
    (accepted_further c.args.self.now.known c.args.act.now c.args.made c.in-Some.held c.requires.accepted c.in-Some.is
    (rw (← c.self.view_is) (rw (← c.history.ensures) (rw (← c.records-records.ensures.records) c.records-records.ensures.numbered)))).there

pub hold-requires-clause-next : goal.hold-requires-clause-next
hold-requires-clause-next c =
    (accepted_further c.args.self.now.known c.args.act.now c.args.made c.in-Some.held c.requires.accepted c.in-Some.is
    (rw (← c.self.view_is) (rw (← c.history.ensures) (rw (← c.records-records.ensures.records) c.records-records.ensures.numbered)))).next

pub hold-requires-clause-eligible : goal.hold-requires-clause-eligible
hold-requires-clause-eligible c =
    fits c.args.self.now.known (Command.Household c.args.act.now) c.args.made c.in-Some.held c.args.eligible (rw (← c.self.view_is) c.self.invariant.sound.members.all)
    c.requires.accepted c.in-Some.is c.requires.eligible

pub returns-in-Some : goal.returns-in-Some
returns-in-Some c = rw (c.hold.ensures, c.requires.eligible, c.in-Some.is) (simp unchanged)

pub returns-in-None : goal.returns-in-None
returns-in-None c = rw (c.pass.ensures, c.in-None.is) (simp unchanged)
