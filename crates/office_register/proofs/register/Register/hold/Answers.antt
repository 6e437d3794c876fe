use Rattle.office_register.proofs.Words.{arith, known_in}
use Rattle.office_register.proofs.{Sound.sound_further, Sound.newest_act_by, Lists.place_there, Reviewed.reviewed_further, Annuals.map_further}
use Rattle.office_refusals.specs.Below.office_step.Refusals.{annual_right}
use Rattle.record_history.proofs.Kept.{is_household}
use Rattle.office_register.proofs.register.Register.hold.Goals as goal

pub push-requires-clause-act : goal.push-requires-clause-act
push-requires-clause-act c =
    let next = rw (← c.self.view_is) at c.requires.next.act in
    omega (arith, next, newest_act_by c.self.inside.count c.self.inside.tenancies.households c.args.held.household c.self.invariant.sound.households.acts)

pub invariant_of-self : goal.invariant_of-self
invariant_of-self c =
    let asked = rw (← c.self.view_is) at c.requires in
    rw (c.push_reserved.ensures.items, c.annual_right-next.ensures, c.history.ensures, c.push.ensures.households, place_there c.self.inside.tenancies.households c.self.inside.tenancies.room c.args.held.household asked.record_room asked.household)
    (record {
      sound = sound_further (known_in c.self.inside) c.self.invariant.sound asked.few c.args.held c.args.eligible asked.next.act c.requires.dates c.requires.eligible;
      review = reviewed_further (known_in c.self.inside) c.self.inside.reviewed c.self.invariant.review c.args.held c.args.eligible asked.next.act;
      yearly = map_further annual_right c.self.inside.tenancies.households c.args.held c.self.inside.annuals.items c.self.invariant.yearly (is_household c.self.inside.tenancies.room c.args.held.household asked.record_room) asked.household;
    })
