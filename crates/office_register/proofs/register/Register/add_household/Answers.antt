use Rattle.office_register.proofs.Words.{known_in}
use Rattle.office_register.proofs.{Lists.place_next, Sound.sound_household, Reviewed.reviewed_household, Annuals.map_household}
use Rattle.office_refusals.specs.Below.office_step.Refusals.{annual_right}
use Rattle.office_register.proofs.register.Register.add_household.Goals as goal

pub invariant_of-self : goal.invariant_of-self
invariant_of-self c =
    let asked = rw (← c.self.view_is) at c.requires in
    rw (
      c.push_reserved.ensures.items,
      c.push_reserved-2.ensures.items,
      c.push_reserved-3.ensures.items,
      c.push_reserved-4.ensures.items,
      c.annual_right-next.ensures,
      c.history.ensures,
      c.push.ensures.households,
      place_next c.self.inside.tenancies.households c.args.held.household asked.household,
    )
    (record {
      sound = sound_household (known_in c.self.inside) c.self.invariant.sound asked.few c.args.name c.args.held c.args.eligible asked.next.act c.requires.dates c.requires.eligible;
      review = reviewed_household (known_in c.self.inside) c.self.inside.reviewed c.self.invariant.review c.args.name c.args.held c.args.eligible asked.next.act;
      yearly = map_household annual_right c.self.inside.tenancies.households c.args.held c.self.inside.annuals.items c.self.invariant.yearly asked.household;
    })
