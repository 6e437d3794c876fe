use Rattle.office_register.proofs.Words.{◌+◌, refl, rent_row, known_in}
use Rattle.office_register.proofs.{Lists.unchanged, Sound.sound_rents, Standing.few, Standing.rents_fit, Reviewed.reviewed_rents}
use Rattle.office_register.proofs.register.Register.note_rents.Goals as goal

pub invariant_of-self : goal.invariant_of-self
invariant_of-self c =
    let accepted = rw (← c.self.view_is) at c.requires.accepted in
    rw (c.push_reserved.ensures.items, c.push_rents.ensures.units, c.push_rents.ensures.rents, c.push_rents.ensures.limits)
    (record {
      sound = sound_rents (known_in c.self.inside) c.self.invariant.sound (few accepted) (rent_row (c.self.inside.count + 1) c.args.rents) refl (rents_fit c.args.rents accepted.fit);
      review = reviewed_rents (known_in c.self.inside) c.reviewed_before-reviewed.result (rw (← c.self.view_is) at c.reviewed_before-reviewed.ensures.review)
          (rent_row (c.self.inside.count + 1) c.args.rents) (rw (← c.self.view_is) at c.reviewed_before-reviewed.ensures.before);
      yearly = c.self.invariant.yearly;
    })

pub returns : goal.returns
returns c = rw (c.push_reserved.ensures.items, c.push_rents.ensures.units, c.push_rents.ensures.rents, c.push_rents.ensures.limits, ← c.self.view_is) (simp unchanged)
