use Rattle.office_register.proofs.Words.{◌+◌, refl, arith, limit_row, known_in}
use Rattle.office_register.proofs.{Lists.unchanged, Sound.sound_limits, Standing.few, Reviewed.reviewed_alike}
use Rattle.office_register.proofs.register.Register.note_limits.Goals as goal

pub invariant_of-self : goal.invariant_of-self
invariant_of-self c =
    rw (c.push_reserved.ensures.items, c.push_limits.ensures.units, c.push_limits.ensures.rents, c.push_limits.ensures.limits)
    (record {
      sound = sound_limits (known_in c.self.inside) c.self.invariant.sound (few (rw (← c.self.view_is) at c.requires.accepted)) (limit_row (c.self.inside.count + 1) c.args.limits) refl;
      review = reviewed_alike (known_in c.self.inside) c.self.inside.reviewed c.self.invariant.review _ (omega arith) refl refl refl refl;
      yearly = c.self.invariant.yearly;
    })

pub returns : goal.returns
returns c = rw (c.push_reserved.ensures.items, c.push_limits.ensures.units, c.push_limits.ensures.rents, c.push_limits.ensures.limits, ← c.self.view_is) (simp unchanged)
