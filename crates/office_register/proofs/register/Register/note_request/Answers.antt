use Rattle.office_register.proofs.Words.{refl, arith, length-set, known_in}
use Rattle.office_register.proofs.{Lists.unchanged, Sound.sound_request, Standing.few, Reviewed.reviewed_alike}
use Rattle.office_register.proofs.register.Register.note_request.Goals as goal

pub invariant_of-self : goal.invariant_of-self
invariant_of-self c =
    rw c.push_reserved.ensures.items
    (record {
      sound = sound_request (known_in c.self.inside) c.self.invariant.sound (few (rw (← c.self.view_is) at c.requires.accepted)) _ (length-set _ _ _);
      review = reviewed_alike (known_in c.self.inside) c.self.inside.reviewed c.self.invariant.review _ (omega arith) refl refl refl refl;
      yearly = c.self.invariant.yearly;
    })

pub returns : goal.returns
returns c = rw (c.push_reserved.ensures.items, ← c.self.view_is) (simp unchanged)
