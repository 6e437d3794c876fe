use Rattle.office_register.proofs.Words.{refl, arith, known_in}
use Rattle.office_register.proofs.{Sound.sound_without, Reviewed.reviewed_alike}
use Rattle.office_register.proofs.register.Register.take_off.Goals as goal

pub invariant_of-self : goal.invariant_of-self
invariant_of-self c =
    rw c.remove.ensures.applicants
    (record {
      sound = sound_without (known_in c.self.inside) c.args.number c.self.invariant.sound;
      review = reviewed_alike (known_in c.self.inside) c.self.inside.reviewed c.self.invariant.review _ (omega arith) refl refl refl refl;
      yearly = c.self.invariant.yearly;
    })
