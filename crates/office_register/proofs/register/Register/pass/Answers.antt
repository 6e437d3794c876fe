use Rattle.office_register.proofs.Words.{refl, arith, known_in}
use Rattle.office_register.proofs.{Sound.later, Reviewed.reviewed_alike}
use Rattle.office_register.proofs.register.Register.pass.Goals as goal

pub invariant_of-self : goal.invariant_of-self
invariant_of-self c =
    rw c.push_reserved.ensures.items
    (record {
      sound = later (known_in c.self.inside) c.self.invariant.sound (rw (← c.self.view_is) at c.requires.few);
      review = reviewed_alike (known_in c.self.inside) c.self.inside.reviewed c.self.invariant.review _ (omega arith) refl refl refl refl;
      yearly = c.self.invariant.yearly;
    })
