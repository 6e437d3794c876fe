use Rattle.office_register.proofs.Words.{refl, ◌+◌, known_in}
use Rattle.office_register.proofs.{Lists.unchanged, Sound.sound_closing, Standing.few, Standing.passes, Standing.month_fits, Reviewed.reviewed_now}
use Rattle.office_register.proofs.register.Register.note_closing.Goals as goal

pub day_behind-next-requires : goal.day_behind-next-requires
day_behind-next-requires c = month_fits c.args.self.now.known c.args.close (rw (← c.self.view_is) c.self.invariant.sound) (passes c.requires.accepted).wrong_month

pub invariant_of-self : goal.invariant_of-self
invariant_of-self c =
    let accepted = rw (← c.self.view_is) at c.requires.accepted in
    let first = rw (← c.self.view_is) at c.day_behind-next.ensures.first in
    let behind = rw (← c.self.view_is) at c.day_behind-next.ensures.behind in
    rw c.push_reserved.ensures.items (record {
      sound = sound_closing (known_in c.self.inside) c.self.invariant.sound (few accepted) (record { month = c.args.close.month; act = c.self.inside.count + 1 })
          (month_fits (known_in c.self.inside) c.args.close c.self.invariant.sound (passes accepted).wrong_month) refl;
      review = reviewed_now (known_in c.self.inside) c.args.close c.day_behind-next.result (passes accepted).rent_due first behind;
      yearly = c.self.invariant.yearly;
    })

pub returns : goal.returns
returns c = rw (c.push_reserved.ensures.items, ← c.self.view_is) (simp unchanged)
