use Rattle.office_register.proofs.Words.{append-nil, known_in}
use Rattle.office_register.proofs.{Lists.filter_whole, Sound.sound_plan, Standing.few, Standing.passes, Standing.none_given, Standing.none_there}
use Rattle.office_register.proofs.register.Register.note_plan.Goals as goal

pub invariant_of-self : goal.invariant_of-self
invariant_of-self c =
    let accepted = rw (← c.self.view_is) at c.requires.accepted in
    rw c.push_reserved.ensures.items (record { sound = sound_plan (known_in c.self.inside) c.self.invariant.sound (few accepted) c.args.plan accepted.fit; review = tt; yearly = c.self.invariant.yearly })

pub returns : goal.returns
returns c =
    let no_act = none_given c.self.inside.plan_act (passes (rw (← c.self.view_is) at c.requires.accepted)).plan_given in
    let none = none_there c.self.inside.plan_act c.self.inside.plan no_act c.self.invariant.sound.plan_act in
    rw (c.push_reserved.ensures.items, ← c.self.view_is) (simp (none, no_act, append-nil, filter_whole))
