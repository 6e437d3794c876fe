use Rattle.office_register.proofs.Words.{◌+◌, refl, ap, arith, length, unit_row, known_in}
use Rattle.office_register.proofs.{Lists.unchanged, Sound.sound_unit, Standing.few, Standing.bedrooms_fit, Standing.no_unit_at}
use Rattle.office_register.proofs.register.Register.note_unit.Goals as goal

pub push_unit-requires-clause-number : goal.push_unit-requires-clause-number
push_unit-requires-clause-number c =
    no_unit_at c.self.inside.table.units _ (omega (arith, ap length c.unit_rows.ensures.rows)) c.self.invariant.sound.units.numbers

pub invariant_of-self : goal.invariant_of-self
invariant_of-self c =
    let accepted = rw (← c.self.view_is) at c.requires.accepted in
    rw (c.push_reserved.ensures.items, c.push_unit.ensures.units, c.push_unit.ensures.rents, c.push_unit.ensures.limits, c.unit_rows.ensures.rows)
    (record {
      sound = sound_unit (known_in c.self.inside) c.self.invariant.sound (few accepted) (unit_row (length c.self.inside.table.units + 1) c.args.unit) refl
          (bedrooms_fit c.args.unit accepted.fit);
      review = tt;
      yearly = c.self.invariant.yearly;
    })

pub returns : goal.returns
returns c = rw (c.push_reserved.ensures.items, c.push_unit.ensures.units, c.push_unit.ensures.rents, c.push_unit.ensures.limits, c.unit_rows.ensures.rows, ← c.self.view_is) (simp unchanged)
