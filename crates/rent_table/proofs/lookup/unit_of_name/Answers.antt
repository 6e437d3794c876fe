use Rattle.rent_table.proofs.Words.{◌∙◌, sym, ap, rules, option_copied}
use Rattle.rent_table.proofs.ByName.{past_all, another_there, unit_is_there, own_name}
use Rattle.rent_table.proofs.lookup.unit_of_name.Goals as goal

pub returns-in_default : goal.returns-in_default
returns-in_default c =
    past_all c.args.units.now c.args.by_name.now c.requires.by_name c.args.name.now _ c.names_before.ensures.bound
    (rw c.as_bytes.ensures at c.names_before.ensures.point) _ c.place_at.ensures c.in_default.is

pub returns-in_default-unit_at_place : goal.returns-in_default-unit_at_place
returns-in_default-unit_at_place c =
    unit_is_there c.args.units.now c.args.by_name.now c.requires.by_name c.args.name.now _ c.names_before.ensures.bound
    (rw c.as_bytes.ensures at c.names_before.ensures.point) _ c.place_at.ensures c.in-Some.place c.in-Some.is
    (sym c.unit_at_place.ensures ∙ ap option_copied c.in_default-unit_at_place.is)

pub returns-then-eq : goal.returns-then-eq
returns-then-eq c =
    own_name c.args.units.now c.requires.own c.args.name.now c.in-Some.place c.in-Some-unit_at_place.unit.now
    (sym c.unit_at_place.ensures ∙ ap option_copied c.in-Some-unit_at_place.is) (search rules)

pub returns-else-eq : goal.returns-else-eq
returns-else-eq c =
    another_there c.args.units.now c.args.by_name.now c.requires.by_name c.args.name.now _ c.names_before.ensures.bound
    (rw c.as_bytes.ensures at c.names_before.ensures.point) _ c.place_at.ensures c.in-Some.place c.in-Some-unit_at_place.unit.now c.in-Some.is
    (sym c.unit_at_place.ensures ∙ ap option_copied c.in-Some-unit_at_place.is) (search rules)
