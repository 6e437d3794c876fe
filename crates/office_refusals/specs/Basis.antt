-- On what the record of a command rests, as the code holds it.
use Rattle.office_step.specs.Basis.{Basis, from_facts, carried, nothing}
use Rattle.office_refusals.specs.declared.basis.Basis.{Basis as Held}

abbrev pub basis_by : Held → Basis
basis_by (Held.Facts facts) = from_facts facts.now
basis_by Held.Carried = carried
basis_by Held.Nothing = nothing
