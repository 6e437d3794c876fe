-- What a command is about, as the code holds it.
use Rattle.std.specs.Prelude.{option_copied}
use Rattle.admission_order.specs.Below.office_step.Matter.{Matter}
use Rattle.admission_order.specs.Below.office_refusals.Basis.{basis_by}
use Rattle.office_acts.specs.declared.matter.Matter.{Matter as Held}

abbrev pub matter_by : Held → Matter
matter_by held = record {
  known = held.register.now.known;
  gives_plan = held.gives_plan;
  month = held.month;
  name = option_copied held.name;
  sets_from = held.sets_from;
  household = held.household;
  applicant = held.applicant;
  unit = held.unit;
  target = held.target;
  seen = held.seen;
  told = held.told;
  from = held.from;
  last = held.last;
  kind = held.kind;
  basis = basis_by held.basis;
  moves = held.moves;
  begins = held.begins;
}
