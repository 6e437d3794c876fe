-- Who is next where an extremely low-income family is wanted, or isn't.
use Rattle.std.proofs.Common.{◌≡◌, refl, Bool, true, false, ℕ, Option, List}
use Rattle.std.specs.Prelude.{if◌then◌else◌}
use Rattle.rent_table.specs.declared.{plan.Plan.Plan, rows.Unit.Unit as UnitRow, rows.LimitRow.LimitRow}
use Rattle.wait_list.specs.{declared.applicant.Applicant.Applicant, declared.ask.Candidate.Candidate, Next.next_candidate}

-- where both are the same it doesn't matter which is wanted
pub either : {A : Type 0} (wanted : Bool) (first other : A) → first ≡ other → first ≡ (if wanted then other else first)
either true first other same = same
either false first other same = refl

-- the next by what is wanted is the next of the two
pub next_by : (wanted : Bool) (unit : UnitRow) (plan : Plan) (limits : Option LimitRow) (needing other : Option ℕ) (waiting : List Applicant) (first extremely : Option Candidate) →
    first ≡ next_candidate (record { unit = unit; plan = plan; limits = limits; wanted = false; needing = needing; other = other }) waiting →
    extremely ≡ next_candidate (record { unit = unit; plan = plan; limits = limits; wanted = true; needing = needing; other = other }) waiting →
    (if wanted then extremely else first) ≡ next_candidate (record { unit = unit; plan = plan; limits = limits; wanted = wanted; needing = needing; other = other }) waiting
next_by true unit plan limits needing other waiting first extremely is_first is_extremely = is_extremely
next_by false unit plan limits needing other waiting first extremely is_first is_extremely = is_first
