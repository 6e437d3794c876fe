use Rattle.office_laws.proofs.Words.{◌≤◌, ◌+◌, length, arith, name_given, record_of, passed, length-option, IfSome-each}
use Rattle.office_laws.proofs.Makes.{made_within}
use Rattle.office_laws.proofs.at_hand.next_records.Goals as goal

pub returns : goal.returns
returns c known most today asked allowed =
    IfSome-each (λ r. (1 ≤ r.household) × (r.household ≤ length known.households + 1)) (record_of known asked) (λ r is.
    omega (arith, made_within known asked r (passed known most today asked allowed).no_such is, length-option (name_given known.applications asked)))
