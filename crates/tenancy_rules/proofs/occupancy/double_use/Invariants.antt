use Rattle.tenancy_rules.proofs.Words.{◌≡◌, is_rival_on, first_rivalry}
use Rattle.tenancy_rules.proofs.occupancy.double_use.Given as goal

abbrev pub invariant-loop-place : goal.invariant-loop-place
invariant-loop-place l = l.first ≡ first_rivalry (is_rival_on l.history.households l.household l.change) l.place 80354
