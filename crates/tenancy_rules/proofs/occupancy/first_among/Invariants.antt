use Rattle.tenancy_rules.proofs.Words.{◌≡◌, take, fold, is_rival_on}
use Rattle.tenancy_rules.specs.Uses.{sooner_use}
use Rattle.tenancy_rules.proofs.occupancy.first_among.Given as goal

abbrev pub invariant-loop-used : goal.invariant-loop-used
invariant-loop-used l = l.found ≡ fold (sooner_use (is_rival_on l.history.households l.household l.change) 80354) l.fn.first (take l.used-index l.uses)
