use Rattle.tenancy_rules.proofs.Words.{◌≡◌, take, fold, None, IfSome, All, is_rival_on}
use Rattle.tenancy_rules.specs.Uses.{sooner_uses, of_unit}
use Rattle.tenancy_rules.proofs.ByUnit.{IsPassed}
use Rattle.tenancy_rules.proofs.occupancy.first_by_records.Given as goal

abbrev pub invariant-loop-held : goal.invariant-loop-held
invariant-loop-held l =
    (l.first ≡ fold (sooner_uses (is_rival_on l.history.households l.household l.change) 80354 l.uses) None (take l.held-index l.records))
    × IfSome l.unit (λ unit. All (λ used. IsPassed (is_rival_on l.history.households l.household l.change) 80354 l.first used.household) (of_unit l.uses unit))
