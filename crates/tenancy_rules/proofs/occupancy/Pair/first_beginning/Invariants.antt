use Rattle.tenancy_rules.proofs.Words.{◌≡◌, take, fold, is_rival_on, sooner_beginning}
use Rattle.tenancy_rules.proofs.occupancy.Pair.first_beginning.Given as goal

abbrev pub invariant-loop-held : goal.invariant-loop-held
invariant-loop-held l = l.first ≡ fold (sooner_beginning (is_rival_on l.self.history.now.households l.self.household l.self.change.now l.self.other) l.end) l.fn.first (take l.held-index l.records)
