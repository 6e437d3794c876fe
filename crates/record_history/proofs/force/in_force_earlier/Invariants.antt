use Rattle.record_history.proofs.Words.{◌≡◌, nat_le, take, filter, option_copied, as_of, is_live, latest}
use Rattle.std.specs.Prelude.{◌&&◌}
use Rattle.record_history.proofs.force.in_force_earlier.Given as goal

abbrev pub invariant-loop-held : goal.invariant-loop-held
invariant-loop-held l =
    option_copied l.latest
    ≡ latest (filter (λ r. (nat_le r.act l.act && is_live (as_of l.act l.own.records.items) r) && nat_le r.from l.day) (take l.held-index l.own.records.items))
