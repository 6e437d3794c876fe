use Rattle.std.specs.Prelude.{◌≡◌, take, filter, option_copied}
use Rattle.row_choice.specs.Latest.{latest}
use Rattle.record_history.specs.Records.{is_live}
use Rattle.tenancy_rules.specs.Order.{is_transfer}
use Rattle.admission_order.specs.Turns.{newer}
use Rattle.admission_order.proofs.movers.newest_transfer.Given as goal

abbrev pub invariant-loop-held : goal.invariant-loop-held
invariant-loop-held l =
    option_copied l.newest ≡ latest newer (filter (λ r. is_transfer r.kind) (filter (is_live l.records) (take l.held-index l.records)))
