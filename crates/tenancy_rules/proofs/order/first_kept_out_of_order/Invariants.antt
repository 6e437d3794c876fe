use Rattle.tenancy_rules.proofs.Words.{◌≡◌, take, filter, option_copied, records_of, without, changed_records, is_out_of_order, earliest}
use Rattle.tenancy_rules.proofs.order.first_kept_out_of_order.Given as goal

abbrev pub invariant-loop-held : goal.invariant-loop-held
invariant-loop-held l =
    option_copied l.first
    ≡ earliest (filter (is_out_of_order (changed_records (records_of l.history.households l.household) l.change)) (without l.change.drop (take l.held-index l.held-items)))
