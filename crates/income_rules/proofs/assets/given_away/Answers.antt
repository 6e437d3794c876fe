use Rattle.income_rules.proofs.{Words.arith, Words.Disposal, Words.is_between, Sums.sum_by-filter-le}
use Rattle.income_rules.proofs.assets.given_away.Goals as goal

pub values_within-requires : goal.values_within-requires
values_within-requires c =
    omega (arith, sum_by-filter-le (λ (disposal : Disposal). disposal.value) (is_between c.window_start-start.result c.args.day) c.args.disposals.now)

pub received_within-requires : goal.received_within-requires
received_within-requires c =
    omega (arith, sum_by-filter-le (λ (disposal : Disposal). disposal.received) (is_between c.window_start-start.result c.args.day) c.args.disposals.now)
