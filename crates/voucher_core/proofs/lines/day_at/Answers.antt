use Rattle.voucher_core.proofs.Words.{◌≡◌, ◌+◌, ◌-◌, arith, first_of-suc}
use Rattle.voucher_core.proofs.Gathered.{unwrapped}
use Rattle.voucher_core.proofs.lines.day_at.Goals as goal

pub overflow_sub-number : goal.overflow_sub-number
overflow_sub-number c = omega (arith, first_of-suc c.args.month)

pub returns : goal.returns
returns c =
    let found : c.unwrap.result ≡ c.number.result + c.args.place - c.days_in.result =
    unwrapped c.from_number.result _ (c.number.result + c.args.place - c.days_in.result) c.unwrap.result c.from_number.ensures c.unwrap.ensures in
    omega (arith, first_of-suc c.args.month)
