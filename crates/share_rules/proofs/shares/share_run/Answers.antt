use Rattle.std.proofs.Common.{◌≤◌, ◌<◌, sym, subst, arith, ℕ}
use Rattle.share_rules.proofs.SharesAdd.{run_is, at_most}
use Rattle.share_rules.proofs.shares.share_run.Goals as goal

pub returns-clause-sum : goal.returns-clause-sum
returns-clause-sum c =
    let some : 0 < c.args.days = omega arith in
    cc (run_is c.args.amount c.args.first c.args.last c.args.days some c.requires.first c.requires.in_order)

pub returns-clause-within : goal.returns-clause-within
returns-clause-within c =
    let some : 0 < c.args.days = omega arith in
    let all : c.share_to.result ≤ c.args.amount = subst (λ (n : ℕ). n ≤ c.args.amount) (sym c.share_to.ensures) (at_most c.args.amount c.args.last c.args.days some c.requires.in_month) in
    omega arith
