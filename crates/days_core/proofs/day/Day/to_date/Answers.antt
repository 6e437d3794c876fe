use Rattle.std.proofs.Common.{arith}
use Rattle.jiff_core.proofs.SignedLemmas.{signed_arith}
use Rattle.days_core.proofs.Bridge.{parts_at}
use Rattle.days_core.proofs.day.Day.to_date.Goals as goal

pub returns-clause-year : goal.returns-clause-year
returns-clause-year c = (parts_at c.from_days_since_min.result c.args.self (omega arith) (omega (arith, signed_arith))).0

pub returns-clause-month : goal.returns-clause-month
returns-clause-month c = (parts_at c.from_days_since_min.result c.args.self (omega arith) (omega (arith, signed_arith))).1

pub returns-clause-day : goal.returns-clause-day
returns-clause-day c = (parts_at c.from_days_since_min.result c.args.self (omega arith) (omega (arith, signed_arith))).2
