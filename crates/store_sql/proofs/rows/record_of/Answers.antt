use Rattle.std.proofs.Common.{rules, arith}
use Rattle.store_sql.proofs.Standing.{same_cells}
use Rattle.store_sql.proofs.rows.record_of.Goals as goal

pub returns : goal.returns
returns c = (first_of (search rules, grind (arith, rules)), same_cells _ c.args.row.now (search rules) (first_of (search rules, assumption rules, grind (arith, rules))))
