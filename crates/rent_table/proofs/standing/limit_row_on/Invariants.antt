use Rattle.rent_table.proofs.Words.{◌≡◌, take, option_copied, limits_on}
use Rattle.rent_table.proofs.standing.limit_row_on.Given as goal

abbrev pub invariant-loop-row : goal.invariant-loop-row
invariant-loop-row l = option_copied l.best ≡ limits_on (take l.row-index l.rows) l.day
