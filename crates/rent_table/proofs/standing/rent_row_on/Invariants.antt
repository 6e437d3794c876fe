use Rattle.rent_table.proofs.Words.{◌≡◌, take, option_copied, rent_row_on}
use Rattle.rent_table.proofs.standing.rent_row_on.Given as goal

abbrev pub invariant-loop-row : goal.invariant-loop-row
invariant-loop-row l = option_copied l.best ≡ rent_row_on (take l.row-index l.rows) l.group l.day
