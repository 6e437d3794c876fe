use Rattle.std.proofs.Common.{All, take}
use Rattle.command_forms.proofs.holdable.held_rows.Given as goal

abbrev pub invariant-loop-row : goal.invariant-loop-row
invariant-loop-row g l = All g.T.Row.fits (take l.row-index l.rows)
