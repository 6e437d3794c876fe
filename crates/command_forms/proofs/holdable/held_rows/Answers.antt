use Rattle.std.proofs.{Common.subst, lemmas.List.take_all, lemmas.List.Elements.All-more}
use Rattle.command_forms.proofs.holdable.held_rows.Goals as goal

pub loop-row-preserved : goal.loop-row-preserved
loop-row-preserved g c = All-more g.T.Row.fits c.args.rows.now c.loop-row.row-index c.row-item.result c.loop-row-test.true c.loop-row.invariant (subst g.T.Row.fits c.row-item.is c.held.ensures)

pub returns : goal.returns
returns g c = rw (take_all c.loop-row.row-index c.args.rows.now c.loop-row-test.false) at c.loop-row.invariant
