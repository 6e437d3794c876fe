use Rattle.std.proofs.Common.{refl, arith}
use Rattle.std.proofs.lemmas.{Grind.common_steps, List.Folds.list_all-append, Result.err_from_is_err_and}
use Rattle.json_form.proofs.Items.{goes_on, ends, is_done}
use Rattle.json_form.proofs.arrays.rows_of.Goals as goal

pub returns-in_err-row_of-clause-exact : goal.returns-in_err-row_of-clause-exact
returns-in_err-row_of-clause-exact g c =
    let p = err_from_is_err_and c.from_residual.result c.from_residual.ensures.1 in
    rw (p.1, p.2) (ends (g.F.Form.form c.args.each.now) c.args.items.now c.loop-index.rows.items c.loop-index.index _ c.loop-index.invariant.rows
    c.index-items-index.result c.loop-index-test.true c.index-items-index.is c.in_err-row_of.field-0.0 c.in_err-row_of.ensures.exact)

pub loop-index-preserved : goal.loop-index-preserved
loop-index-preserved g c =
    record {
      rows = rw c.in_ok-push.ensures.items (goes_on (g.F.Form.form c.args.each.now) c.args.items.now c.loop-index.rows.items c.loop-index.index _ c.loop-index.invariant.rows
          c.index-items-index.result c.loop-index-test.true c.index-items-index.is c.in_ok-row_of.field-0 c.in_ok-row_of.ensures.exact);
      count = grind (arith, common_steps);
      fit = rw (c.in_ok-push.ensures.items, list_all-append, c.loop-index.invariant.fit, c.in_ok-row_of.ensures.fit) refl;
    }

pub returns-clause-exact : goal.returns-clause-exact
returns-clause-exact g c = is_done (g.F.Form.form c.args.each.now) c.args.items.now c.loop-index.rows.items c.loop-index.index _ c.loop-index.invariant.rows c.loop-index-test.false
