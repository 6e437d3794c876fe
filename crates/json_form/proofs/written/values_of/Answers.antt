use Rattle.std.proofs.{Common.arith, lemmas.Grind.common_steps}
use Rattle.json_form.proofs.Floats.{items_without_float}
use Rattle.json_form.proofs.written.values_of.Goals as goal

pub loop-row-preserved : goal.loop-row-preserved
loop-row-preserved g c =
    record {
      values = grind (arith, common_steps);
      no_float = rw c.in_ok-push.ensures.items (items_without_float c.loop-row.values.items c.into_value.result c.loop-row.invariant.no_float c.into_value.ensures.no_float);
    }
