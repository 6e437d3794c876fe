use Rattle.std.proofs.Common.{◌≡◌, false, map, take}
use Rattle.serde_json.specs.{View.view, View.items_view, Written.items_have_float}
use Rattle.json_form.proofs.written.values_of.Given as goal

abbrev pub invariant-loop-row : goal.invariant-loop-row
invariant-loop-row g l =
    record {
      values : map view l.values.items ≡ map (g.W.Writer.written l.writer) (take l.row-index l.rows);
      no_float : items_have_float (items_view l.values.items) ≡ false;
    }
