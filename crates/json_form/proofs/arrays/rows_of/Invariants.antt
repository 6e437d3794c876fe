use Rattle.std.proofs.Common.{◌≡◌, true, length, drop}
use Rattle.std.specs.List.{list_all}
use Rattle.serde_json.specs.View.{items_view}
use Rattle.json_form.specs.Form.{items_from}
use Rattle.json_form.proofs.Items.{with_front}
use Rattle.json_form.proofs.arrays.rows_of.Given as goal

-- the rows so far and what is left to read are all of it
abbrev pub invariant-loop-index : goal.invariant-loop-index
invariant-loop-index g l =
    let form = g.F.Form.form l.each in
    record {
      rows : with_front l.rows.items (items_from form l.index (items_view (drop l.index l.items))) ≡ items_from form 0 (items_view l.items);
      count : length l.rows.items ≡ l.index;
      fit : list_all (g.F.Form.passes l.each) l.rows.items ≡ true;
    }
