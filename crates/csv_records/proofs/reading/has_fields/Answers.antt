use Rattle.std.proofs.Common.{◌≡◌, ◌∙◌, ◌&&◌, ◌+◌, ℕ, List, [], suc, sym, ap, drop, arith}
use Rattle.std.specs.Borrow.{Bor}
use Rattle.csv.specs.Records.{fields_of}
use Rattle.csv_records.specs.Records.{are_fields}
use Rattle.csv_records.proofs.Fields.{place_more, shown}
use Rattle.csv_records.proofs.reading.has_fields.Goals as goal

pub returns-then-not-is_field : goal.returns-then-not-is_field
returns-then-not-is_field c =
    let own = fields_of c.args.read.now in
    let fields = c.args.fields.now in
    let at = c.loop-at.at in
    let none : Bor (List ℕ) = record { ref_ptr = (0, 0); now = [] } in
    let turn = place_more own fields at none c.loop-at-test.true c.loop-at.invariant.same_length in
    sym (sym c.loop-at.invariant.rest ∙ turn
    ∙ ap (λ b. b && are_fields (drop (suc at) own) (drop (suc at) (shown fields))) (sym c.is_field.ensures ∙ c.if-not-is_field.true))

pub loop-at-preserved : goal.loop-at-preserved
loop-at-preserved c =
    let own = fields_of c.args.read.now in
    let fields = c.args.fields.now in
    let at = c.loop-at.at in
    let none : Bor (List ℕ) = record { ref_ptr = (0, 0); now = [] } in
    let turn = place_more own fields at none c.loop-at-test.true c.loop-at.invariant.same_length in
    let next : at + 1 ≡ suc at = omega arith in
    record {
      same_length = c.loop-at.invariant.same_length;
      rest = rw next (sym (ap (λ b. b && are_fields (drop (suc at) own) (drop (suc at) (shown fields))) (sym c.is_field.ensures ∙ c.if-not-is_field.false)) ∙ sym turn ∙ c.loop-at.invariant.rest);
    }
