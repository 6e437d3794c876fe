use Rattle.std.proofs.Common.{◌∙◌, ◌++◌, ap, sym, take, append-nil, append_assoc}
use Rattle.std.specs.List.{flat_map}
use Rattle.csv_records.specs.Records.{record_text}
use Rattle.line_records.specs.Export.{column_names, line_record}
use Rattle.line_records.proofs.More.{flat_more}
use Rattle.line_records.proofs.export.lines_csv.Goals as goal

pub loop-line-init : goal.loop-line-init
loop-line-init c = record {
  between = c.in_ok-write_record.ensures.between;
  text = c.in_ok-write_record.ensures.text ∙ ap (λ t. t ++ record_text column_names) c.begin_text-writer.ensures.text ∙ sym (append-nil (record_text column_names));
}

pub loop-line-preserved : goal.loop-line-preserved
loop-line-preserved c =
    let lines = c.args.lines.now in
    let at = c.loop-line.line-index in
    let one = c.line-item.result in
    record {
      between = c.in_ok-write_line.ensures.between;
      text = c.in_ok-write_line.ensures.text ∙ ap (λ t. t ++ line_record one) c.loop-line.invariant.text
          ∙ append_assoc (record_text column_names) (flat_map line_record (take at lines)) (line_record one)
          ∙ ap (λ ys. record_text column_names ++ ys) (sym (flat_more line_record lines at one c.loop-line-test.true c.line-item.is));
    }
