use Rattle.std.proofs.Common.{◌≡◌, ◌++◌, take}
use Rattle.std.specs.List.{flat_map}
use Rattle.csv_records.specs.Records.{record_text}
use Rattle.csv_records.specs.Between.{IsBetween, text_of}
use Rattle.line_records.specs.Export.{column_names, line_record}
use Rattle.line_records.proofs.export.lines_csv.Given as goal

abbrev pub invariant-loop-line : goal.invariant-loop-line
invariant-loop-line l = record {
  between : IsBetween l.writer;
  text : text_of l.writer ≡ record_text column_names ++ flat_map line_record (take l.line-index l.lines);
}
