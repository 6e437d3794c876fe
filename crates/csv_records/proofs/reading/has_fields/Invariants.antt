use Rattle.std.proofs.Common.{◌≡◌, drop, length}
use Rattle.csv.specs.Records.{fields_of}
use Rattle.csv_records.specs.Records.{are_fields}
use Rattle.csv_records.proofs.Fields.{shown}
use Rattle.csv_records.proofs.reading.has_fields.Given as goal

abbrev pub invariant-loop-at : goal.invariant-loop-at
invariant-loop-at l = record {
  same_length : length (fields_of l.read) ≡ length l.fields;
  rest : are_fields (drop l.at (fields_of l.read)) (drop l.at (shown l.fields)) ≡ are_fields (fields_of l.read) (shown l.fields);
}
