use Rattle.std.proofs.Common.{◌≡◌, map, take}
use Rattle.csv.specs.Records.{fields_of}
use Rattle.applicant_rows.specs.Applicants.{row_from}
use Rattle.applicant_rows.proofs.import.rows_of.Given as goal

abbrev pub invariant-loop-read : goal.invariant-loop-read
invariant-loop-read l = l.rows.items ≡ map (λ read. row_from l.clerk (fields_of read)) (take l.read-index l.records)
