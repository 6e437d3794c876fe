use Rattle.std.proofs.Common.{◌≡◌, ◌∙◌, ap, sym, map, option_map, Some}
use Rattle.std.proofs.lemmas.Simd.{map-map}
use Rattle.csv.specs.Records.{fields_of}
use Rattle.csv_records.specs.Records.{records_under}
use Rattle.applicant_rows.specs.Applicants.{header, row_from}
use Rattle.applicant_rows.proofs.Fit.{rows_fit}
use Rattle.applicant_rows.proofs.import.applicants_of_csv.Goals as goal

pub returns-in_ok-rows_of-in-Ok-clause-rows : goal.returns-in_ok-rows_of-in-Ok-clause-rows
returns-in_ok-rows_of-in-Ok-clause-rows c =
    let found : records_under header c.args.bytes.now ≡ Some (map fields_of c.in-Ok.records.items) = c.in-Ok.ensures.records in
    ap (option_map (map (row_from c.args.clerk))) found ∙ ap Some (map-map (row_from c.args.clerk) fields_of c.in-Ok.records.items ∙ sym (c.in_ok-rows_of-in-Ok.ensures ∙ ap (map (λ read. row_from c.args.clerk (fields_of read))) c.deref.ensures.value))

pub returns-in_ok-rows_of-in-Ok-clause-fit : goal.returns-in_ok-rows_of-in-Ok-clause-fit
returns-in_ok-rows_of-in-Ok-clause-fit c =
    λ low high. rows_fit c.args.clerk low high c.args.bytes.now _ (returns-in_ok-rows_of-in-Ok-clause-rows c)
