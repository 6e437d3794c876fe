use Rattle.std.proofs.Common.{◌∙◌, sym}
use Rattle.csv.specs.Records.{fields_of}
use Rattle.applicant_rows.proofs.Seven.{are_seven}
use Rattle.applicant_rows.proofs.fields.fields_of.Goals as goal

pub returns-clause-seven : goal.returns-clause-seven
returns-clause-seven c =
    are_seven (fields_of c.args.read.now) _ _ _ _ _ _ _ (sym c.len.ensures ∙ c.if-len-ne7.false)
    c.field.ensures c.field-2.ensures c.field-3.ensures c.field-4.ensures c.field-5.ensures c.field-6.ensures c.field-7.ensures
