use Rattle.csv.specs.Records.{fields_of}
use Rattle.applicant_rows.proofs.Seven.{is_there}
use Rattle.applicant_rows.proofs.fields.field.Goals as goal

pub returns-in-None : goal.returns-in-None
returns-in-None c = absurd (is_there (fields_of c.args.read.now) c.args.at c.requires c.in-None.ensures.value)
