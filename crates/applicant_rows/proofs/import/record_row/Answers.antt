use Rattle.csv.specs.Records.{fields_of}
use Rattle.applicant_rows.proofs.Seven.{not_seven}
use Rattle.applicant_rows.proofs.import.record_row.Goals as goal

pub returns-in-None : goal.returns-in-None
returns-in-None c = not_seven c.args.clerk (fields_of c.args.read.now) c.in-None.ensures.others
