use Rattle.office_laws.proofs.CertifiedActs.{records_certify_rightly}
use Rattle.office_laws.proofs.laws.records_certify_rightly.Goals as goal

pub returns : goal.returns
returns c = records_certify_rightly
