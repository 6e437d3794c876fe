use Rattle.office_laws.proofs.RepliesTold.{replies_tell_records}
use Rattle.office_laws.proofs.laws.replies_tell_records.Goals as goal

pub returns : goal.returns
returns c = replies_tell_records
