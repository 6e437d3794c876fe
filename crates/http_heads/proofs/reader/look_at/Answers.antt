use Rattle.http_heads.proofs.Fronts.{open_when_partial}
use Rattle.http_heads.proofs.reader.look_at.Goals as goal

pub returns-in-Partial : goal.returns-in-Partial
returns-in-Partial c = open_when_partial c.args.bytes.now c.in-Partial.ensures.0 c.in-Partial.ensures.1
