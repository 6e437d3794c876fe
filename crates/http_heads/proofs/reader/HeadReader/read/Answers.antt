use Rattle.http_heads.proofs.Lifts.{looks_front}
use Rattle.http_heads.proofs.reader.HeadReader.read.Goals as goal

pub returns : goal.returns
returns c = looks_front c.args.bytes.now c.min.result c.look_at.result c.min.ensures c.look_at.ensures
