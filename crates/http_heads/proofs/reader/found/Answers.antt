use Rattle.http_heads.proofs.Lifts.{found_in}
use Rattle.http_heads.proofs.reader.found.Goals as goal

pub returns : goal.returns
returns c =
    found_in c.args.bytes.now c.args.spans.now c.args.head.now c.asks_close.result c.judge.result c.requires.short c.requires.within c.requires.of
    c.asks_close.ensures c.judge.ensures
