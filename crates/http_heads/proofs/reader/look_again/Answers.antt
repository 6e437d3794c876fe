use Rattle.http_heads.proofs.Fronts.{hopeless_method, no_head, open_method}
use Rattle.http_heads.proofs.reader.look_again.Goals as goal

pub unreachable-requires : goal.unreachable-requires
unreachable-requires c =
    no_head c.args.bytes.now c.in-Some.end c.in-Head.ensures.1.0 _ c.requires.never c.in-Head.ensures.1.1.reads

pub returns-in-Partial : goal.returns-in-Partial
returns-in-Partial c = open_method c.args.bytes.now c.in-Some.end c.requires.never c.in-Some.ensures.inside c.in-Partial.ensures.1

pub returns-in-Never : goal.returns-in-Never
returns-in-Never c = hopeless_method c.args.bytes.now c.in-Some.end c.requires.short c.in-Some.ensures.inside c.in-Never.ensures
