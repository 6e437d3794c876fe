use Rattle.std.proofs.KnownBytes.{Keeps-trans}
use Rattle.line_input.proofs.Comes.{comes-held}
use Rattle.line_input.proofs.reader.LineReader.next.Goals as goal

pub returns-in-Some-held_line-clause-comes : goal.returns-in-Some-held_line-clause-comes
returns-in-Some-held_line-clause-comes g c =
    comes-held c.args.most _ _ c.more.new.self c.held_line-in-Bytes.new.self _ c.in-Some-held_line.ensures.some
    (Keeps-trans _ _ _ c.loop-self.invariant.kept c.in-Bytes.ensures.grows.1)
