use Rattle.std.proofs.Common.{refl, rules}
use Rattle.line_input.proofs.Ends.{long-front}
use Rattle.line_input.proofs.reader.LineReader.held_line.Goals as goal

pub returns-then-count-most-clause-some : goal.returns-then-count-most-clause-some
returns-then-count-most-clause-some c =
    (refl, long-front c.args.most c.in_ok-count.count c.args.self.now.rest (rw c.behind.ensures at c.in_ok-count.ensures.some) (search rules))
