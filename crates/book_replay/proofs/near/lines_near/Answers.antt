use Rattle.book_replay.proofs.Words.{◌==◌, Line}
use Rattle.book_replay.proofs.Gathered.{kept_again}
use Rattle.book_replay.proofs.near.lines_near.Goals as goal

pub returns-then-in_order-clause-among : goal.returns-then-in_order-clause-among
returns-then-in_order-clause-among c = rw c.lines_of_act.ensures (kept_again (λ (line : Line). line.act == c.args.n) c.args.lines.now)
