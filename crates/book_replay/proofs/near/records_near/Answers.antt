use Rattle.book_replay.proofs.Words.{◌==◌, Record}
use Rattle.book_replay.proofs.Gathered.{kept_again}
use Rattle.book_replay.proofs.near.records_near.Goals as goal

pub returns-then-in_order-clause-among : goal.returns-then-in_order-clause-among
returns-then-in_order-clause-among c = rw c.records_of_act.ensures (kept_again (λ (r : Record). r.act == c.args.n) c.args.records.now)
