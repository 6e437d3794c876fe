use Rattle.store_read.proofs.Asked.{asks}
use Rattle.store_read.proofs.asking.ask.Goals as goal

pub returns-in-Ok-clause-shown : goal.returns-in-Ok-clause-shown
returns-in-Ok-clause-shown g c clean = asks g.S.Store g.T.StoredRow.table _ _ _ (rw c.in-Ok.is at (c.read_rows.ensures.shown clean)) c.requires.shows
