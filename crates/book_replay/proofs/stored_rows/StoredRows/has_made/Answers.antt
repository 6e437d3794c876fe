use Rattle.std.proofs.Common.{◌∙◌, sym, length}
use Rattle.book_replay.proofs.InPlace.{never_fall, none_there}
use Rattle.book_replay.proofs.stored_rows.StoredRows.has_made.Goals as goal

pub records_near-near-requires : goal.records_near-near-requires
records_near-near-requires c in_order =
    rw c.deref.ensures.value
    (never_fall (λ row. row.act) (length c.self.inside.tables.now.acts.items) 0 c.self.inside.tables.now.records.items
    (sym c.self.invariant.0 ∙ none_there c.self.inside.stray_record c.is_none.result c.is_none.ensures in_order))
