use Rattle.std.proofs.Common.{sym, subst}
use Rattle.std.specs.Prelude.{All}
use Rattle.record_history.specs.Held.{IsWithin}
use Rattle.book_rows.specs.Book.{Book, book_of}
use Rattle.office_answers.specs.Below.office_step.Step.{reached_more}
use Rattle.office_core.proofs.Grown.{accepted_next, known_next, records_next, indexed_next}
use Rattle.office_core.proofs.office.Office.append.Goals as goal

pub note-requires-clause-accepted : goal.note-requires-clause-accepted
note-requires-clause-accepted c =
    accepted_next c.self.inside.capacity (book_of c.self.inside.tables) (record { rows = c.step.inside.batch; asked = c.step.inside.asked; name = c.step.inside.name })
    c.self.inside.register.known c.self.invariant.acts c.self.invariant.reached c.self.invariant.known
    (rw (← c.self.view_is, ← c.step.view_is) at c.requires.planned) c.appended_is_accepted.ensures.accepted c.books_are_kept.ensures

pub invariant_of-self : goal.invariant_of-self
invariant_of-self c =
    let planned = rw (← c.self.view_is, ← c.step.view_is) at c.requires.planned in
    record {
      acts = c.self.invariant.acts;
      lines = c.self.invariant.lines;
      reached = rw c.append.ensures.book (reached_more c.self.invariant.reached planned.appends);
      known =
          known_next c.self.inside.capacity (book_of c.self.inside.tables) (book_of c.append.new.self)
          (record { rows = c.step.inside.batch; asked = c.step.inside.asked; name = c.step.inside.name })
          c.self.inside.register.known c.note.new.self.known c.self.invariant.reached c.self.invariant.known planned c.known_after_each_act.ensures
          c.append.ensures.book c.note.ensures.known;
      requests =
          indexed_next (book_of c.self.inside.tables) (book_of c.append.new.self) c.step.inside.batch c.self.inside.requests.entries c.insert.new.self.entries
          c.act_key.result c.acts-place.result c.self.invariant.requests c.index_grows.ensures c.append.ensures.book c.act_key.ensures (rw (← c.self.view_is) at c.acts-place.ensures) c.insert.ensures.entries;
      records = subst (λ (b : Book). All IsWithin b.records) (sym c.append.ensures.book)
          (records_next c.self.inside.tables.records.items c.step.inside.batch.made c.self.invariant.records c.step.invariant.within);
    }
