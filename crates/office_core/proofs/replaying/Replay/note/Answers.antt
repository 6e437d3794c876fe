use Rattle.std.proofs.Common.{◌∙◌, ◌≤◌, ◌++◌, ap, refl, arith, length, length-append}
use Rattle.voucher_core.specs.declared.line.Line.{Line}
use Rattle.book_rows.specs.Book.{appended}
use Rattle.office_answers.specs.Below.office_step.{Known.Known, Step.reached_more}
use Rattle.office_core.proofs.Grown.{accepted_next, known_next, records_next, indexed_next}
use Rattle.office_core.proofs.replaying.Replay.note.Goals as goal

pub overflow_cast-self : goal.overflow_cast-self
overflow_cast-self g c =
    let planned = rw (← c.step.view_is) at c.requires.1.0 in
    let rows = c.step.inside.batch in
    let long : length (g.book.lines ++ rows.lines) ≤ 4000000 =
    c.within_room.ensures.lines c.args.self.now.capacity (appended g.book rows) (reached_more c.requires.0.reached planned.appends) c.requires.0.lines in
    omega (arith, long, length-append g.book.lines rows.lines, ap (length {A = Line}) c.as_slice.ensures)

pub overflow_add-self : goal.overflow_add-self
overflow_add-self g c =
    let planned = rw (← c.step.view_is) at c.requires.1.0 in
    let rows = c.step.inside.batch in
    let long : length (g.book.lines ++ rows.lines) ≤ 4000000 =
    c.within_room.ensures.lines c.args.self.now.capacity (appended g.book rows) (reached_more c.requires.0.reached planned.appends) c.requires.0.lines in
    omega (arith, long, length-append g.book.lines rows.lines, c.requires.0.held, ap (length {A = Line}) c.as_slice.ensures)

pub note-requires-clause-accepted : goal.note-requires-clause-accepted
note-requires-clause-accepted g c =
    accepted_next c.args.self.now.capacity g.book (record { rows = c.step.inside.batch; asked = c.step.inside.asked; name = c.step.inside.name })
    c.args.self.now.register.known c.requires.0.acts c.requires.0.reached c.requires.0.known
    (rw (← c.step.view_is) at c.requires.1.0) c.appended_is_accepted.ensures.accepted c.books_are_kept.ensures

pub returns-clause-known : goal.returns-clause-known
returns-clause-known g c =
    let planned = rw (← c.step.view_is) at c.requires.1.0 in
    let rows = c.step.inside.batch in
    rw (← c.step.view_is) (record {
      acts = c.requires.0.acts;
      lines = c.requires.0.lines;
      reached = reached_more c.requires.0.reached planned.appends;
      known =
          known_next c.args.self.now.capacity g.book (appended g.book rows) (record { rows = rows; asked = c.step.inside.asked; name = c.step.inside.name })
          c.args.self.now.register.known c.note.new.self.known c.requires.0.reached c.requires.0.known planned c.known_after_each_act.ensures
          refl c.note.ensures.known;
      requests =
          indexed_next g.book (appended g.book rows) rows c.args.self.now.requests.entries c.insert.new.self.entries c.act_key.result c.count-place.result
          c.requires.0.requests c.index_grows.ensures refl c.act_key.ensures (c.count-place.ensures.count ∙ ap (λ (known : Known). known.count) c.requires.0.known)
          c.insert.ensures.entries;
      records = records_next g.book.records rows.made c.requires.0.records c.step.invariant.within;
      held = omega (arith, length-append g.book.lines rows.lines, c.requires.0.held, ap (length {A = Line}) c.as_slice.ensures);
    })
