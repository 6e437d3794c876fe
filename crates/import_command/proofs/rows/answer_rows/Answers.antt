use Rattle.std.proofs.Common.{◌∙◌, None, Some, inl, length, sym, rules}
use Rattle.std.proofs.lemmas.Iterator.Adapters.{YieldsList-from_vec}
use Rattle.std.proofs.lemmas.Iterator.Consumers.{YieldsList-so_far, YieldsList-turn}
use Rattle.batch_command.specs.Line.{IsMadeBy}
use Rattle.batch_command.proofs.Below.clerk_desk.Staying.{stays_then}
use Rattle.batch_command.proofs.Stops.{leaves_told, leaves_further, line_leaves}
use Rattle.book_rows.specs.Book.{Book}
use Rattle.import_command.specs.Rows.{told_of_row}
use Rattle.import_command.proofs.SoFar.{by_row, ends_within, goes_on, same_capacity, so_far}
use Rattle.import_command.proofs.rows.answer_rows.Goals as goal

pub loop-row-preserved : goal.loop-row-preserved
loop-row-preserved g c = record {
  answered = goes_on c.loop-row.invariant.answered c.in-Some.row (same_capacity (g.C.Clock.may_show c.args.clock.now) c.args.office.now.capacity c.loop-row.office.capacity c.loop-row.office.book c.answer_row.new.office.book c.in-Some.row
      (g.W.Sink.held c.loop-row.sink) (g.W.Sink.held c.answer_row.new.sink) None c.loop-row.invariant.stays.capacity c.in_default.ensures.answered);
  stays = stays_then g.K.Keeper _ c.loop-row.office _ _ c.loop-row.keeper _ c.loop-row.invariant.stays c.in_default.ensures.stays;
  sound = λ sound telling.
      leaves_told (g.K.Keeper.holds c.loop-row.keeper) (g.K.Keeper.holds c.answer_row.new.keeper) (g.K.Keeper.leaves c.loop-row.keeper) c.loop-row.office.book c.answer_row.new.office.book
      c.in_default.ensures.stays.told_before c.loop-row.invariant.stays.kept c.in_default.ensures.stays.kept
      (c.loop-row.invariant.sound sound (c.in_default.ensures.stays.crash_told telling)) (g.K.Keeper.leaves c.answer_row.new.keeper) (c.in_default.ensures.crash telling);
  sink = search rules;
  keeper = search rules;
}

pub returns-in-Some-answer_row-clause-ran : goal.returns-in-Some-answer_row-clause-ran
returns-in-Some-answer_row-clause-ran g c =
    let given = c.into_iter-row-iterator.ensures.into_iter_gives in
    let whole = YieldsList-from_vec {s = c.into_iter-row-iterator.result} c.args.rows.items given.0 (given.1 ∙ c.args.rows.ok.0) in
    let front = so_far c.args.rows.items c.loop-row.yielded (YieldsList-so_far whole c.loop-row.yielded c.loop-row.row-iterator c.loop-row.yielded_by) in
    let turn = YieldsList-turn whole c.loop-row.yielded c.loop-row.row-iterator c.loop-row.yielded_by c.next.result c.next.new.self c.in-Some.row c.in-Some.is c.next.ensures.steps in
    ends_within c.loop-row.invariant.answered c.in-Some.row c.args.rows.items front turn.0 turn.1 c.in-Some-answer_row.ending
    (same_capacity (g.C.Clock.may_show c.args.clock.now) c.args.office.now.capacity c.loop-row.office.capacity c.loop-row.office.book c.answer_row.new.office.book c.in-Some.row
    (g.W.Sink.held c.loop-row.sink) (g.W.Sink.held c.answer_row.new.sink) (Some c.in-Some-answer_row.ending) c.loop-row.invariant.stays.capacity c.in-Some-answer_row.ensures.answered)

pub returns-in-Some-answer_row-clause-stopped : goal.returns-in-Some-answer_row-clause-stopped
returns-in-Some-answer_row-clause-stopped g c =
    λ sound telling now holding after left.
    let given = c.into_iter-row-iterator.ensures.into_iter_gives in
    let whole = YieldsList-from_vec {s = c.into_iter-row-iterator.result} c.args.rows.items given.0 (given.1 ∙ c.args.rows.ok.0) in
    let turn = YieldsList-turn whole c.loop-row.yielded c.loop-row.row-iterator c.loop-row.yielded_by c.next.result c.next.new.self c.in-Some.row c.in-Some.is c.next.ensures.steps in
    let own = c.loop-row.office.capacity in
    let shows = g.C.Clock.may_show c.args.clock.now in
    let Is = λ (book : Book). IsMadeBy shows own book (λ day. told_of_row own book (record { row = c.in-Some.row; day = day })) in
    by_row c.args.office.now.capacity own shows c.args.rows.items c.in-Some.row now after c.loop-row.invariant.stays.capacity (length c.loop-row.yielded, turn.0, sym turn.1)
    (leaves_further (g.K.Keeper.holds c.loop-row.keeper) (g.K.Keeper.holds c.answer_row.new.keeper) (g.K.Keeper.leaves c.loop-row.keeper) c.loop-row.office.book c.answer_row.new.office.book
    c.in-Some-answer_row.ensures.stays.told_before c.loop-row.invariant.stays.kept c.in-Some-answer_row.ensures.stays.kept
    (c.loop-row.invariant.sound sound (c.in-Some-answer_row.ensures.stays.crash_told telling)) (g.K.Keeper.leaves c.answer_row.new.keeper) Is
    (line_leaves (Is c.loop-row.office.book) c.loop-row.office.book c.answer_row.new.office.book (g.K.Keeper.holds c.answer_row.new.keeper) (g.K.Keeper.leaves c.loop-row.keeper)
    (g.K.Keeper.leaves c.answer_row.new.keeper) (Some c.in-Some-answer_row.ending) (c.in-Some-answer_row.ensures.crash telling)) now holding after left)

pub returns-clause-stopped : goal.returns-clause-stopped
returns-clause-stopped g c = λ sound telling now holding after left. inl (c.loop-row.invariant.sound sound telling now holding after left)
