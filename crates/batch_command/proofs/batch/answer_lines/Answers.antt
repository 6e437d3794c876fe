use Rattle.std.proofs.Common.{[], Some, inl, refl, arith, rules}
use Rattle.book_rows.specs.Book.{Book}
use Rattle.batch_command.proofs.{Ends.none_behind, SoFar.so_far_start, Runs.ran_without, Steps.goes_on, Steps.ends_within, Steps.ends_with}
use Rattle.clerk_desk.proofs.Staying.{stays, stays_then}
use Rattle.batch_command.specs.{Line.IsMadeBy, Output.told_of}
use Rattle.batch_command.proofs.Stops.{leaves_told, leaves_further, line_leaves, line_of_input, last_of_input, by_line}
use Rattle.line_input.specs.declared.reader.Next.{Next}
use Rattle.batch_command.proofs.batch.answer_lines.Goals as goal

pub loop-init : goal.loop-init
loop-init g c = record {
  answered = ([], refl, so_far_start _ _ _ _ _ _ c.in-Ok.ensures);
  stays = stays g.K.Keeper c.args.office.now c.args.keeper.now c.requires.told;
  sound = λ sound. sound;
  source = refl;
  sink = refl;
  keeper = refl;
}

pub loop-preserved : goal.loop-preserved
loop-preserved g c = record {
  answered = goes_on _ _ _ _ _ _ _ _ _ _ _ _ c.loop.invariant.answered.0 c.next.new.self _ c.loop.counter c.loop.invariant.stays.capacity c.line.ensures
      c.loop.invariant.answered.1 c.loop.invariant.answered.2 c.in-Line.ensures.comes c.in_default-answer_line.ensures.answered;
  stays = stays_then g.K.Keeper _ c.loop.office _ _ c.loop.keeper _ c.loop.invariant.stays c.in_default-answer_line.ensures.stays;
  sound = λ sound telling.
      leaves_told (g.K.Keeper.holds c.loop.keeper) (g.K.Keeper.holds c.answer_line.new.keeper) (g.K.Keeper.leaves c.loop.keeper) c.loop.office.book c.answer_line.new.office.book
      c.in_default-answer_line.ensures.stays.told_before c.loop.invariant.stays.kept c.in_default-answer_line.ensures.stays.kept
      (c.loop.invariant.sound sound (c.in_default-answer_line.ensures.stays.crash_told telling)) (g.K.Keeper.leaves c.answer_line.new.keeper) (c.in_default-answer_line.ensures.crash telling);
  source = search rules;
  sink = search rules;
  keeper = search rules;
}

pub returns-in-Some-clause-ran : goal.returns-in-Some-clause-ran
returns-in-Some-clause-ran g c =
    ends_within _ _ _ _ _ _ _ _ _ _ _ _ c.loop.invariant.answered.0 c.next.new.self _ c.loop.counter c.loop.invariant.stays.capacity c.line.ensures
    c.loop.invariant.answered.1 c.loop.invariant.answered.2 _ _ (search rules) c.in-Line.ensures.comes c.in-Some.ensures.answered

pub returns-in-Last-clause-ran : goal.returns-in-Last-clause-ran
returns-in-Last-clause-ran g c =
    ends_with _ _ _ _ _ _ _ _ _ _ _ _ c.loop.invariant.answered.0 c.next.new.self _ c.loop.counter c.loop.invariant.stays.capacity c.line-in-Last.ensures
    c.loop.invariant.answered.1 c.loop.invariant.answered.2 _ _ _ (search rules) c.in-Last.ensures.comes
    (none_behind _ _ c.in-Last.ensures.comes.4) c.answer_line-in-Last.ensures.answered c.unwrap_or.ensures

pub returns-in-End-clause-ran : goal.returns-in-End-clause-ran
returns-in-End-clause-ran g c =
    ran_without c.loop.invariant.answered.2 (omega (arith, c.loop.invariant.answered.1)) c.next.new.self Next.End (λ x. absurd x) c.in-End.ensures.comes refl

pub returns-in-TooLong-clause-ran : goal.returns-in-TooLong-clause-ran
returns-in-TooLong-clause-ran g c =
    ran_without c.loop.invariant.answered.2 (omega (arith, c.loop.invariant.answered.1)) c.next.new.self Next.TooLong (λ x. absurd x) c.in-TooLong.ensures.comes refl

pub returns-in-Failed-clause-ran : goal.returns-in-Failed-clause-ran
returns-in-Failed-clause-ran g c =
    ran_without c.loop.invariant.answered.2 (omega (arith, c.loop.invariant.answered.1)) c.next.new.self Next.Failed (λ x. absurd x) c.in-Failed.ensures.comes refl

pub returns-in-NoMemory-clause-ran : goal.returns-in-NoMemory-clause-ran
returns-in-NoMemory-clause-ran g c =
    ran_without c.loop.invariant.answered.2 (omega (arith, c.loop.invariant.answered.1)) c.next.new.self Next.NoMemory (λ x. absurd x) c.in-NoMemory.ensures.comes refl

pub returns-clause-ran : goal.returns-clause-ran
returns-clause-ran g c =
    rw c.without_line.ensures (ran_without c.loop.invariant.answered.2 (omega (arith, c.loop.invariant.answered.1)) c.next-2.new.self c.next-2.result
    (λ x. omega (arith, c.loop.invariant.answered.1)) c.next-2.ensures.comes refl)

pub returns-in-Some-clause-stopped : goal.returns-in-Some-clause-stopped
returns-in-Some-clause-stopped g c =
    λ sound telling now holding after left.
    let own = c.loop.office.capacity in
    let shows = g.C.Clock.may_show c.args.clock.now in
    let Is = λ (book : Book). IsMadeBy shows own book (λ day. told_of own book (record { line = c.line.result.now; day = day })) in
    by_line c.args.office.now.capacity own shows (g.S.Source.left c.args.source.now) c.line.result.now c.next.new.self.line now after c.loop.invariant.stays.capacity c.line.ensures
    (line_of_input c.loop.invariant.answered.2 _ c.next.new.self.line c.in-Line.ensures.comes.0 c.in-Line.ensures.comes.2)
    (leaves_further (g.K.Keeper.holds c.loop.keeper) (g.K.Keeper.holds c.answer_line.new.keeper) (g.K.Keeper.leaves c.loop.keeper) c.loop.office.book c.answer_line.new.office.book
    c.in-Some.ensures.stays.told_before c.loop.invariant.stays.kept c.in-Some.ensures.stays.kept
    (c.loop.invariant.sound sound (c.in-Some.ensures.stays.crash_told telling)) (g.K.Keeper.leaves c.answer_line.new.keeper) Is
    (line_leaves (Is c.loop.office.book) c.loop.office.book c.answer_line.new.office.book (g.K.Keeper.holds c.answer_line.new.keeper) (g.K.Keeper.leaves c.loop.keeper) (g.K.Keeper.leaves c.answer_line.new.keeper)
    (Some c.in-Some.ending) (c.in-Some.ensures.crash telling)) now holding after left)

pub returns-in-Last-clause-stopped : goal.returns-in-Last-clause-stopped
returns-in-Last-clause-stopped g c =
    λ sound telling now holding after left.
    let own = c.loop.office.capacity in
    let shows = g.C.Clock.may_show c.args.clock.now in
    let Is = λ (book : Book). IsMadeBy shows own book (λ day. told_of own book (record { line = c.line-in-Last.result.now; day = day })) in
    by_line c.args.office.now.capacity own shows (g.S.Source.left c.args.source.now) c.line-in-Last.result.now c.next.new.self.line now after c.loop.invariant.stays.capacity c.line-in-Last.ensures
    (last_of_input c.loop.invariant.answered.2 _ c.next.new.self.line c.in-Last.ensures.comes.0 c.in-Last.ensures.comes.2 c.in-Last.ensures.comes.3 c.in-Last.ensures.comes.4)
    (leaves_further (g.K.Keeper.holds c.loop.keeper) (g.K.Keeper.holds c.answer_line-in-Last.new.keeper) (g.K.Keeper.leaves c.loop.keeper) c.loop.office.book c.answer_line-in-Last.new.office.book
    c.answer_line-in-Last.ensures.stays.told_before c.loop.invariant.stays.kept c.answer_line-in-Last.ensures.stays.kept
    (c.loop.invariant.sound sound (c.answer_line-in-Last.ensures.stays.crash_told telling)) (g.K.Keeper.leaves c.answer_line-in-Last.new.keeper) Is
    (line_leaves (Is c.loop.office.book) c.loop.office.book c.answer_line-in-Last.new.office.book (g.K.Keeper.holds c.answer_line-in-Last.new.keeper) (g.K.Keeper.leaves c.loop.keeper) (g.K.Keeper.leaves c.answer_line-in-Last.new.keeper)
    c.answer_line-in-Last.result (c.answer_line-in-Last.ensures.crash telling)) now holding after left)

pub returns-in_default-clause-stopped : goal.returns-in_default-clause-stopped
returns-in_default-clause-stopped g c = λ sound telling now holding after left. inl (sound telling now holding after left)

pub returns-in-End-clause-stopped : goal.returns-in-End-clause-stopped
returns-in-End-clause-stopped g c = λ sound telling now holding after left. inl (c.loop.invariant.sound sound telling now holding after left)

pub returns-in-TooLong-clause-stopped : goal.returns-in-TooLong-clause-stopped
returns-in-TooLong-clause-stopped g c = λ sound telling now holding after left. inl (c.loop.invariant.sound sound telling now holding after left)

pub returns-in-Failed-clause-stopped : goal.returns-in-Failed-clause-stopped
returns-in-Failed-clause-stopped g c = λ sound telling now holding after left. inl (c.loop.invariant.sound sound telling now holding after left)

pub returns-in-NoMemory-clause-stopped : goal.returns-in-NoMemory-clause-stopped
returns-in-NoMemory-clause-stopped g c = λ sound telling now holding after left. inl (c.loop.invariant.sound sound telling now holding after left)

pub returns-clause-stopped : goal.returns-clause-stopped
returns-clause-stopped g c = λ sound telling now holding after left. inl (c.loop.invariant.sound sound telling now holding after left)
