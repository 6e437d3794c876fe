use Rattle.std.proofs.Common.{◌≡◌, ◌∙◌, rules, refl, sym, ap, subst, subst₂, inl, Some}
use Rattle.book_rows.specs.{declared.rows.Batch.Batch, Book.Book, Book.IsBatch, Book.IsBefore, Book.appended}
use Rattle.office_core.specs.Planned.{IsPlannedFor}
use Rattle.office_core.specs.Below.office_step.Step.{step, appends}
use Rattle.clerk_desk.specs.Serving.{book_after}
use Rattle.clerk_desk.proofs.Staying.{stays_as, stays_by, stays_still, leaves_unkept}
use Rattle.clerk_desk.proofs.serving.book_call.Goals as goal

pub commit-requires-clause-batch : goal.commit-requires-clause-batch
commit-requires-clause-batch g c =
    let planned : IsPlannedFor c.args.office.now.capacity c.args.office.now.book c.in-Ok-New.step = search rules in
    subst IsBatch (sym c.batch.ensures) (c.batches_follow.ensures _ _ _ c.tables-of_an_office.ensures.reached planned.appends).0

pub commit-requires-clause-next : goal.commit-requires-clause-next
commit-requires-clause-next g c =
    let planned : IsPlannedFor c.args.office.now.capacity c.args.office.now.book c.in-Ok-New.step = search rules in
    λ book told.
    subst₂ (λ (b : Book) (rows : Batch). IsBefore b rows.act.n) (sym (c.requires.told book told)) (sym c.batch.ensures)
    (c.batches_follow.ensures _ _ _ c.tables-of_an_office.ensures.reached planned.appends).1

-- ---- the keeper is sent nothing

pub returns-in_default-clause-stays : goal.returns-in_default-clause-stays
returns-in_default-clause-stays g c = stays_still g.K.Keeper _ c.reserve.new.self _ c.requires.told c.reserve.ensures.capacity c.reserve.ensures.book

pub returns-in-Ok-Repeat-clause-served : goal.returns-in-Ok-Repeat-clause-served
returns-in-Ok-Repeat-clause-served g c = search rules

pub returns-in-Err-Refused-clause-served : goal.returns-in-Err-Refused-clause-served
returns-in-Err-Refused-clause-served g c = search rules

-- ---- it kept the rows

pub returns-in-Done-clause-came : goal.returns-in-Done-clause-came
returns-in-Done-clause-came g c =
    let planned : IsPlannedFor c.args.office.now.capacity c.args.office.now.book c.in-Ok-New.step = search rules in
    let judged : step c.args.office.now.book c.args.office.now.capacity c.args.session c.args.clock c.args.call ≡ appends c.in-Ok-New.step.rows = search rules in (
      c.in-Ok-New.step.rows,
      record { appends_them = judged; by_office = planned.appends },
      c.apply.ensures.book ∙ ap (λ (book : Book). appended book c.in-Ok-New.step.rows) c.reserve.ensures.book,
    )

pub returns-in-Done-clause-stays : goal.returns-in-Done-clause-stays
returns-in-Done-clause-stays g c =
    stays_by g.K.Keeper _ c.apply.new.self _ c.commit.new.self c.requires.told (c.apply.ensures.capacity ∙ c.reserve.ensures.capacity)
    c.in-Done.ensures.kept_row c.in-Done.ensures.well c.in-Done.ensures.told (λ book. appended book c.batch.result.now)
    (c.apply.ensures.book ∙ (λ i. appended (c.reserve.ensures.book i) (sym c.batch.ensures i))) c.in-Done.ensures.leaves c.in-Done.ensures.goes_on

pub returns-in-Done-clause-crash : goal.returns-in-Done-clause-crash
returns-in-Done-clause-crash g c =
    λ telling told holding after left.
    (let was = c.in-Done.ensures.leaves told holding in
    inl (c.in-Done.ensures.crash telling told holding after left
    ∙ ap Some (was.1.1 ∙ (λ i. appended ((c.requires.told was.0 was.1.0 ∙ sym c.reserve.ensures.book) i) (c.batch.ensures i)) ∙ sym c.apply.ensures.book)))

-- ---- it did not say it kept them

pub returns-in-Failed-clause-came : goal.returns-in-Failed-clause-came
returns-in-Failed-clause-came g c =
    let planned : IsPlannedFor c.args.office.now.capacity c.args.office.now.book c.in-Ok-New.step = search rules in
    let judged : step c.args.office.now.book c.args.office.now.capacity c.args.session c.args.clock c.args.call ≡ appends c.in-Ok-New.step.rows = search rules in (
      tt,
      record { appends_them = judged; by_office = planned.appends },
      c.reserve.ensures.book,
      leaves_unkept g.K.Keeper c.args.office.now c.reserve.new.self c.args.keeper.now c.commit.new.self _ _ _ c.requires.told planned.appends refl c.batch.ensures c.reserve.ensures.book
          c.in-Failed.ensures.leaves c.in-Failed.ensures.crash,
    )

pub returns-in-NoMemory-clause-came : goal.returns-in-NoMemory-clause-came
returns-in-NoMemory-clause-came g c =
    let planned : IsPlannedFor c.args.office.now.capacity c.args.office.now.book c.in-Ok-New.step = search rules in
    let judged : step c.args.office.now.book c.args.office.now.capacity c.args.session c.args.clock c.args.call ≡ appends c.in-Ok-New.step.rows = search rules in (
      tt,
      record { appends_them = judged; by_office = planned.appends },
      c.reserve.ensures.book,
      leaves_unkept g.K.Keeper c.args.office.now c.reserve.new.self c.args.keeper.now c.commit.new.self _ _ _ c.requires.told planned.appends refl c.batch.ensures c.reserve.ensures.book
          c.in-NoMemory.ensures.leaves c.in-NoMemory.ensures.crash,
    )

pub returns-in-Failed-clause-stays : goal.returns-in-Failed-clause-stays
returns-in-Failed-clause-stays g c =
    stays_as g.K.Keeper _ c.reserve.new.self _ c.commit.new.self c.requires.told c.reserve.ensures.capacity
    c.in-Failed.ensures.kept_row c.in-Failed.ensures.well c.in-Failed.ensures.told c.reserve.ensures.book c.in-Failed.ensures.leaves c.in-Failed.ensures.goes_on

pub returns-in-NoMemory-clause-stays : goal.returns-in-NoMemory-clause-stays
returns-in-NoMemory-clause-stays g c =
    stays_as g.K.Keeper _ c.reserve.new.self _ c.commit.new.self c.requires.told c.reserve.ensures.capacity
    c.in-NoMemory.ensures.kept_row c.in-NoMemory.ensures.well c.in-NoMemory.ensures.told c.reserve.ensures.book c.in-NoMemory.ensures.leaves c.in-NoMemory.ensures.goes_on

pub returns-in-Failed-clause-crash : goal.returns-in-Failed-clause-crash
returns-in-Failed-clause-crash g c =
    let planned : IsPlannedFor c.args.office.now.capacity c.args.office.now.book c.in-Ok-New.step = search rules in
    let judged : step c.args.office.now.book c.args.office.now.capacity c.args.session c.args.clock c.args.call ≡ appends c.in-Ok-New.step.rows = search rules in
    leaves_unkept g.K.Keeper c.args.office.now c.reserve.new.self c.args.keeper.now c.commit.new.self _ _ _ c.requires.told planned.appends (ap (book_after c.args.office.now.book) judged)
    c.batch.ensures c.reserve.ensures.book c.in-Failed.ensures.leaves c.in-Failed.ensures.crash

pub returns-in-NoMemory-clause-crash : goal.returns-in-NoMemory-clause-crash
returns-in-NoMemory-clause-crash g c =
    let planned : IsPlannedFor c.args.office.now.capacity c.args.office.now.book c.in-Ok-New.step = search rules in
    let judged : step c.args.office.now.book c.args.office.now.capacity c.args.session c.args.clock c.args.call ≡ appends c.in-Ok-New.step.rows = search rules in
    leaves_unkept g.K.Keeper c.args.office.now c.reserve.new.self c.args.keeper.now c.commit.new.self _ _ _ c.requires.told planned.appends (ap (book_after c.args.office.now.book) judged)
    c.batch.ensures c.reserve.ensures.book c.in-NoMemory.ensures.leaves c.in-NoMemory.ensures.crash
