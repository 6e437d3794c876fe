use Rattle.std.proofs.Common.{◌≡◌, ◌≤◌, ◌∙◌, ℕ, Some, List, length, inl, subst}
use Rattle.std.proofs.lemmas.Option.{IfSome_then}
use Rattle.office_io.specs.declared.status.ExitStatus.{ExitStatus}
use Rattle.office_io.specs.Transfer.{Takes}
use Rattle.book_rows.specs.Book.{Book}
use Rattle.office_prog.specs.Import.{AnswersInput, Imported, LeavesByInput, import_limit}
use Rattle.import_command.proofs.Below.clerk_desk.Staying.{stays}
use Rattle.office_prog.proofs.Stops.{input_of_source, outlives_as, outlives_still}
use Rattle.program_answers.specs.Opening.{Door, door}
use Rattle.office_prog.proofs.import.import.Goals as goal

-- an input that was taken whole was answered
whole_answered : (clerk : ℕ) (shows : ℕ → Type 0) (start after : Book) (old new : Door) (status : ExitStatus) (bytes input : List ℕ) → input ≡ bytes
    → length bytes ≤ import_limit → Takes import_limit old.left new.left bytes → AnswersInput clerk shows input start after old new status
    → Imported clerk shows start after old new status
whole_answered clerk shows start after old new status bytes input is short takes answers =
    inl (bytes, short, takes, subst (λ (b : List ℕ). AnswersInput clerk shows b start after old new status) is answers)

pub returns-in-Whole-clause-imported : goal.returns-in-Whole-clause-imported
returns-in-Whole-clause-imported g c =
    let before = door (g.S.Source.left c.args.source.now) (g.W.Sink.held c.args.sink.now) (g.S.Source.faults c.args.source.now) (g.W.Sink.faults c.args.sink.now) (g.K.Keeper.faults c.args.keeper.now) in
    let now = door (g.S.Source.left c.read_up_to.new.source) (g.W.Sink.held c.answer_input.new.sink) (g.S.Source.faults c.read_up_to.new.source) (g.W.Sink.faults c.answer_input.new.sink)
    (g.K.Keeper.faults c.answer_input.new.keeper) in
    whole_answered c.args.clerk (g.C.Clock.may_show c.args.clock.now) c.args.office.now.book c.answer_input.new.office.book before now c.answer_input.result
    c.in-Whole.input.items c.deref.result.now c.deref.ensures.value c.in-Whole.ensures.taken.0 c.in-Whole.ensures.taken.1
    (c.answer_input.ensures.answered (g.S.Source.left c.args.source.now) (g.S.Source.left c.read_up_to.new.source) (g.S.Source.faults c.args.source.now) (g.S.Source.faults c.read_up_to.new.source)
    c.in-Whole.ensures.cause)

pub returns-in-Whole-clause-stopped : goal.returns-in-Whole-clause-stopped
returns-in-Whole-clause-stopped g c =
    outlives_as (LeavesByInput c.args.clerk (g.C.Clock.may_show c.args.clock.now) (Some c.deref.result.now)) (LeavesByInput c.args.clerk (g.C.Clock.may_show c.args.clock.now) (g.S.Source.left c.args.source.now))
    (g.K.Keeper.holds c.args.keeper.now) (g.K.Keeper.holds c.answer_input.new.keeper) (g.K.Keeper.leaves c.args.keeper.now) (g.K.Keeper.leaves c.answer_input.new.keeper)
    (input_of_source c.args.clerk (g.C.Clock.may_show c.args.clock.now) (g.S.Source.left c.args.source.now) c.deref.result.now
    (IfSome_then (g.S.Source.left c.args.source.now) c.in-Whole.ensures.told (λ told is. c.deref.ensures.value ∙ is.1))) c.answer_input.ensures.stopped

pub returns-in-TooLong-clause-stays : goal.returns-in-TooLong-clause-stays
returns-in-TooLong-clause-stays g c = stays g.K.Keeper _ _ c.requires.told

pub returns-in-TooLong-clause-stopped : goal.returns-in-TooLong-clause-stopped
returns-in-TooLong-clause-stopped g c = outlives_still (LeavesByInput c.args.clerk (g.C.Clock.may_show c.args.clock.now) (g.S.Source.left c.args.source.now)) (g.K.Keeper.holds c.args.keeper.now) (g.K.Keeper.leaves c.args.keeper.now) (λ held after same. inl same)

pub returns-in-Failed-clause-stays : goal.returns-in-Failed-clause-stays
returns-in-Failed-clause-stays g c = stays g.K.Keeper _ _ c.requires.told

pub returns-in-Failed-clause-stopped : goal.returns-in-Failed-clause-stopped
returns-in-Failed-clause-stopped g c = outlives_still (LeavesByInput c.args.clerk (g.C.Clock.may_show c.args.clock.now) (g.S.Source.left c.args.source.now)) (g.K.Keeper.holds c.args.keeper.now) (g.K.Keeper.leaves c.args.keeper.now) (λ held after same. inl same)

pub returns-in-NoMemory-clause-stays : goal.returns-in-NoMemory-clause-stays
returns-in-NoMemory-clause-stays g c = stays g.K.Keeper _ _ c.requires.told

pub returns-in-NoMemory-clause-stopped : goal.returns-in-NoMemory-clause-stopped
returns-in-NoMemory-clause-stopped g c = outlives_still (LeavesByInput c.args.clerk (g.C.Clock.may_show c.args.clock.now) (g.S.Source.left c.args.source.now)) (g.K.Keeper.holds c.args.keeper.now) (g.K.Keeper.leaves c.args.keeper.now) (λ held after same. inl same)
