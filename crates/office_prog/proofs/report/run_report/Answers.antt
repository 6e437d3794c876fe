use Rattle.std.proofs.Common.{refl, inl, inr}
use Rattle.office_prog.specs.Report.{Reported}
use Rattle.batch_command.specs.Below.clerk_desk.Serving.{IsLeft}
use Rattle.program_answers.specs.Opening.{largest}
use Rattle.program_answers.proofs.Keeping.{unopened_tells, outlives_alone}
use Rattle.program_answers.proofs.Serving.{served}
use Rattle.office_prog.proofs.report.run_report.Goals as goal

pub returns-in-Ok-clause-comes : goal.returns-in-Ok-clause-comes
returns-in-Ok-clause-comes g c = λ left source.
    inl (served (Reported c.args.report) _ _ _ _ _ left _ source _ _ _ _ _ _ _ _ c.in-Ok.ensures.valid c.in-Ok.ensures.capacity
    c.tables-of_an_office.ensures.reached c.tables-of_an_office.ensures.upheld c.in-Ok.ensures.told c.in-Ok.ensures.kept c.in-Ok.ensures.no_fault
    c.in-Ok.ensures.told.holds_only (λ book told. (book, told)) (λ row told. told)
    (record { same = refl; told = c.write_report.ensures left source _; unread = refl; source = refl; keeper = refl }))

pub returns-in-Err-clause-comes : goal.returns-in-Err-clause-comes
returns-in-Err-clause-comes g c = λ left source. inr (record {
  why = c.in-Err.fault;
  is_why = c.in-Err.ensures.unopened;
  kept = c.in-Err.ensures.kept;
  unread = refl;
  unfaulted = refl;
  told = c.tell_unopened.ensures left source _ _ c.in-Err.ensures.cause;
})

pub returns-in-Ok-clause-tells_on : goal.returns-in-Ok-clause-tells_on
returns-in-Ok-clause-tells_on g c = unopened_tells (g.K.Keeper.holds c.args.keeper.now) (g.K.Keeper.holds c.open_office.new.keeper) c.in-Ok.ensures.goes_on

pub returns-in-Ok-clause-stopped : goal.returns-in-Ok-clause-stopped
returns-in-Ok-clause-stopped g c =
    outlives_alone (g.K.Keeper.holds c.args.keeper.now) (g.K.Keeper.holds c.open_office.new.keeper) (g.K.Keeper.leaves c.args.keeper.now) (g.K.Keeper.leaves c.open_office.new.keeper) c.in-Ok.ensures.kept c.in-Ok.ensures.crash_told c.in-Ok.ensures.crash
    (IsLeft largest) (λ book after same. inl same)

pub returns-in-Err-clause-tells_on : goal.returns-in-Err-clause-tells_on
returns-in-Err-clause-tells_on g c = unopened_tells (g.K.Keeper.holds c.args.keeper.now) (g.K.Keeper.holds c.open_office.new.keeper) c.in-Err.ensures.goes_on

pub returns-in-Err-clause-stopped : goal.returns-in-Err-clause-stopped
returns-in-Err-clause-stopped g c =
    outlives_alone (g.K.Keeper.holds c.args.keeper.now) (g.K.Keeper.holds c.open_office.new.keeper) (g.K.Keeper.leaves c.args.keeper.now) (g.K.Keeper.leaves c.open_office.new.keeper) c.in-Err.ensures.kept c.in-Err.ensures.crash_told c.in-Err.ensures.crash
    (IsLeft largest) (λ book after same. inl same)
