use Rattle.office_core.proofs.replaying.Replay.planned_again.Given as goal

abbrev pub ghost-planned_call : goal.ghost-planned_call
ghost-planned_call g a = g.book
