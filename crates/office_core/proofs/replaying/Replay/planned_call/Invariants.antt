use Rattle.office_core.proofs.replaying.Replay.planned_call.Given as goal

abbrev pub ghost-planned_new : goal.ghost-planned_new
ghost-planned_new g a = g.book
