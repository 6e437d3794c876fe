use Rattle.office_core.proofs.replaying.Replay.redo.Given as goal

abbrev pub ghost-planned_again : goal.ghost-planned_again
ghost-planned_again g a = g.book

abbrev pub ghost-redo_step : goal.ghost-redo_step
ghost-redo_step g a = g.book
