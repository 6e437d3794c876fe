use Rattle.office_core.proofs.replaying.Replay.redo_step.Given as goal

abbrev pub ghost-fault_of_step : goal.ghost-fault_of_step
ghost-fault_of_step g a = g.book

abbrev pub ghost-note : goal.ghost-note
ghost-note g a = g.book
