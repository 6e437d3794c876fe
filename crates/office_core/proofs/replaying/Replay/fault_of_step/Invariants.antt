use Rattle.office_core.proofs.replaying.Replay.fault_of_step.Given as goal

abbrev pub ghost-reserve : goal.ghost-reserve
ghost-reserve g a = g.book
