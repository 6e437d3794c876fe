use Rattle.desk_history.proofs.holding.write_try.Given as goal
use Rattle.desk_history.specs.declared.views.View.TheVariants.{Holding}
use Rattle.desk_history.specs.Seen.{holding_of}
use Rattle.desk_history.specs.Moves.{unkept}

abbrev pub ghosts-write_try_as : goal.ghosts-write_try_as
ghosts-write_try_as g a = record { view = Holding (unkept (holding_of a.book.now.me.0) a.rows.now (g.K.Keeper.faults a.keeper.now)) }
