use Rattle.desk_history.proofs.holding.look.Given as goal
use Rattle.desk_history.specs.declared.views.View.TheVariants.{Holding}
use Rattle.desk_history.specs.Seen.{holding_of}
use Rattle.desk_history.specs.Moves.{looked}

abbrev pub ghosts-look_as : goal.ghosts-look_as
ghosts-look_as g a = record { view = Holding (looked (holding_of a.book.now.me.0) (g.K.Keeper.faults a.keeper.now)) }
