use Rattle.desk_history.proofs.holding.append.Given as goal
use Rattle.desk_history.specs.declared.views.View.TheVariants.{Holding}
use Rattle.desk_history.specs.Seen.{holding_of}
use Rattle.desk_history.specs.Moves.{booked}

abbrev pub ghosts-append_as : goal.ghosts-append_as
ghosts-append_as a = record { view = Holding (booked (holding_of a.book.now.me.0) a.row.now) }
