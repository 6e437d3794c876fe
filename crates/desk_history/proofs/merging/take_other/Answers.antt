use Rattle.std.proofs.Common.{arith, ◌∙◌}
use Rattle.desk_history.specs.Seen.{note_in}
use Rattle.desk_history.proofs.Notes.{takes_other_as}
use Rattle.desk_history.proofs.merging.take_other.Goals as goal

pub join_seat-requires : goal.join_seat-requires
join_seat-requires c =
    let table = c.requires.table in
    let seat = c.into_seat-seat.ensures in
    (table.0, seat.0 ∙ table.1, seat.3, omega (arith, table.2), takes_other_as _ _ _ c.into_seat-seat.result.me.0 _ (note_in c.args.other.views) c.requires.first (cc (seat.2, c.requires.other)))
