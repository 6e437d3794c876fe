use Rattle.std.proofs.Common.{arith, ◌≡◌}
use Rattle.desk_history.specs.declared.views.View.TheVariants.{Home}
use Rattle.desk_history.specs.Seen.{pass_in}
use Rattle.desk_history.proofs.Notes.{writes_note_as}
use Rattle.desk_history.proofs.noting.write_note.Goals as goal

pub split_seat-note-requires : goal.split_seat-note-requires
split_seat-note-requires c =
    let table = c.requires.table in
    let seat = c.into_seat-seat.ensures in
    let taken = c.replace.ensures.value in
    let home : c.into_seat-seat.result.me.0 ≡ Home (pass_in c.args.pass.now.views) = cc (seat.2, taken, c.requires.home) in
    (cc (seat.0, taken, table.0), omega (arith, table.1), writes_note_as _ _ (pass_in c.args.pass.now.views) home)
