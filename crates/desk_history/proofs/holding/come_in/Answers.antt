use Rattle.std.proofs.Common.{arith, ◌≡◌}
use Rattle.desk_history.specs.declared.views.View.TheVariants.{Home}
use Rattle.desk_history.specs.Seen.{pass_in}
use Rattle.desk_history.proofs.Comings.{comes_in_as}
use Rattle.desk_history.proofs.holding.come_in.Goals as goal

pub join_seat-requires : goal.join_seat-requires
join_seat-requires c =
    let table = c.requires.table in
    let seat = c.into_seat-seat.ensures in
    let taken = c.replace.ensures.value in
    let home : c.into_seat-seat.result.me.0 ≡ Home (pass_in c.args.pass.now.views) = cc (seat.2, taken, c.requires.home) in
    (table.0, cc (seat.0, taken, table.1), seat.3, omega (arith, table.2), comes_in_as _ _ _ _ _ (pass_in c.args.pass.now.views) c.requires.free home)
