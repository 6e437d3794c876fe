use Rattle.record_history.proofs.Words.{room_in, room_to_come}
use Rattle.record_history.proofs.Places.{room_last}
use Rattle.record_history.proofs.lists.reserve_at.Goals as goal

pub returns-else-place-len-clause-kept : goal.returns-else-place-len-clause-kept
returns-else-place-len-clause-kept c =
    rw c.reserve_next.ensures.households
    (room_last (room_in c.args.households.now.items) (room_to_come c.args.households.now c.args.next.now)
    (room_to_come c.reserve_next.new.households c.reserve_next.new.next) c.reserve_next.ensures.kept)
