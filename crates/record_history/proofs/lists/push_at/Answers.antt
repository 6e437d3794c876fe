use Rattle.record_history.proofs.Words.{◌∙◌, arith, length-map, lists_in, room_in, room_to_come, room_for}
use Rattle.record_history.proofs.Places.{is_next, lists_more, room_more, room_there}
use Rattle.record_history.proofs.lists.push_at.Goals as goal

pub returns-else-place-len-clause-lists : goal.returns-else-place-len-clause-lists
returns-else-place-len-clause-lists c =
    let households = c.args.households.now.items in
    let next = is_next room_for households c.args.place (room_to_come c.args.households.now c.args.next.now) (omega (arith, c.if-place-len.false, c.len.ensures)) c.requires.room in
    c.push_next.ensures.lists ∙ lists_more (lists_in households) c.args.place c.args.held (rw length-map next)

pub returns-else-place-len-clause-room : goal.returns-else-place-len-clause-room
returns-else-place-len-clause-room c =
    let households = c.args.households.now.items in
    let to_come = room_to_come c.args.households.now c.args.next.now in
    let next = is_next room_for households c.args.place to_come (omega (arith, c.if-place-len.false, c.len.ensures)) c.requires.room in
    rw (c.push_next.ensures.room, c.push_next.ensures.to_come)
    (room_more households (room_in households) to_come c.args.place next (rw length-map next))

pub returns-then-place-len-clause-room : goal.returns-then-place-len-clause-room
returns-then-place-len-clause-room c =
    let households = c.args.households.now.items in
    rw (c.push_there.ensures.room, c.push_there.ensures.len, c.push_there.ensures.capacity)
    (room_there households (room_in households) (room_to_come c.args.households.now c.args.next.now) c.args.place (length-map households room_for)
    (omega (arith, c.if-place-len.true, c.len.ensures)))
