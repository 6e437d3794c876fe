use Rattle.record_history.proofs.Words.{◌∙◌, ap, Household, IsIndexed, room_for, map-set_same, All-set}
use Rattle.record_history.proofs.Places.{room_after, room_kept}
use Rattle.record_history.proofs.lists.reserve_there.Goals as goal

pub returns-clause-lists : goal.returns-clause-lists
returns-clause-lists c =
    map-set_same (λ (own : Household). own.records.items) c.args.households.now.items c.args.place c.reserve.new.self c.index_mut.result.now
    (c.reserve.ensures.records ∙ ap (λ (own : Household). own.records.items) c.index_mut.ensures.value)

pub returns-clause-indexed : goal.returns-clause-indexed
returns-clause-indexed c all =
    All-set IsIndexed c.args.households.now.items c.args.place c.reserve.new.self
    (c.reserve.ensures.indexed (rw c.index_mut.ensures.value (all c.args.place c.index_mut.result.now c.requires))) all

pub returns-clause-room : goal.returns-clause-room
returns-clause-room c = rw (room_after room_for c.args.households.now.items c.args.place c.reserve.new.self c.requires) c.reserve.ensures.room

pub returns-clause-kept : goal.returns-clause-kept
returns-clause-kept c =
    room_kept room_for c.args.households.now.items c.args.place c.reserve.new.self c.index_mut.result.now c.requires
    (rw c.index_mut.ensures.value at c.reserve.ensures.kept)
