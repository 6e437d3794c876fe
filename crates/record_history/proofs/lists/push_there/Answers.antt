use Rattle.record_history.proofs.Words.{◌∙◌, sym, ap, ◌++◌, ◌∷◌, [], Household, IsIndexed, room_for, All-set, get_or-map}
use Rattle.record_history.proofs.Places.{is_there, lists_pushed, room_pushed}
use Rattle.record_history.proofs.lists.push_there.Goals as goal

pub push-requires-clause-room : goal.push-requires-clause-room
push-requires-clause-room c =
    let there = is_there room_for c.args.households.now.items c.args.place c.requires.room in
    rw (get_or-map room_for c.args.households.now.items c.args.place c.index_mut.result.now 0 there ∙ ap room_for (sym c.index_mut.ensures.value)) at c.requires.room

pub push-requires-clause-indexed : goal.push-requires-clause-indexed
push-requires-clause-indexed c =
    let there = is_there room_for c.args.households.now.items c.args.place c.requires.room in
    rw c.index_mut.ensures.value (c.requires.indexed c.args.place c.index_mut.result.now there)

pub push-requires-clause-follows : goal.push-requires-clause-follows
push-requires-clause-follows c =
    let there = is_there room_for c.args.households.now.items c.args.place c.requires.room in
    rw (get_or-map (λ (own : Household). own.records.items) c.args.households.now.items c.args.place c.index_mut.result.now [] there
    ∙ ap (λ (own : Household). own.records.items) (sym c.index_mut.ensures.value)) at c.requires.follows

pub returns-clause-lists : goal.returns-clause-lists
returns-clause-lists c =
    let there = is_there room_for c.args.households.now.items c.args.place c.requires.room in
    lists_pushed (λ (own : Household). own.records.items) c.args.households.now.items c.args.place c.push.new.self c.index_mut.result.now c.args.held there
    (c.push.ensures.records ∙ ap (λ (own : Household). own.records.items ++ c.args.held ∷ []) c.index_mut.ensures.value)

pub returns-clause-indexed : goal.returns-clause-indexed
returns-clause-indexed c = All-set IsIndexed c.args.households.now.items c.args.place c.push.new.self c.push.ensures.indexed c.requires.indexed

pub returns-clause-room : goal.returns-clause-room
returns-clause-room c =
    let there = is_there room_for c.args.households.now.items c.args.place c.requires.room in
    room_pushed room_for c.args.households.now.items c.args.place c.push.new.self c.index_mut.result.now there
    (rw c.index_mut.ensures.value at c.push.ensures.room)
