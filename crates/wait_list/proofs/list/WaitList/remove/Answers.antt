use Rattle.wait_list.proofs.Words.{◌≡◌, ◌∙◌, sym, ap, ◌-◌, length, min, vec_len, vec_capacity, is_listed, without}
use Rattle.wait_list.proofs.Standing.{own_ranked, sound-without, listed_alike, left_of, room_left}
use Rattle.wait_list.proofs.list.WaitList.remove.Goals as goal

pub take_out-requires-2 : goal.take_out-requires-2
take_out-requires-2 c = own_ranked c.args.number c.self.inside.applicants.items c.self.inside.ranked.items c.self.invariant

pub invariant_of-self : goal.invariant_of-self
invariant_of-self c =
    rw (c.take_out.ensures.items, c.take_out-2.ensures.items)
    (sound-without c.args.number c.self.inside.applicants.items c.self.inside.ranked.items c.self.invariant)

pub returns-clause-room : goal.returns-clause-room
returns-clause-room c =
    let number = c.args.number in
    let applicants = c.self.inside.applicants.items in
    let ranked = c.self.inside.ranked.items in
    let listed : c.listed-listed.result ≡ is_listed applicants number = rw (ap (λ list. list.applicants) c.self.view_is) c.listed-listed.ensures in
    let same : c.listed-listed.result ≡ is_listed ranked number = listed ∙ sym (listed_alike number applicants ranked c.self.invariant) in
    let room : min (vec_capacity c.self.inside.applicants - vec_len c.self.inside.applicants) (vec_capacity c.self.inside.ranked - vec_len c.self.inside.ranked) ≡ c.args.self.now.room =
    ap (λ list. list.room) c.self.view_is in
    let stay : vec_len c.take_out.new.applicants ≡ length (without number applicants) = c.take_out.new.applicants.ok.0 ∙ ap length c.take_out.ensures.items in
    let stay_ranked : vec_len c.take_out-2.new.applicants ≡ length (without number ranked) = c.take_out-2.new.applicants.ok.0 ∙ ap length c.take_out-2.ensures.items in
    rw (c.take_out.ensures.capacity, c.take_out-2.ensures.capacity)
    (room_left c.listed-listed.result (vec_len c.self.inside.applicants) (vec_len c.self.inside.ranked) _ _ _ _ c.args.self.now.room
    (left_of number applicants _ _ _ c.self.invariant.list.numbers listed c.self.inside.applicants.ok.0 stay)
    (left_of number ranked _ _ _ (own_ranked number applicants ranked c.self.invariant) same c.self.inside.ranked.ok.0 stay_ranked)
    c.self.inside.applicants.ok.1 c.self.inside.ranked.ok.1 room)
