use Rattle.std.proofs.Common.{◌≡◌, ◌∙◌, inr, arith, ℕ, List, [], ◌∷◌, ◌++◌, length, map, ap, sym, subst}
use Rattle.std.specs.Prelude.{All, IsSomeAnd, slice_index_or}
use Rattle.desk_history.specs.declared.views.PassView.{PassView}
use Rattle.http_front.specs.Together.{KnowsBeginning}
use Rattle.link_workers.proofs.GivenBack.{tells_otherwise}
use Rattle.link_workers.specs.{Links.IsLogged, Links.IsServedByOne, Links.Served, Links.ServesLinks, Links.TellsBack, Seats.FollowsEach}
use Rattle.shared_desk.specs.Calls.{Further}
use Rattle.office_server.specs.Links.{HasLearned, IsServed}
use Rattle.office_server.proofs.{Logs.log_knows, SeatLemmas.further_number, SeatLemmas.last_is, SeatLemmas.links_seen, SeatLemmas.made_by_pass, SeatLemmas.one_last, SeatLemmas.one_of, SeatLemmas.passes_follow, SeatLemmas.starts_stay, SeatLemmas.written_back}
use Rattle.office_server.proofs.desk.serve_by.Goals as goal

-- one of the passes, from what it had come to, made that of a link
abbrev by_passes : (ℕ → Type 0) → List PassView → Served → PassView → Type 0
by_passes shows passes = IsServedByOne (λ pass link pass_now. IsServed shows pass pass_now link) Further passes

pub gathered-last-requires-clause-room : goal.gathered-last-requires-clause-room
gathered-last-requires-clause-room g c =
    let seats = c.in-Ok.seated.seats.items in
    let seats_now = c.serve_all-listener.new.seats in
    let follows = subst (λ them. FollowsEach (λ seat seat_now. Further seat.pass seat_now.pass × (seat_now.clock.now ≡ seat.clock.now)) them seats_now) c.deref_mut.ensures.value c.serve_all-listener.ensures.follows in
    let back = ap length (written_back seats seats_now c.in-Ok.seated.seats.len c.in-Ok.seated.seats.ok.0 follows.many) in
    let room = c.in-Ok.ensures.room in
    (room.0, omega (arith, back, follows.many, room.1))

pub returns-after-failed-clause-start : goal.returns-after-failed-clause-start
returns-after-failed-clause-start g c = λ start all.
    let seats = c.in-Ok.seated.seats.items in
    let seats_now = c.serve_all-listener.new.seats in
    let follows = subst (λ them. FollowsEach (λ seat seat_now. Further seat.pass seat_now.pass × (seat_now.clock.now ≡ seat.clock.now)) them seats_now) c.deref_mut.ensures.value c.serve_all-listener.ensures.follows in
    let back = written_back seats seats_now c.in-Ok.seated.seats.len c.in-Ok.seated.seats.ok.0 follows.many in
    let before = subst (All (λ (p : PassView). p.start ≡ start)) (sym c.in-Ok.ensures.passes) all in
    let after = starts_stay (λ seat. seat.pass) start seats seats_now (record { many = follows.many; each = λ k d within. (follows.each k d within).0 }) before in
    let (last, is, learned) = c.gathered-last.ensures.passes in
    learned.start ∙ last_is (λ (p : PassView). p.start ≡ start) c.gathered-last.result.others.items last
    (subst (All (λ (p : PassView). p.start ≡ start)) (ap (map (λ seat. seat.pass)) (sym back) ∙ is) after)

pub returns-after-failed-clause-alone : goal.returns-after-failed-clause-alone
returns-after-failed-clause-alone g c = λ pass is.
    let seats = c.in-Ok.seated.seats.items in
    let seats_now = c.serve_all-listener.new.seats in
    let follows = subst (λ them. FollowsEach (λ seat seat_now. Further seat.pass seat_now.pass × (seat_now.clock.now ≡ seat.clock.now)) them seats_now) c.deref_mut.ensures.value c.serve_all-listener.ensures.follows in
    let back = written_back seats seats_now c.in-Ok.seated.seats.len c.in-Ok.seated.seats.ok.0 follows.many in
    let one = one_of (λ seat. seat.pass) seats pass (c.in-Ok.ensures.passes ∙ is) in
    let served = c.serve_all-listener.ensures.alone one.0 (c.deref_mut.ensures.value ∙ one.1) in
    let clock = subst (All (λ seat. seat.clock.now ≡ c.args.clock.now)) one.1 c.in-Ok.ensures.clock 0 one.0 (omega arith) in
    let seen = links_seen (λ seat. seat.pass) (λ seat. seat.clock.now ≡ c.args.clock.now) _ (λ old link new. IsServed (g.C.Clock.may_show c.args.clock.now) old new link)
    (λ seat link seat_now holds it. (subst (λ s. IsServed (g.C.Clock.may_show s) seat.pass seat_now.pass link) holds it.0, it.1 ∙ holds))
    one.0 served.0 (g.L.Listener.left c.args.listener) (g.L.Listener.left c.serve_all-listener.result.listener)
    (g.L.Listener.links c.args.listener) (g.L.Listener.links c.serve_all-listener.result.listener) clock served.2 in
    let (last, are, learned) = c.gathered-last.ensures.passes in
    let end = one_last c.gathered-last.result.others.items last served.0.pass (sym (ap (map (λ seat. seat.pass)) (sym (back ∙ served.1)) ∙ are)) in
    let goes = subst (λ them. Further one.0.pass (slice_index_or them 0 one.0).pass) served.1
    (subst (λ them. Further (slice_index_or them 0 one.0).pass (slice_index_or seats_now 0 one.0).pass) one.1 (follows.each 0 one.0 (let long = ap length one.1 in omega (arith, long))).0) in
    inr (record {
      pass_now = served.0.pass;
      number = further_number one.0.pass served.0.pass goes ∙ ap (λ (p : PassView). p.number) one.2;
      learned = subst (λ (p : PassView). HasLearned p c.gathered-last.result.last) end learned;
      served = subst (λ (p : PassView). ServesLinks (λ old link new. IsServed (g.C.Clock.may_show c.args.clock.now) old new link) p served.0.pass
          (g.L.Listener.left c.args.listener) (g.L.Listener.left c.serve_all-listener.result.listener)
          (g.L.Listener.links c.args.listener) (g.L.Listener.links c.serve_all-listener.result.listener)) one.2 seen;
    })

pub returns-after-failed-clause-works : goal.returns-after-failed-clause-works
returns-after-failed-clause-works g c =
    let seats = c.in-Ok.seated.seats.items in
    let seats_now = c.serve_all-listener.new.seats in
    let follows = subst (λ them. FollowsEach (λ seat seat_now. Further seat.pass seat_now.pass × (seat_now.clock.now ≡ seat.clock.now)) them seats_now) c.deref_mut.ensures.value c.serve_all-listener.ensures.follows in
    let back = written_back seats seats_now c.in-Ok.seated.seats.len c.in-Ok.seated.seats.ok.0 follows.many in
    let (last, are, learned) = c.gathered-last.ensures.passes in
    let now_are = ap (map (λ seat. seat.pass)) (sym back) ∙ are in
    let given = subst (λ them. TellsBack (IsLogged (IsServedByOne (λ seat link seat_now. IsServed (g.C.Clock.may_show seat.clock.now) seat.pass seat_now.pass link × (seat_now.clock.now ≡ seat.clock.now))
    (λ seat seat_now. Further seat.pass seat_now.pass × (seat_now.clock.now ≡ seat.clock.now)) them)
    (λ seat. IsSomeAnd c.serve_all-listener.result.log (λ note. KnowsBeginning note.start note.list seat.pass)))
    (g.L.Listener.links c.args.listener) (g.L.Listener.links c.serve_all-listener.result.listener))
    c.deref_mut.ensures.value c.serve_all-listener.ensures.given_back in
    inr (record {
      end = last;
      follows = subst (λ them. FollowsEach Further them (c.gathered-last.result.others.items ++ last ∷ [])) c.in-Ok.ensures.passes
          (subst (FollowsEach Further (map (λ seat. seat.pass) seats)) now_are
          (passes_follow (λ seat. seat.pass) seats seats_now (record { many = follows.many; each = λ k d within. (follows.each k d within).0 })));
      learned = learned;
      given_back = tells_otherwise _ (IsLogged (by_passes (g.C.Clock.may_show c.args.clock.now) c.args.passes.items) (KnowsBeginning c.gathered-last.result.last.start c.gathered-last.result.last.list))
          (λ link logged. (
            logged.0.pass,
            subst (λ them. by_passes (g.C.Clock.may_show c.args.clock.now) them link logged.0.pass) c.in-Ok.ensures.passes
                (made_by_pass (λ seat. seat.pass) (λ seat. seat.clock.now) c.args.clock.now (λ now. IsServed (g.C.Clock.may_show now)) seats c.in-Ok.ensures.clock link logged.0 logged.1),
            log_knows c.serve_all-listener.result.log c.gathered-last.result.last.start c.gathered-last.result.last.list logged.0.pass c.gathered-last.ensures.log logged.2,
          ))
          _ _ given;
    })
