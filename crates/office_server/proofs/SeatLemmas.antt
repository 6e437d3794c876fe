-- What passes come to from seat to seat.
use Rattle.std.proofs.Common.{◌≡◌, ◌∙◌, ◌<◌, ℕ, ◌+◌, zero, suc, inl, inr, List, [], ◌∷◌, ◌++◌, length, map, take, drop, get_or, ap, refl, sym, subst, arith}
use Rattle.std.specs.Prelude.{All, Contains, Option}
use Rattle.std.proofs.lemmas.List.Elements.{All-cons, All-contains, All-map, All-nil}
use Rattle.std.proofs.lemmas.List.{append-nil, take_all}
use Rattle.std.proofs.Math.ListN.{drop_of_length-le, length-map}
use Rattle.list_laws.proofs.Elements.{All-unmap, Contains-map}
use Rattle.office_links.specs.Links.{Links}
use Rattle.desk_history.specs.declared.views.{PassView.PassView, Start.Start}
use Rattle.shared_desk.specs.{Calls.Further, Passes.AreFresh}
use Rattle.link_workers.specs.{Links.IsServedByOne, Links.Served, Links.ServesEach, Links.ServesLinks, Seats.FollowsEach}

-- ---- starts

further_start : (old new : PassView) → Further old new → new.start ≡ old.start
further_start old new (inl same) = ap (λ (p : PassView). p.start) same
further_start old new (inr (booked, tries, goes)) = goes.start

pub further_number : (old new : PassView) → Further old new → new.number ≡ old.number
further_number old new (inl same) = ap (λ (p : PassView). p.number) same
further_number old new (inr (booked, tries, goes)) = goes.number

-- new passes all have the desk's start
pub fresh_starts : (start : Start) (next : ℕ) (passes : List PassView) → AreFresh start next passes → All (λ pass. pass.start ≡ start) passes
fresh_starts start next [] fresh = All-nil (λ (p : PassView). p.start ≡ start)
fresh_starts start next (pass ∷ passes) fresh = All-cons (λ (p : PassView). p.start ≡ start) pass passes fresh.0.start_is (fresh_starts start (next + 1) passes fresh.1)

-- what all have the last has
pub last_is : {T : Type 0} (P : T → Type 0) (front : List T) (last : T) → All P (front ++ last ∷ []) → P last
last_is P [] last all = all 0 last (omega arith)
last_is P (x ∷ front) last all = last_is P front last (λ k d within. all (suc k) d (omega (arith, within)))

-- of one the last is that one
pub one_last : {T : Type 0} (front : List T) (last x : T) → front ++ last ∷ [] ≡ x ∷ [] → last ≡ x
one_last [] last x is = cc is
one_last (y ∷ []) last x is = absurd (cc is)
one_last (y ∷ z ∷ front) last x is = absurd (cc is)

-- new passes have the numbers from the next one on, in their order
pub fresh_at : (start : Start) (next : ℕ) (passes : List PassView) → AreFresh start next passes → (k : ℕ) (d : PassView) → k < length passes
    → (get_or passes k d).number ≡ next + k
fresh_at start next [] fresh k d within = absurd (omega (arith, within))
fresh_at start next (pass ∷ passes) fresh zero d within = let is = fresh.0.number_is in omega (arith, is)
fresh_at start next (pass ∷ passes) fresh (suc k) d within =
    let later = fresh_at start (next + 1) passes fresh.1 k d (omega (arith, within)) in omega (arith, later)

module _ {T : Type 0} (pass_of : T → PassView) where
  -- and keep it, whatever they are used for
  pub starts_stay : (start : Start) (seats seats_now : List T) → FollowsEach (λ seat seat_now. Further (pass_of seat) (pass_of seat_now)) seats seats_now
      → All (λ pass. pass.start ≡ start) (map pass_of seats) → All (λ pass. pass.start ≡ start) (map pass_of seats_now)
  starts_stay start seats seats_now follows all =
      All-map (λ (p : PassView). p.start ≡ start) pass_of seats_now (λ k d within.
      let among : k < length seats = omega (arith, within, follows.many) in
      further_start _ _ (follows.each k d among) ∙ All-unmap (λ (p : PassView). p.start ≡ start) pass_of seats all k d among)

-- a list that was lent whole and written back
pub written_back : {T : Type 0} (old new : List T) (len : ℕ) → len ≡ length old → length new ≡ length old → take len (new ++ drop (length new) old) ≡ new
written_back old new len is many =
    ap (λ rest. take len (new ++ rest)) (drop_of_length-le old (omega (arith, many))) ∙ ap (take len) (append-nil new) ∙ take_all len new (omega (arith, is, many))

-- ---- one seat

-- what is mapped to a list of one is a list of one
pub one_of : {T P : Type 0} (f : T → P) (xs : List T) (y : P) → map f xs ≡ y ∷ [] → (x : T) × (xs ≡ x ∷ []) × (f x ≡ y)
one_of f [] y is = absurd (cc is)
one_of f (x ∷ []) y is = (x, refl, cc is)
one_of f (x ∷ other ∷ xs) y is = absurd (cc is)

pub one_long : {T : Type 0} (xs : List T) → length xs ≡ 1 → (x : T) × (xs ≡ x ∷ [])
one_long [] is = absurd (omega (arith, is))
one_long (x ∷ []) is = (x, refl)
one_long (x ∷ other ∷ xs) is = absurd (omega (arith, is))

-- links that seats served, said of what is seen of the seats
module _
    {T P : Type 0} (seen : T → P) (Holds : T → Type 0) (serves : T → Served → T → Type 0) (seen_serves : P → Served → P → Type 0)
    (shows : (seat : T) (link : Served) (seat_now : T) → Holds seat → serves seat link seat_now → seen_serves (seen seat) link (seen seat_now) × Holds seat_now) where
  each_seen : (seat seat_now : T) (served : List Served) → Holds seat → ServesEach serves seat served seat_now → ServesEach seen_serves (seen seat) served (seen seat_now)
  each_seen seat seat_now [] holds same = ap seen same
  each_seen seat seat_now (link ∷ served) holds (mid, one, others) =
      let first = shows seat link mid holds one in (seen mid, first.0, each_seen mid seat_now served first.1 others)

  pub links_seen : (seat seat_now : T) (left left_now : ℕ) (links links_now : Option Links) → Holds seat
      → ServesLinks serves seat seat_now left left_now links links_now → ServesLinks seen_serves (seen seat) (seen seat_now) left left_now links links_now
  links_seen seat seat_now left left_now links links_now holds s = record {
    served = s.served;
    each = each_seen seat seat_now s.served holds s.each;
    count = s.count;
    told = s.told;
  }

-- ---- all seats

-- what is seen of who served a link
made_by_one : {T P : Type 0} (seen : T → P) (serves : T → Served → T → Type 0) (follows : T → T → Type 0)
    (seen_serves : P → Served → P → Type 0) (seen_follows : P → P → Type 0) (seats : List T)
    → ((seat mid : T) → Contains seats seat → follows seat mid → seen_follows (seen seat) (seen mid))
    → ((seat mid seat_now : T) (link : Served) → Contains seats seat → follows seat mid → serves mid link seat_now → seen_serves (seen mid) link (seen seat_now))
    → (link : Served) (seat_now : T) → IsServedByOne serves follows seats link seat_now → IsServedByOne seen_serves seen_follows (map seen seats) link (seen seat_now)
made_by_one seen serves follows seen_serves seen_follows seats goes shows link seat_now made =
    let from = made.2 in (
      seen made.0,
      Contains-map seen seats made.0 made.1,
      (seen from.0, goes made.0 from.0 made.1 from.1, shows made.0 from.0 seat_now link made.1 from.1 from.2),
    )

module _ {T : Type 0} (pass_of : T → PassView) where
  each_pass : (seats seats_now : List T) → length seats_now ≡ length seats
      → ((i : ℕ) (d : T) → i < length seats → Further (pass_of (get_or seats i d)) (pass_of (get_or seats_now i d)))
      → (i : ℕ) (d : PassView) → i < length (map pass_of seats) → Further (get_or (map pass_of seats) i d) (get_or (map pass_of seats_now) i d)
  each_pass [] seats_now many each i d within = absurd (omega (arith, within))
  each_pass (seat ∷ seats) [] many each i d within = absurd (omega (arith, many))
  each_pass (seat ∷ seats) (now ∷ seats_now) many each zero d within = each zero seat (omega arith)
  each_pass (seat ∷ seats) (now ∷ seats_now) many each (suc i) d within =
      each_pass seats seats_now (omega (arith, many)) (λ k e lt. each (suc k) e (omega (arith, lt))) i d (omega (arith, within))

  -- the passes of seats that went on went on
  pub passes_follow : (seats seats_now : List T) → FollowsEach (λ seat seat_now. Further (pass_of seat) (pass_of seat_now)) seats seats_now
      → FollowsEach Further (map pass_of seats) (map pass_of seats_now)
  passes_follow seats seats_now follows = record {
    many = length-map seats_now pass_of ∙ (follows.many ∙ sym (length-map seats pass_of));
    each = each_pass seats seats_now follows.many follows.each;
  }

  -- what a seat made of a link, its pass made
  pub made_by_pass : {C : Type 0} (clock_of : T → C) (now : C) (IsServedAt : C → PassView → PassView → Served → Type 0) (seats : List T)
      → All (λ seat. clock_of seat ≡ now) seats → (link : Served) (seat_now : T)
      → IsServedByOne (λ seat link seat_now. IsServedAt (clock_of seat) (pass_of seat) (pass_of seat_now) link × (clock_of seat_now ≡ clock_of seat))
      (λ seat seat_now. Further (pass_of seat) (pass_of seat_now) × (clock_of seat_now ≡ clock_of seat)) seats link seat_now
      → IsServedByOne (λ pass link pass_now. IsServedAt now pass pass_now link) Further (map pass_of seats) link (pass_of seat_now)
  made_by_pass clock_of now IsServedAt seats clocks =
      made_by_one pass_of (λ seat link seat_now. IsServedAt (clock_of seat) (pass_of seat) (pass_of seat_now) link × (clock_of seat_now ≡ clock_of seat))
      (λ seat seat_now. Further (pass_of seat) (pass_of seat_now) × (clock_of seat_now ≡ clock_of seat))
      (λ pass link pass_now. IsServedAt now pass pass_now link) Further seats
      (λ seat mid among follows. follows.0)
      (λ seat mid seat_now link among follows served. subst (λ clock. IsServedAt clock (pass_of mid) (pass_of seat_now) link)
      (follows.1 ∙ All-contains (λ it. clock_of it ≡ now) seats seat clocks among) served.0)
