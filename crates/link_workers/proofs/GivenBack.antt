-- The links that were given back so far, whoever served them.
use Rattle.std.proofs.Common.{◌≡◌, ◌∙◌, ℕ, ◌+◌, ◌<◌, nat_lt, Bool, true, false, if◌then◌else◌, List, [], ◌∷◌, ◌++◌, length, map, refl, sym, ap, subst, arith}
use Rattle.std.specs.{Prelude.Option, Prelude.Some, Prelude.None, Prelude.IfSome, Prelude.All, Prelude.Contains, Prelude.slice_index_or}
use Rattle.std.proofs.lemmas.List.{append-nil, append_assoc, map-append, Elements.All-append, Elements.All-nil, Elements.All-push, Elements.Contains-append_right, Elements.Contains-get_or, Elements.All-contains_itself}
use Rattle.office_links.specs.{Links.Links, Links.Standing, Links.Accepts, Links.after_giving_back, Links.unused, declared.listener.Accepted.Accepted}
use Rattle.link_workers.specs.{Links.Served, Links.GivesBack, Links.IsLogged, Links.IsServedByOne, Links.KnowsStill, Links.TellsBack, Seats.FollowsEach, Seats.MakesOnly}

-- ---- what is told

back_none : (IsMade : Served → Type 0) (links : Links) → GivesBack IsMade links links
back_none IsMade links = record {
  taken = [];
  left = refl;
  served = [];
  came = All-nil (λ link. Contains (map unused links.left) link.came);
  made = All-nil IsMade;
  given_back = sym (append-nil links.given_back);
  room = refl;
}

pub tells_none : (IsMade : Served → Type 0) (links : Option Links) → TellsBack IsMade links links
tells_none IsMade None = tt
tells_none IsMade (Some links) = (links, refl, back_none IsMade links)

-- the links stay as they are
pub tells_same : (IsMade : Served → Type 0) (links mid now : Option Links) → TellsBack IsMade links mid → IfSome mid (λ told. now ≡ Some told)
    → TellsBack IsMade links now
tells_same IsMade None mid now tells same = tt
tells_same IsMade (Some links) mid now (told, is, back) same =
    (told, subst (λ (m : Option Links). IfSome m (λ it. now ≡ Some it)) is same, back)

-- ---- a link is taken

-- what stands behind others is among them
among_left : (taken rest all : List (List ℕ)) (bytes : List ℕ) → all ≡ taken ++ bytes ∷ rest → Contains (map unused all) (unused bytes)
among_left taken rest all bytes is =
    subst (λ ls. Contains ls (unused bytes)) (sym (ap (map unused) is ∙ map-append unused taken (bytes ∷ rest)))
    (Contains-append_right (map unused taken) (unused bytes ∷ map unused rest) (unused bytes)
    (Contains-get_or (unused bytes ∷ map unused rest) 0 (unused bytes) (omega arith)))

module _ {In Out : Type 0} (standing : In → Out → Standing) (IsMade : Served → Type 0) where
  -- the link that is taken is one of those that were left
  pub tells_came : (links mid now : Option Links) (source : In) (sink : Out) → TellsBack IsMade links mid
      → IfSome mid (λ told. Accepts standing told now (Accepted.Link source sink))
      → IfSome links (λ told. Contains (map unused told.left) (standing source sink))
  tells_came None mid now source sink tells accepts = tt
  tells_came (Some links) mid now source sink (told, is, back) accepts =
      let (bytes, rest, first, fresh, others) = subst (λ (m : Option Links). IfSome m (λ it. Accepts standing it now (Accepted.Link source sink))) is accepts in
      subst (Contains (map unused links.left)) (sym fresh)
      (among_left back.taken rest links.left bytes (back.left ∙ ap (λ ls. back.taken ++ ls) first))

  -- and those before are given back as they were
  pub tells_taken : (links mid now : Option Links) (source : In) (sink : Out) → TellsBack IsMade links mid
      → IfSome mid (λ told. Accepts standing told now (Accepted.Link source sink))
      → TellsBack IsMade links now
  tells_taken None mid now source sink tells accepts = tt
  tells_taken (Some links) mid now source sink (told, is, back) accepts =
      let (bytes, rest, first, fresh, others) = subst (λ (m : Option Links). IfSome m (λ it. Accepts standing it now (Accepted.Link source sink))) is accepts in (
        record told { left = rest },
        others,
        record {
          taken = back.taken ++ bytes ∷ [];
          left = back.left ∙ (ap (λ ls. back.taken ++ ls) first ∙ sym (append_assoc back.taken (bytes ∷ []) rest));
          served = back.served;
          came = back.came;
          made = back.made;
          given_back = back.given_back;
          room = back.room;
        },
      )

-- ---- a link is given back

module _ (IsMade : Served → Type 0) (link : Served) where
  back_one : (links mid : Links) → GivesBack IsMade links mid → Contains (map unused links.left) link.came → IsMade link
      → GivesBack IsMade links (record mid { given_back = mid.given_back ++ link.given_back ∷ [] })
  back_one links mid back came made = record {
    taken = back.taken;
    left = back.left;
    served = back.served ++ link ∷ [];
    came = All-push (λ it. Contains (map unused links.left) it.came) back.served link back.came came;
    made = All-push IsMade back.served link back.made made;
    given_back = ap (λ (ls : List Standing). ls ++ link.given_back ∷ []) back.given_back
        ∙ (append_assoc links.given_back (map (λ it. it.given_back) back.served) (link.given_back ∷ [])
        ∙ ap (λ (ls : List Standing). links.given_back ++ ls) (sym (map-append (λ it. it.given_back) back.served (link ∷ []))));
    room = back.room;
  }

  -- where there is no room for it, it is dropped
  back_if : (links mid : Links) (room : Bool) → GivesBack IsMade links mid → Contains (map unused links.left) link.came → IsMade link
      → GivesBack IsMade links (if room then record mid { given_back = mid.given_back ++ link.given_back ∷ [] } else mid)
  back_if links mid true back came made = back_one links mid back came made
  back_if links mid false back came made = back

  pub tells_more : (links mid now : Option Links) → TellsBack IsMade links mid
      → IfSome mid (λ told. now ≡ Some (after_giving_back told link.given_back))
      → IfSome links (λ told. Contains (map unused told.left) link.came) → IsMade link
      → TellsBack IsMade links now
  tells_more None mid now tells gives came made = tt
  tells_more (Some links) mid now (told, is, back) gives came made = (
    after_giving_back told link.given_back,
    subst (λ (m : Option Links). IfSome m (λ it. now ≡ Some (after_giving_back it link.given_back))) is gives,
    back_if links told (nat_lt (length told.left + length told.given_back) told.room) back came made,
  )

-- it is hung up before it is given back, which changes nothing that it tells
pub hung_up : (IsMade : Served → Type 0) (came : Standing) (left : Option (List ℕ)) (reads : ℕ) (held held_now : Option (List ℕ)) (writes writes_now : ℕ)
    → held_now ≡ held → writes_now ≡ writes
    → IsMade (record { came = came; given_back = record { left = left; held = held; failed_reads = reads; failed_writes = writes } })
    → IsMade (record { came = came; given_back = record { left = left; held = held_now; failed_reads = reads; failed_writes = writes_now } })
hung_up IsMade came left reads held held_now writes writes_now same unfaulted made =
    subst (λ (n : ℕ). IsMade (record { came = came; given_back = record { left = left; held = held_now; failed_reads = reads; failed_writes = n } })) (sym unfaulted)
    (subst (λ (bytes : Option (List ℕ)). IsMade (record { came = came; given_back = record { left = left; held = bytes; failed_reads = reads; failed_writes = writes } })) (sym same) made)

-- ---- one after another

still_left : (taken all rest : List (List ℕ)) (came : Standing) → all ≡ taken ++ rest → Contains (map unused rest) came → Contains (map unused all) came
still_left taken all rest came is among =
    subst (λ ls. Contains ls came) (sym (ap (map unused) is ∙ map-append unused taken rest)) (Contains-append_right (map unused taken) (map unused rest) came among)

module _ (IsMade IsMadeLater : Served → Type 0) (means : (link : Served) → IsMadeLater link → IsMade link) where
  back_joins : (links mid now : Links) → GivesBack IsMade links mid → GivesBack IsMadeLater mid now → GivesBack IsMade links now
  back_joins links mid now first later = record {
    taken = first.taken ++ later.taken;
    left = first.left ∙ (ap (λ ls. first.taken ++ ls) later.left ∙ sym (append_assoc first.taken later.taken now.left));
    served = first.served ++ later.served;
    came = All-append (λ it. Contains (map unused links.left) it.came) first.served later.served first.came
        (λ k d within. still_left first.taken links.left mid.left (slice_index_or later.served k d).came first.left (later.came k d within));
    made = All-append IsMade first.served later.served first.made (λ k d within. means (slice_index_or later.served k d) (later.made k d within));
    given_back = later.given_back ∙ (ap (λ (ls : List Standing). ls ++ map (λ it. it.given_back) later.served) first.given_back
        ∙ (append_assoc links.given_back (map (λ it. it.given_back) first.served) (map (λ it. it.given_back) later.served)
        ∙ ap (λ (ls : List Standing). links.given_back ++ ls) (sym (map-append (λ it. it.given_back) first.served later.served))));
    room = later.room ∙ first.room;
  }

  pub tells_joins : (links mid now : Option Links) → TellsBack IsMade links mid → TellsBack IsMadeLater mid now → TellsBack IsMade links now
  tells_joins None mid now first later = tt
  tells_joins (Some links) mid now (told, is, back) later =
      let (told_now, is_now, back_now) = subst (λ (m : Option Links). TellsBack IsMadeLater m now) is later in
      (told_now, is_now, back_joins links told told_now back back_now)

-- said otherwise
pub tells_otherwise : (IsMade Other : Served → Type 0) → ((link : Served) → IsMade link → Other link) → (links now : Option Links)
    → TellsBack IsMade links now → TellsBack Other links now
tells_otherwise IsMade Other means links now tells = tells_joins Other IsMade means links links now (tells_none Other links) tells

-- what the log knew it knows still
pub logged_still : {Seat : Type 0} (IsMade : Served → Seat → Type 0) (IsKnown IsKnownNow : Seat → Type 0) → KnowsStill IsKnown IsKnownNow
    → (links now : Option Links) → TellsBack (IsLogged IsMade IsKnown) links now → TellsBack (IsLogged IsMade IsKnownNow) links now
logged_still IsMade IsKnown IsKnownNow still links now tells =
    tells_otherwise (IsLogged IsMade IsKnown) (IsLogged IsMade IsKnownNow) (λ link logged. (logged.0, logged.1, still logged.0 logged.2)) links now tells

-- what seats made, said otherwise
pub logged_otherwise : {Seat : Type 0} (IsMade Other : Served → Seat → Type 0) (IsKnown : Seat → Type 0)
    → ((link : Served) (seat : Seat) → IsMade link seat → Other link seat)
    → (links now : Option Links) → TellsBack (IsLogged IsMade IsKnown) links now → TellsBack (IsLogged Other IsKnown) links now
logged_otherwise IsMade Other IsKnown means links now tells =
    tells_otherwise (IsLogged IsMade IsKnown) (IsLogged Other IsKnown) (λ link logged. (logged.0, means link logged.0 logged.1, logged.2)) links now tells

-- ---- seats

module _ {Seat : Type 0} (serves : Seat → Served → Seat → Type 0) (follows : Seat → Seat → Type 0) where
  -- a seat that this one came to makes only what this one makes
  pub makes_on : (joins : (seat mid seat_now : Seat) → follows seat mid → follows mid seat_now → follows seat seat_now) (IsMade : Served → Seat → Type 0)
      (seat seat_now : Seat) → follows seat seat_now → MakesOnly serves follows IsMade seat → MakesOnly serves follows IsMade seat_now
  makes_on joins IsMade seat seat_now goes makes = λ link after served.
      makes link after (served.0, joins seat seat_now served.0 goes served.1, served.2)

  pub makes_each : (joins : (seat mid seat_now : Seat) → follows seat mid → follows mid seat_now → follows seat seat_now) (IsMade : Served → Seat → Type 0)
      (seats seats_now : List Seat) → FollowsEach follows seats seats_now → All (MakesOnly serves follows IsMade) seats → All (MakesOnly serves follows IsMade) seats_now
  makes_each joins IsMade seats seats_now goes makes = λ k d within.
      let among : k < length seats = omega (arith, within, goes.many) in
      makes_on joins IsMade _ _ (goes.each k d among) (makes k d among)

  -- what each of these seats makes is made by one of them
  pub makes_all : (seats : List Seat) → All (MakesOnly serves follows (IsServedByOne serves follows seats)) seats
  makes_all seats = λ k d within. λ link after served. (_, All-contains_itself seats k d within, served)
