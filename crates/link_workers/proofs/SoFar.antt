-- The links that were served so far, while more may come.
use Rattle.std.proofs.Common.{◌≡◌, ◌∙◌, ℕ, ◌+◌, ◌<◌, ◌≤◌, nat_lt, Bool, true, if◌then◌else◌, List, [], ◌∷◌, ◌++◌, length, map, refl, sym, ap, subst, arith}
use Rattle.std.specs.{Prelude.Option, Prelude.Some, Prelude.None, Prelude.IfSome}
use Rattle.std.proofs.lemmas.List.{append-nil, append_assoc, length-append, map-append}
use Rattle.office_links.specs.{Links.Links, Links.Standing, Links.Accepts, Links.Fits, Links.after_giving_back, Links.unused, declared.listener.Accepted.Accepted}
use Rattle.link_workers.specs.Links.{Served, ServesEach, ServesLinks, TellsServed}

-- ---- what is told

told_none : (links : Option Links) → IfSome links (λ told. (told_now : Links) × (links ≡ Some told_now) × TellsServed [] told told_now)
told_none None = tt
told_none (Some told) = (told, refl, record { came = refl; given_back = sym (append-nil told.given_back); room = refl })

-- there is room for a link that was left
has_room : (bytes : List ℕ) (rest : List (List ℕ)) (left : ℕ) (links : Links) → Fits left links → links.left ≡ bytes ∷ rest
    → nat_lt (length rest + length links.given_back) links.room ≡ true
has_room bytes rest left links fits is =
    let long : length links.left ≡ length (bytes ∷ rest) = ap length is in
    let within : length links.left + length links.given_back ≤ links.room = fits.1 in
    let has : length rest + length links.given_back < links.room = omega (arith, long, within) in
    search arith

module _ {In Out : Type 0} (standing : In → Out → Standing) (served : List Served) (link : Served) where
  -- the first link that is left is given back
  told_next : (told mid : Links) (next now : Option Links) (left : ℕ) (source : In) (sink : Out)
      → link.came ≡ standing source sink → TellsServed served told mid → Fits left mid → Accepts standing mid next (Accepted.Link source sink)
      → IfSome next (λ it. now ≡ Some (after_giving_back it link.given_back))
      → (told_now : Links) × (now ≡ Some told_now) × TellsServed (served ++ link ∷ []) told told_now
  told_next told mid next now left source sink came tells fits (bytes, rest, first, fresh, others) gives =
      let now_is : now ≡ Some (after_giving_back (record mid { left = rest }) link.given_back) =
      subst (λ (n : Option Links). IfSome n (λ it. now ≡ Some (after_giving_back it link.given_back))) others gives in
      let later : Links = record mid { left = rest; given_back = mid.given_back ++ link.given_back ∷ [] } in
      let appended : after_giving_back (record mid { left = rest }) link.given_back ≡ later =
      ap (λ (t : Bool). if t then later else record mid { left = rest }) (has_room bytes rest left mid fits first) in (
        later,
        now_is ∙ ap Some appended,
        record {
          came = came_next;
          given_back = back_next;
          room = tells.room;
        },
      ) where
        came_next : map unused told.left ≡ map (λ it. it.came) (served ++ link ∷ []) ++ map unused rest
        came_next = tells.came ∙ (ap (λ (ls : List (List ℕ)). map (λ it. it.came) served ++ map unused ls) first
            ∙ (ap (λ (it : Standing). map (λ s. s.came) served ++ it ∷ map unused rest) (sym (came ∙ fresh))
            ∙ (sym (append_assoc (map (λ s. s.came) served) (link.came ∷ []) (map unused rest))
            ∙ ap (λ (ls : List Standing). ls ++ map unused rest) (sym (map-append (λ s. s.came) served (link ∷ []))))))

        back_next : mid.given_back ++ link.given_back ∷ [] ≡ told.given_back ++ map (λ s. s.given_back) (served ++ link ∷ [])
        back_next = ap (λ (ls : List Standing). ls ++ link.given_back ∷ []) tells.given_back
            ∙ (append_assoc told.given_back (map (λ s. s.given_back) served) (link.given_back ∷ [])
            ∙ ap (λ (ls : List Standing). told.given_back ++ ls) (sym (map-append (λ s. s.given_back) served (link ∷ []))))

  told_more : (links mid next now : Option Links) (left : ℕ) (source : In) (sink : Out)
      → link.came ≡ standing source sink
      → IfSome links (λ told. (told_mid : Links) × (mid ≡ Some told_mid) × TellsServed served told told_mid)
      → IfSome mid (Fits left) → IfSome mid (λ told. Accepts standing told next (Accepted.Link source sink))
      → IfSome next (λ it. now ≡ Some (after_giving_back it link.given_back))
      → IfSome links (λ told. (told_now : Links) × (now ≡ Some told_now) × TellsServed (served ++ link ∷ []) told told_now)
  told_more None mid next now left source sink came tells fits accepts gives = tt
  told_more (Some told) mid next now left source sink came (told_mid, is, tells) fits accepts gives =
      told_next told told_mid next now left source sink came tells
      (subst (λ (m : Option Links). IfSome m (Fits left)) is fits)
      (subst (λ (m : Option Links). IfSome m (λ it. Accepts standing it next (Accepted.Link source sink))) is accepts) gives

told_all : (served : List Served) (links mid now : Option Links) (left : ℕ)
    → IfSome links (λ told. (told_mid : Links) × (mid ≡ Some told_mid) × TellsServed served told told_mid)
    → IfSome mid (Fits left) → IfSome mid (λ told. now ≡ Some told)
    → IfSome links (λ told. (told_now : Links) × (now ≡ Some told_now) × Fits left told_now × TellsServed served told told_now)
told_all served None mid now left tells fits stays = tt
told_all served (Some told) mid now left (told_mid, is, tells) fits stays = (
  told_mid,
  subst (λ (m : Option Links). IfSome m (λ it. now ≡ Some it)) is stays,
  subst (λ (m : Option Links). IfSome m (Fits left)) is fits,
  tells,
)

-- ---- the links so far

module _ {Seat : Type 0} (serves : Seat → Served → Seat → Type 0) where
  -- these links were served, and where the listener tells its links it tells these
  pub record SoFar (seat seat_now : Seat) (left left_now : ℕ) (links links_now : Option Links) : Type 0 where
    pub served : List Served
    pub each : ServesEach serves seat served seat_now
    pub count : left ≡ length served + left_now
    pub told : IfSome links (λ told. (told_now : Links) × (links_now ≡ Some told_now) × TellsServed served told told_now)

  each_more : (served : List Served) (old mid new : Seat) (link : Served) → ServesEach serves old served mid
      → serves mid link new → ServesEach serves old (served ++ link ∷ []) new
  each_more [] old mid new link same one = (new, subst (λ (s : Seat). serves s link new) same one, refl)
  each_more (first ∷ others) old mid new link (next, is, each) one = (next, is, each_more others next mid new link each one)

  pub so_far_none : (old : Seat) (left : ℕ) (links : Option Links) → SoFar old old left left links links
  so_far_none old left links = record { served = []; each = refl; count = omega (arith); told = told_none links }

  -- one more link was taken, served and given back
  pub so_far_more : {In Out : Type 0} (standing : In → Out → Standing) (old mid new : Seat) (left left_mid left_next left_now : ℕ)
      (links links_mid links_next links_now : Option Links) (source : In) (sink : Out)
      → SoFar old mid left left_mid links links_mid
      → left_mid ≡ left_next + 1 → IfSome links_mid (Fits left_mid)
      → IfSome links_mid (λ told. Accepts standing told links_next (Accepted.Link source sink))
      → (given_back : Standing) × serves mid (record { came = standing source sink; given_back = given_back }) new
      × IfSome links_next (λ told. links_now ≡ Some (after_giving_back told given_back))
      → left_now ≡ left_next
      → SoFar old new left left_now links links_now
  so_far_more standing old mid new left left_mid left_next left_now links links_mid links_next links_now source sink s counts fits accepts
      (given_back, one, gives) same =
      let link : Served = record { came = standing source sink; given_back = given_back } in
      let long : length (s.served ++ link ∷ []) ≡ length s.served + 1 = length-append s.served (link ∷ []) in
      record {
        served = s.served ++ link ∷ [];
        each = each_more s.served old mid new link s.each one;
        count = let before = s.count in omega (arith, before, counts, same, long);
        told = told_more standing s.served link links links_mid links_next links_now left_mid source sink refl s.told fits accepts gives;
      }

  -- no more are served
  pub so_far_all : (old new : Seat) (left left_mid left_now : ℕ) (links links_mid links_now : Option Links)
      → SoFar old new left left_mid links links_mid
      → left_now ≡ left_mid → IfSome links_mid (Fits left_mid) → IfSome links_mid (λ told. links_now ≡ Some told)
      → ServesLinks serves old new left left_now links links_now
  so_far_all old new left left_mid left_now links links_mid links_now s same fits stays = record {
    served = s.served;
    each = s.each;
    count = s.count ∙ ap (λ (n : ℕ). length s.served + n) (sym same);
    told = told_all s.served links links_mid links_now left_now s.told (subst (λ (n : ℕ). IfSome links_mid (Fits n)) (sym same) fits) stays;
  }
