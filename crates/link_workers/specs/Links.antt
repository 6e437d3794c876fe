-- How one seat serves links, one after another, and what a listener then tells of them.
use Rattle.std.specs.Prelude.{◌≡◌, ℕ, ◌+◌, Option, Some, IfSome, List, [], ◌∷◌, ◌++◌, length, map, All, Contains}
use Rattle.office_links.specs.Links.{Fits, Links, Standing, unused}

-- a link as it came, and as it was given back
pub record Served : Type 0 where
  pub came : Standing
  pub given_back : Standing

-- these were the first of the links that were left, just as nobody had used them, and have all been given back in their order
pub record TellsServed (served : List Served) (links links_now : Links) : Type 0 where
  pub came : map unused links.left ≡ map (λ link. link.came) served ++ map unused links_now.left
  pub given_back : links_now.given_back ≡ links.given_back ++ map (λ link. link.given_back) served
  pub room : links_now.room ≡ links.room

-- Some of the links that were left were taken in their order. Each link that was given back since is one of those that were
-- left, came just as nobody had used it, and was served as it is said.
pub record GivesBack (IsMade : Served → Type 0) (links links_now : Links) : Type 0 where
  pub taken : List (List ℕ)
  pub left : links.left ≡ taken ++ links_now.left
  pub served : List Served
  pub came : All (λ link. Contains (map unused links.left) link.came) served
  pub made : All IsMade served
  pub given_back : links_now.given_back ≡ links.given_back ++ map (λ link. link.given_back) served
  pub room : links_now.room ≡ links.room

-- where the listener tells its links, it tells that of them
abbrev pub TellsBack : (Served → Type 0) → Option Links → Option Links → Type 0
TellsBack IsMade links links_now = IfSome links (λ told. (told_now : Links) × (links_now ≡ Some told_now) × GivesBack IsMade told told_now)

module _ {Seat : Type 0} (serves : Seat → Served → Seat → Type 0) where
  -- each of these links was served in its turn, by the seat as the one before it had left that
  abbrev pub ServesEach : Seat → List Served → Seat → Type 0
  ServesEach seat [] seat_now = seat_now ≡ seat
  ServesEach seat (link ∷ links) seat_now = (mid : Seat) × serves seat link mid × ServesEach mid links seat_now

  -- Some links were served, one after another, and no other was taken. Where the listener tells its links, it tells these.
  pub record ServesLinks (seat seat_now : Seat) (left left_now : ℕ) (links links_now : Option Links) : Type 0 where
    pub served : List Served
    pub each : ServesEach seat served seat_now
    pub count : left ≡ length served + left_now
    pub told : IfSome links (λ told. (told_now : Links) × (links_now ≡ Some told_now) × Fits left_now told_now × TellsServed served told told_now)

  -- a seat to which this one had come made that of a link, and such it was afterwards
  abbrev pub IsServedFrom : (Seat → Seat → Type 0) → Seat → Served → Seat → Type 0
  IsServedFrom follows seat link seat_now = (mid : Seat) × follows seat mid × serves mid link seat_now

  -- and it was one of these
  abbrev pub IsServedByOne : (Seat → Seat → Type 0) → List Seat → Served → Seat → Type 0
  IsServedByOne follows seats link seat_now = (seat : Seat) × Contains seats seat × IsServedFrom follows seat link seat_now

-- what a log says of seats it says still
abbrev pub KnowsStill : {Seat : Type 0} → (Seat → Type 0) → (Seat → Type 0) → Type 0
KnowsStill {Seat} knows knows_now = (seat : Seat) → knows seat → knows_now seat

-- that was made of a link, and what the seat was afterwards is known
abbrev pub IsLogged : {Seat : Type 0} → (Served → Seat → Type 0) → (Seat → Type 0) → Served → Type 0
IsLogged {Seat} IsMade IsKnown link = (seat_now : Seat) × IsMade link seat_now × IsKnown seat_now
