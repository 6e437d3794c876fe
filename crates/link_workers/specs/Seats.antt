-- The seats of several workers before and after they served.
use Rattle.std.specs.Prelude.{◌≡◌, ℕ, ◌<◌, List, [], ◌∷◌, length, Option, slice_index_or}
use Rattle.office_links.specs.Links.{Links}
use Rattle.link_workers.specs.Links.{Served, ServesLinks, IsServedFrom}

module _ {Seat : Type 0} where
  -- as many seats as before, and each follows what it was
  pub record FollowsEach (follows : Seat → Seat → Type 0) (seats seats_now : List Seat) : Type 0 where
    pub many : length seats_now ≡ length seats
    pub each : (i : ℕ) (d : Seat) → i < length seats → follows (slice_index_or seats i d) (slice_index_or seats_now i d)

  -- where there is one seat, it served each link that was taken, in order
  abbrev pub ServesAlone : (Seat → Served → Seat → Type 0) → List Seat → List Seat → ℕ → ℕ → Option Links → Option Links → Type 0
  ServesAlone serves seats seats_now left left_now links links_now =
      (seat : Seat) → seats ≡ seat ∷ []
      → (seat_now : Seat) × (seats_now ≡ seat_now ∷ []) × ServesLinks serves seat seat_now left left_now links links_now

  -- whatever this seat makes of a link from now on, is such
  abbrev pub MakesOnly : (Seat → Served → Seat → Type 0) → (Seat → Seat → Type 0) → (Served → Seat → Type 0) → Seat → Type 0
  MakesOnly serves follows IsMade seat = (link : Served) (seat_now : Seat) → IsServedFrom serves follows seat link seat_now → IsMade link seat_now
