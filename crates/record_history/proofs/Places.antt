-- Vectors of which one changes.
use Rattle.std.proofs.Common.{lt-ltb, append-nil}
use Rattle.record_history.proofs.Words.{◌≡◌, ◌∙◌, sym, ap, refl, ℕ, zero, suc, ◌-◌, ◌<◌, ◌≤◌, List, [], ◌∷◌, ◌++◌, length, get_or, set, arith, map, nat_lt, if◌then◌else◌, length-map, length_push, map-set, get_or-map, get_or-set_other, get_or_past, get_or_push, set_at, nat_tests, elements, with_place}

-- where there is room there is a place
there : (xs : List ℕ) (place : ℕ) → 1 ≤ get_or xs place 0 → place < length xs
there xs place room = grind (arith, get_or_past)

-- of each element a number, as its room
module _ {X : Type 0} (room : X → ℕ) (xs : List X) (place : ℕ) where
  -- the room where the element there is another
  pub room_after : (x : X) → place < length xs → get_or (map room (set xs place x)) place 0 ≡ room x
  room_after x within = grind (arith, elements, map-set)

  -- an element with no less room takes none away
  pub room_kept : (x d : X) → place < length xs → room (get_or xs place d) ≤ room x →
      (other : ℕ) → get_or (map room xs) other 0 ≤ get_or (map room (set xs place x)) other 0
  room_kept x d within more other = grind (arith, map-set, get_or-set_other, get_or-map room xs place d 0 within, room_after x within)

  -- a place with room is one of an element
  pub is_there : 1 ≤ get_or (map room xs) place 0 → place < length xs
  is_there has = rw length-map at (there (map room xs) place has)

  -- one has room for one less
  pub room_pushed : (x d : X) → place < length xs → room x ≡ room (get_or xs place d) - 1 →
      map room (set xs place x) ≡ set (map room xs) place (get_or (map room xs) place 0 - 1)
  room_pushed x d within less = simp (map-set, less, get_or-map room xs place d 0 within)

  -- a place with room that none has is the next
  pub is_next : (to_come : ℕ) → length xs ≤ place → 1 ≤ get_or (map room xs ++ to_come ∷ []) place 0 → length xs ≡ place
  is_next to_come past has =
      omega (arith, length-map xs room, there (map room xs ++ to_come ∷ []) place has, length_push (map room xs) to_come)

-- of each element a list, one of which gets an item more
pub lists_pushed : {X T : Type 0} (items : X → List T) (xs : List X) (place : ℕ) (x d : X) (item : T) → place < length xs →
    items x ≡ items (get_or xs place d) ++ item ∷ [] →
    map items (set xs place x) ≡ set (map items xs) place (get_or (map items xs) place [] ++ item ∷ [])
lists_pushed items xs place x d item within more = simp (map-set, more, get_or-map items xs place d [] within)

-- a list of one item more is one at the next place, with the item
pub lists_more : {T : Type 0} (lists : List (List T)) (place : ℕ) (item : T) → length lists ≡ place →
    lists ++ (item ∷ []) ∷ [] ≡ set (with_place lists place) place (get_or lists place [] ++ item ∷ [])
lists_more lists place item long = grind (arith, nat_tests, get_or_past, set_at)

-- the room for one item less at the last place, and none at the one after it
pub room_more : {A : Type 0} (lists : List A) (room : List ℕ) (to_come place : ℕ) → length lists ≡ place → length room ≡ place →
    (room ++ (to_come - 1) ∷ []) ++ 0 ∷ []
    ≡ set (room ++ to_come ∷ []) place (get_or (room ++ to_come ∷ []) place 0 - 1) ++ (if nat_lt place (length lists) then [] else 0 ∷ [])
room_more lists room to_come place long same = grind (arith, nat_tests, get_or_push, set_at)

-- more room for the one to come takes none away
pub room_last : (room : List ℕ) (to_come more : ℕ) → to_come ≤ more → (place : ℕ) → get_or (room ++ to_come ∷ []) place 0 ≤ get_or (room ++ more ∷ []) place 0
room_last [] to_come more le zero = le
room_last [] to_come more le (suc place) = omega arith
room_last (r ∷ room) to_come more le zero = omega arith
room_last (r ∷ room) to_come more le (suc place) = room_last room to_come more le place

-- the room for one item less at a place before the last
less_there : (room : List ℕ) (to_come place : ℕ) → place < length room →
    set room place (get_or room place 0 - 1) ++ to_come ∷ [] ≡ set (room ++ to_come ∷ []) place (get_or (room ++ to_come ∷ []) place 0 - 1)
less_there [] to_come place within = absurd (omega arith)
less_there (r ∷ room) to_come zero within = refl
less_there (r ∷ room) to_come (suc place) within = ap (λ (rest : List ℕ). r ∷ rest) (less_there room to_come place (omega arith))

pub room_there : {A : Type 0} (lists : List A) (room : List ℕ) (to_come place : ℕ) → length room ≡ length lists → place < length lists →
    set room place (get_or room place 0 - 1) ++ to_come ∷ []
    ≡ set (room ++ to_come ∷ []) place (get_or (room ++ to_come ∷ []) place 0 - 1) ++ (if nat_lt place (length lists) then [] else 0 ∷ [])
room_there lists room to_come place long within =
    rw (lt-ltb place (length lists) within)
    (less_there room to_come place (omega (arith, long, within)) ∙ sym (append-nil (set (room ++ to_come ∷ []) place (get_or (room ++ to_come ∷ []) place 0 - 1))))
