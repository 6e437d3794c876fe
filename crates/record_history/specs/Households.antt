-- What a history keeps of each household.
use Rattle.std.specs.Prelude.{ℕ, ◌-◌, ◌≤◌, ◌≡◌, min, All, nat_lt, if◌then◌else◌, List, [], ◌∷◌, ◌++◌, length, map, vec_len, vec_capacity}
use Rattle.std.specs.Global.{Vec}
use Rattle.record_history.specs.{declared.records.Record.Record, declared.household.Household.Household, Ordered.AreIndexed}

-- the records of each
abbrev pub lists_in : List Household → List (List Record)
lists_in households = map (λ own. own.records.items) households

-- how many more records fit for one: no list of it holds more than there are records
abbrev pub room_for : Household → ℕ
room_for own = min (vec_capacity own.records) (min (vec_capacity own.live) (vec_capacity own.corrected)) - vec_len own.records

-- and for each
abbrev pub room_in : List Household → List ℕ
room_in households = map room_for households

-- how many fit for a household to come, for which there is a place or not
abbrev pub room_to_come : Vec Household → Household → ℕ
room_to_come households next = if nat_lt (vec_len households) (vec_capacity households) then room_for next else 0

-- how many more fit for each, and last for the one to come
abbrev pub all_room : Vec Household → Household → List ℕ
all_room households next = room_in households.items ++ room_to_come households next ∷ []

-- what is true of what is kept of a household
abbrev pub IsIndexed : Household → Type 0
IsIndexed own = AreIndexed own.records.items own.live.items own.corrected.items

-- what is true of all households, and of the one to come, which has no record
pub record AreSound (households : List Household) (next : Household) : Type 0 where
  pub few : length households ≤ 4294967295
  pub indexed : All IsIndexed households
  pub to_come : IsIndexed next
  pub empty : next.records.items ≡ []
