-- What a history holds: the records of each household, and the room for more.
use Rattle.std.specs.Prelude.{ℕ, ◌+◌, ◌-◌, ◌==◌, ◌≤◌, ◌<◌, ◌≡◌, All, AllPairs, nat_le, nat_lt, if◌then◌else◌, List, [], ◌∷◌, ◌++◌, length, slice_index_or, slice_set}
use Rattle.days_core.specs.{OfficeDays.last_office_day, RentBounds.most_gross_rent}
use Rattle.record_history.specs.{declared.records.Record.Record, Records.newest_number}

-- the records of household 1, 2 and so on in the order in which they came, and how many more fit for each and, last, for
-- the household to come
pub record Held : Type 0 where
  pub households : List (List Record)
  pub room : List ℕ

-- the records of that household, and none of one that isn't there
abbrev pub records_of : List (List Record) → ℕ → List Record
records_of households household = if household == 0 then [] else slice_index_or households (household - 1) []

-- how many more records fit for that household
abbrev pub room_of : List ℕ → ℕ → ℕ
room_of room household = if household == 0 then 0 else slice_index_or room (household - 1) 0

-- the lists with one at that place, which is there or the next
abbrev pub with_place : {T : Type 0} → List (List T) → ℕ → List (List T)
with_place lists place = if nat_lt place (length lists) then lists else lists ++ [] ∷ []

-- the households with a record more
abbrev pub with_record : List (List Record) → Record → List (List Record)
with_record households held = slice_set households (held.household - 1) (records_of households held.household ++ held ∷ [])

-- the room once a record more of the household is there: one less for it, and where it is new, none yet for the household
-- to come after it
abbrev pub room_after : List (List Record) → List ℕ → ℕ → List ℕ
room_after households room household =
    slice_set room (household - 1) (room_of room household - 1) ++ (if nat_le household (length households) then [] else 0 ∷ [])

-- The bounds within which each record lies (own rule): it begins by the last day that an office knows, and its amounts are
-- those that a contract allows.
pub record IsWithin (r : Record) : Type 0 where
  pub act : r.act ≤ 4294967295
  pub from : r.from ≤ last_office_day
  pub contract_rent : r.rents.contract_rent ≤ 99999
  pub utility : r.rents.utility ≤ 9999
  pub assistance : r.assistance ≤ most_gross_rent

-- the records have the numbers 1, 2 and so on in the order in which they came
pub record AreNumbered (records : List Record) : Type 0 where
  pub number : (place : ℕ) (d : Record) → place < length records → (slice_index_or records place d).number ≡ place + 1
  pub newest : newest_number records ≡ length records

-- each record is of a later act than those before it
abbrev pub ActsRise : List Record → Type 0
ActsRise records = AllPairs (λ r next. r.act < next.act) records

-- each record corrects or withdraws one that came before it, or none (number 0)
abbrev pub NameEarlier : List Record → Type 0
NameEarlier records = All (λ r. r.corrects < r.number) records

-- what is true of the records of each household
pub record AreKept (records : List Record) : Type 0 where
  pub within : All IsWithin records
  pub numbered : AreNumbered records
  pub acts : ActsRise records
  pub earlier : NameEarlier records
