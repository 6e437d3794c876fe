-- What the records of households say, on a day or after a change.
use Rattle.std.specs.Prelude.{ℕ, ◌≤◌, ◌==◌, nat_le, if◌then◌else◌, Bool, true, false, Option, Some, None, List, map, filter, find}
use Rattle.std.specs.{List.range_with_len, Option.option_map_or, Option.option_or}
use Rattle.record_history.specs.{declared.records.Kind.Kind, declared.records.Record.Record, declared.records.Dates.Dates, Records.in_force, Records.latest, Records.is_withdrawal}
use Rattle.tenancy_rules.specs.declared.change.Change.{Change}

-- the records of one household
abbrev pub own_of : List Record → ℕ → List Record
own_of records household = filter (λ r. r.household == household) records

-- the records of so many households, each in a list of its own
abbrev pub households_of : List Record → ℕ → List (List Record)
households_of records count = map (own_of records) (range_with_len 1 count)

-- the record of that number
abbrev pub record_at : List Record → ℕ → Option Record
record_at own number = find (λ r. r.number == number) own

-- the record that one which names no other continues: the one in force on its first day, or record 1 where none is
abbrev pub continued : List Record → ℕ → Option Record
continued own from = option_or (in_force own from) (record_at own 1)

-- the unit of a record that names none
abbrev pub unit_continued : List Record → ℕ → ℕ
unit_continued own from = option_map_or (λ r. r.unit) (continued own from) 0

-- the last of the records that has begun by the day
abbrev pub standing_on : List Record → ℕ → Option Record
standing_on live day = latest (filter (λ r. nat_le r.from day) live)

-- it begins a household's year: a move-in, an initial certification or an annual recertification
abbrev pub begins_year : Kind → Bool
begins_year Kind.MI = true
begins_year Kind.IC = true
begins_year Kind.AR = true
begins_year _ = false

-- a correction may name it: it was computed from facts
abbrev pub rests_on_facts : Kind → Bool
rests_on_facts Kind.MI = true
rests_on_facts Kind.IC = true
rests_on_facts Kind.AR = true
rests_on_facts Kind.IR = true
rests_on_facts _ = false

-- the days of a change that was told come no later than the day
pub record AreBy (day : ℕ) (dates : Dates) : Type 0 where
  pub event : dates.event ≤ day
  pub notice : dates.notice ≤ day
  pub done : dates.done ≤ day

-- ---- changes

-- the change of a record: the one that it names no longer counts, and unless it withdraws that one it counts itself
abbrev pub change_by : Record → Change
change_by made = record { «drop» = made.corrects; add = if is_withdrawal made.kind then None else Some made }
