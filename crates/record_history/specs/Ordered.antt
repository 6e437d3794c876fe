-- What is kept beside the records of a household, so that those that count are found without a look at all of them.
use Rattle.std.specs.Prelude.{ℕ, ◌+◌, ◌==◌, ◌≤◌, ◌<◌, ◌≡◌, not, true, if◌then◌else◌, All, AllPairs, Contains, List, [], ◌∷◌, ◌++◌, length, filter, find, slice_index_or, Option}
use Rattle.std.specs.Option.{option_map}
use Rattle.record_history.specs.{declared.records.Record.Record, Held.AreKept, Held.IsWithin}
use Rattle.record_history.specs.Records.{is_withdrawal, live_records, comes_before, newest_number, newest_act}

-- each comes before those that follow it
abbrev pub StandInOrder : List Record → Type 0
StandInOrder records = AllPairs (λ r next. comes_before r next ≡ true) records

-- the same records, in their order
pub record AreInOrder (records ordered : List Record) : Type 0 where
  pub all : All (Contains ordered) records
  pub only : All (Contains records) ordered
  pub in_order : StandInOrder ordered

-- those that count once a record more is there: none that it corrects or withdraws, and itself where it withdraws nothing
abbrev pub with_live : List Record → Record → List Record
with_live live held = filter (λ r. not (r.number == held.corrects)) live ++ (if is_withdrawal held.kind then [] else held ∷ [])

-- the act of the first of the records that corrects or withdraws the one of that number
abbrev pub corrected_by : List Record → ℕ → Option ℕ
corrected_by records number = option_map (λ r. r.act) (find (λ other. other.corrects == number) records)

-- for each record the act by which it was first corrected or withdrawn, where it was
pub record AreCorrected (records : List Record) (corrected : List (Option ℕ)) : Type 0 where
  pub long : length corrected ≡ length records
  pub each : (place : ℕ) (d : Option ℕ) → place < length records → slice_index_or corrected place d ≡ corrected_by records (place + 1)

-- what is true of the records of a household, of those that count in order, and of the acts that corrected them
pub record AreIndexed (records live : List Record) (corrected : List (Option ℕ)) : Type 0 where
  pub kept : AreKept records
  pub counting : AreInOrder (live_records records) live
  pub few : length live ≤ length records
  pub marked : AreCorrected records corrected

-- the record may be the next of these
pub record Follows (records : List Record) (held : Record) : Type 0 where
  pub number : held.number ≡ newest_number records + 1
  pub act : newest_act records < held.act
  pub earlier : held.corrects < held.number
  pub within : IsWithin held
