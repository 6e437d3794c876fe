-- How a closing goes over households and days: past those that add nothing.
use Rattle.std.specs.Prelude.{ℕ, ◌<◌, ◌≤◌, ◌≡◌, ◌==◌, ◌&&◌, ◌||◌, nat_lt, min, Bool, true, All, List, [], filter, find, Option, Some, None, IfSome}
use Rattle.std.specs.{List.range_with_len, List.list_any, Option.option_map_or}
use Rattle.days_core.specs.Calendar.{last_of}
use Rattle.record_history.specs.{declared.records.Record.Record, Records.as_of, Records.newest_act}
use Rattle.voucher_core.specs.declared.touched.Touched.{Touched}

-- the records by which a household was paid as of an act, and none where no act paid it
abbrev pub known_before : Option ℕ → List Record → List Record
known_before None records = []
known_before (Some act) records = as_of act records

-- the households of which an act after that one made a record
abbrev pub changed_since : ℕ → (ℕ → List Record) → ℕ → List ℕ
changed_since last_close own count = filter (λ h. nat_lt last_close (newest_act (own h))) (range_with_len 1 count)

-- an act after that one made a record that corrects the one of that number
abbrev pub is_newly_corrected : ℕ → List Record → ℕ → Bool
is_newly_corrected last_close records number = list_any (λ other. nat_lt last_close other.act && other.corrects == number) records

-- an act after that one made the record, or one that corrects it
abbrev pub is_touched : ℕ → List Record → Record → Bool
is_touched last_close records r = nat_lt last_close r.act || is_newly_corrected last_close records r.number

-- the records that acts after that one made
abbrev pub made_after : ℕ → List Record → List Record
made_after last_close records = filter (λ r. nat_lt last_close r.act) records

-- the day on which the record begins, or on which the one that it corrects or withdraws does, if that is earlier
abbrev pub earlier_start : List Record → Record → ℕ
earlier_start records r = min r.from (option_map_or (λ c. c.from) (find (λ c. c.number == r.corrects) records) r.from)

-- none of the records that are touched begins before the day
pub record TouchesFrom (last_close : ℕ) (records : List Record) (day : ℕ) : Type 0 where
  pub from : All (λ r. is_touched last_close records r ≡ true → day ≤ r.from) records

abbrev pub touched_household : Touched → ℕ
touched_household t = t.household

-- none of the household's records that are touched begins before its first day
abbrev pub BeginsUntouched : ℕ → (ℕ → List Record) → Touched → Type 0
BeginsUntouched last_close own t = TouchesFrom last_close (own t.household) t.first

-- nor does anything change for it in the month, or before
pub record IsTouchedAfter (month : ℕ) (t : Touched) : Type 0 where
  pub after : last_of month < t.first

-- the record doesn't begin after the day and before the next
pub record BeginsNotWithin (day next : ℕ) (r : Record) : Type 0 where
  pub outside : day < r.from → next ≤ r.from

-- nor does the one that the record corrects or withdraws, if it is among these
pub record CorrectsNotWithin (records : List Record) (day next : ℕ) (r : Record) : Type 0 where
  pub corrected : IfSome (find (λ c. c.number == r.corrects) records) (BeginsNotWithin day next)
