-- Which records of a household count, and which of some records is the first or the last, in plain facts.
use Rattle.std.specs.Prelude.{◌≢◌, ◌≤◌, ℕ, List, Contains}
use Rattle.days_core.specs.OfficeDays.{last_office_day}
use Rattle.record_history.specs.{declared.records.Kind.Kind, declared.records.Record.Record, Held.AreNumbered}
use Rattle.tenancy_rules.specs.OrderLaw.{Precedes}
use Rattle.office_step.specs.Known.{Known, own_in}

-- the records have the numbers 1, 2 and so on in the order in which they came, and each begins by 2099-12-31
pub record AreInTurn (records : List Record) : Type 0 where
  pub numbered : AreNumbered records
  pub begun : (r : Record) → Contains records r → r.from ≤ last_office_day

-- those of each household are
abbrev pub AllInTurn : Known → Type 0
AllInTurn known = (household : ℕ) → AreInTurn (own_in known household)

-- it is one of the records, withdraws nothing, and none of them corrects or withdraws it
pub record Counts (records : List Record) (r : Record) : Type 0 where
  pub held : Contains records r
  pub withdraws_nothing : r.kind ≢ Kind.WD
  pub uncorrected : (other : Record) → Contains records other → other.corrects ≢ r.number

-- it is one of those, and none of those precedes it
pub record IsFirstOf (IsOne : Record → Type 0) (r : Record) : Type 0 where
  pub one : IsOne r
  pub first : (other : Record) → IsOne other → ¬ Precedes other r

-- it is one of those, and it precedes none of those
pub record IsLastOf (IsOne : Record → Type 0) (r : Record) : Type 0 where
  pub one : IsOne r
  pub last : (other : Record) → IsOne other → ¬ Precedes r other
