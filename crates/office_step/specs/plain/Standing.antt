-- When rents, limits or a record that should stand on a day don't, in plain facts (docs/REFUSALS.md, 10 to 12).
use Rattle.std.specs.Prelude.{ℕ, ◌≡◌, ◌≢◌, ◌↔◌, ◌≤◌, ◌⊎◌, Some, Contains}
use Rattle.record_history.specs.declared.records.{Kind.Kind, Record.Record}
use Rattle.rent_table.specs.{declared.rows.Unit.Unit as UnitRow, declared.rows.RentRow.RentRow, declared.rows.LimitRow.LimitRow, Standing.SetsRentsBy, Standing.SetsLimitsBy}
use Rattle.office_step.specs.{declared.heading.Heading.Heading, declared.refusal.Refusal.Refusal, Known.UnitsAreNumbered, Matter.Matter, Matter.nothing, Matter.own, Made.heading_in, Against.no_rent, Against.no_limits, Against.not_live}

-- 10: the record certifies something, and its unit's group has no rents on its first day
pub record HasNoRents (about : Matter) (refusal : Refusal) : Type 0 where
  pub heading : Heading
  pub unit : UnitRow
  pub told : refusal ≡ Refusal.NoRent unit.group heading.from
  pub makes : heading_in about ≡ Some heading
  pub certifies : about.basis ≢ nothing
  pub held : Contains about.known.units unit
  pub numbered : unit.number ≡ heading.unit
  pub none : (row : RentRow) → ¬ SetsRentsBy about.known.rents unit.group heading.from row

abbrev pub NoRentIsPlain : Type 0
NoRentIsPlain = (about : Matter) (refusal : Refusal) → UnitsAreNumbered about.known.units → (no_rent about ≡ Some refusal) ↔ HasNoRents about refusal

-- 11: the record is a move-in, and no limits stand on its first day
pub record HasNoLimits (about : Matter) (refusal : Refusal) : Type 0 where
  pub heading : Heading
  pub told : refusal ≡ Refusal.NoLimits heading.from
  pub makes : heading_in about ≡ Some heading
  pub move_in : heading.kind ≡ Kind.MI
  pub none : (row : LimitRow) → ¬ SetsLimitsBy about.known.limits heading.from row

abbrev pub NoLimitsIsPlain : Type 0
NoLimitsIsPlain = (about : Matter) (refusal : Refusal) → (no_limits about ≡ Some refusal) ↔ HasNoLimits about refusal

-- a record of the household that was made by now
pub record IsThere (about : Matter) (r : Record) : Type 0 where
  pub held : Contains (own about) r
  pub by_now : r.act ≤ about.known.count

-- 12: the record of that number is a withdrawal, or another corrects or withdraws it
pub record DoesNotCount (about : Matter) (refusal : Refusal) : Type 0 where
  pub target : ℕ
  pub told : refusal ≡ Refusal.NotLive target
  pub names : about.target ≡ Some target
  pub not_counted : (r : Record) → IsThere about r → r.number ≡ target →
      (r.kind ≡ Kind.WD) ⊎ ((other : Record) × IsThere about other × (other.corrects ≡ target))

abbrev pub NotLiveIsPlain : Type 0
NotLiveIsPlain = (about : Matter) (refusal : Refusal) → (not_live about ≡ Some refusal) ↔ DoesNotCount about refusal
