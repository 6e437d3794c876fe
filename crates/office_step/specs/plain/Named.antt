-- When a number that an act names stands against it, in plain facts (docs/REFUSALS.md, 5).
use Rattle.std.specs.Prelude.{ℕ, ◌≡◌, ◌≢◌, ◌↔◌, ◌<◌, ◌⊎◌, Some, length, Contains}
use Rattle.record_history.specs.declared.records.{Kind.Kind, Record.Record}
use Rattle.rent_table.specs.declared.rows.Unit.{Unit as UnitRow}
use Rattle.tenancy_rules.specs.Changed.{NumbersRise}
use Rattle.wait_list.specs.declared.applicant.Applicant.{Applicant}
use Rattle.office_step.specs.{declared.refusal.Named.Named, declared.refusal.Refusal.Refusal, Matter.Matter, Matter.nothing, Matter.own, Against.no_such}

-- households are numbered from 1, and there aren't so many
pub record NamesNoHousehold (about : Matter) (refusal : Refusal) : Type 0 where
  pub household : ℕ
  pub told : refusal ≡ Refusal.NoSuch Named.Household household
  pub names : about.household ≡ Some household
  pub not_there : (household ≡ 0) ⊎ (length about.known.households < household)

-- nobody who waits has that number
pub record NamesNoApplicant (about : Matter) (refusal : Refusal) : Type 0 where
  pub applicant : ℕ
  pub told : refusal ≡ Refusal.NoSuch Named.Applicant applicant
  pub names : about.applicant ≡ Some applicant
  pub not_there : (other : Applicant) → Contains about.known.waiting other → other.number ≢ applicant

-- no unit has that number
pub record NamesNoUnit (about : Matter) (refusal : Refusal) : Type 0 where
  pub unit : ℕ
  pub told : refusal ≡ Refusal.NoSuch Named.Unit unit
  pub names : about.unit ≡ Some unit
  pub not_there : (other : UnitRow) → Contains about.known.units other → other.number ≢ unit

-- it is a move-in, an initial, an annual or an interim certification
abbrev pub RestsOnFacts : Record → Type 0
RestsOnFacts r = (r.kind ≡ Kind.MI) ⊎ ((r.kind ≡ Kind.IC) ⊎ ((r.kind ≡ Kind.AR) ⊎ (r.kind ≡ Kind.IR)))

-- no record of the household has that number, or the act corrects one by facts that rests on none
pub record NamesNoRecord (about : Matter) (refusal : Refusal) : Type 0 where
  pub target : ℕ
  pub told : refusal ≡ Refusal.NoSuch Named.Record target
  pub names : about.target ≡ Some target
  pub not_there : (r : Record) → Contains (own about) r → r.number ≡ target → (about.basis ≢ nothing) × (¬ RestsOnFacts r)

-- 5: the act names what isn't there; the first such is told
pub data NamesNothing (about : Matter) (refusal : Refusal) : Type 0 where
  household : NamesNoHousehold about refusal → NamesNothing about refusal
  applicant : NamesNoApplicant about refusal → ((other : Refusal) → ¬ NamesNoHousehold about other) → NamesNothing about refusal
  unit : NamesNoUnit about refusal → ((other : Refusal) → ¬ NamesNoHousehold about other) → ((other : Refusal) → ¬ NamesNoApplicant about other) →
      NamesNothing about refusal
  target : NamesNoRecord about refusal → ((other : Refusal) → ¬ NamesNoHousehold about other) → ((other : Refusal) → ¬ NamesNoApplicant about other) →
      ((other : Refusal) → ¬ NamesNoUnit about other) → NamesNothing about refusal

abbrev pub NoSuchIsPlain : Type 0
NoSuchIsPlain = (about : Matter) (refusal : Refusal) → NumbersRise (own about) → (no_such about ≡ Some refusal) ↔ NamesNothing about refusal
