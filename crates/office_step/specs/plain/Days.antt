-- When a day that an act tells stands against it, in plain facts (docs/REFUSALS.md, 9; docs/ACTS.md has the ranges).
use Rattle.std.specs.Prelude.{ℕ, ◌≡◌, ◌↔◌, ◌+◌, ◌≤◌, ◌<◌, ◌⊎◌, Some}
use Rattle.days_core.specs.OfficeDays.{first_office_day, last_office_day}
use Rattle.record_history.specs.declared.records.Dates.{Dates}
use Rattle.office_step.specs.{declared.refusal.Refusal.Refusal, Matter.Matter, Against.day_range}
use Rattle.office_step.specs.plain.Closing.{IsPlanDay}

-- the day lies before the first or after the last
abbrev pub IsOutside : ℕ → ℕ → ℕ → Type 0
IsOutside first last day = (day < first) ⊎ (last < day)

abbrev pub IsInside : ℕ → ℕ → ℕ → Type 0
IsInside first last day = (first ≤ day) × (day ≤ last)

-- rents or limits are set from a day that isn't one of 2000-01-01 to 2099-12-31
pub record SetsOutside (about : Matter) (refusal : Refusal) : Type 0 where
  pub day : ℕ
  pub told : refusal ≡ Refusal.DayRange first_office_day last_office_day
  pub sets : about.sets_from ≡ Some day
  pub outside : IsOutside first_office_day last_office_day day

-- of the days of a change the first that isn't one from 2000-01-01, or from the day before it, to the day of the act
pub data ToldOutside (today : ℕ) (about : Matter) (refusal : Refusal) : Type 0 where
  event : (dates : Dates) → about.told ≡ Some dates → IsOutside first_office_day today dates.event →
      refusal ≡ Refusal.DayRange first_office_day today → ToldOutside today about refusal
  notice : (dates : Dates) → about.told ≡ Some dates → IsInside first_office_day today dates.event → IsOutside dates.event today dates.notice →
      refusal ≡ Refusal.DayRange dates.event today → ToldOutside today about refusal
  done : (dates : Dates) → about.told ≡ Some dates → IsInside first_office_day today dates.event → IsInside dates.event today dates.notice →
      IsOutside dates.notice today dates.done → refusal ≡ Refusal.DayRange dates.notice today → ToldOutside today about refusal

-- the record begins before the plan's first day or after 2099-12-31
pub record BeginsOutside (about : Matter) (refusal : Refusal) : Type 0 where
  pub first : ℕ
  pub day : ℕ
  pub told : refusal ≡ Refusal.DayRange first last_office_day
  pub plan_day : IsPlanDay about.known first
  pub begins : about.from ≡ Some day
  pub outside : IsOutside first last_office_day day

-- the household's last day is before the plan's first day or after 2099-12-30
pub record EndsOutside (about : Matter) (refusal : Refusal) : Type 0 where
  pub first : ℕ
  pub latest : ℕ
  pub day : ℕ
  pub told : refusal ≡ Refusal.DayRange first latest
  pub plan_day : IsPlanDay about.known first
  pub the_last_but_one : latest + 1 ≡ last_office_day
  pub ends : about.last ≡ Some day
  pub outside : IsOutside first latest day

-- 9: the first day among the act's fields that lies outside its range
pub data TellsOutside (today : ℕ) (about : Matter) (refusal : Refusal) : Type 0 where
  sets : SetsOutside about refusal → TellsOutside today about refusal
  tells : ToldOutside today about refusal → ((other : Refusal) → ¬ SetsOutside about other) → TellsOutside today about refusal
  begins : BeginsOutside about refusal → ((other : Refusal) → ¬ SetsOutside about other) → ((other : Refusal) → ¬ ToldOutside today about other) →
      TellsOutside today about refusal
  ends : EndsOutside about refusal → ((other : Refusal) → ¬ SetsOutside about other) → ((other : Refusal) → ¬ ToldOutside today about other) →
      ((other : Refusal) → ¬ BeginsOutside about other) → TellsOutside today about refusal

abbrev pub DayRangeIsPlain : Type 0
DayRangeIsPlain = (today : ℕ) (about : Matter) (refusal : Refusal) → (day_range today about ≡ Some refusal) ↔ TellsOutside today about refusal
