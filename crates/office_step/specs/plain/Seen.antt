-- When what the clerk saw of a household stands against an act, in plain facts (docs/REFUSALS.md, 6 and 7).
use Rattle.std.specs.Prelude.{ℕ, ◌≡◌, ◌↔◌, ◌≤◌, ◌<◌, ◌⊎◌, Some, List, [], Contains}
use Rattle.record_history.specs.declared.records.Record.{Record}
use Rattle.office_step.specs.{declared.refusal.Refusal.Refusal, Matter.Matter, Matter.own, Against.stale, Against.unseen}

-- it is the number of the newest of the records, which is the greatest, and 0 where there is none
pub record IsNewest (records : List Record) (newest : ℕ) : Type 0 where
  pub greatest : (r : Record) → Contains records r → r.number ≤ newest
  pub one_of : ((r : Record) × Contains records r × (r.number ≡ newest)) ⊎ ((records ≡ []) × (newest ≡ 0))

-- 6: the number that the clerk saw is below that of the household's newest record
pub record MissedNewer (about : Matter) (refusal : Refusal) : Type 0 where
  pub seen : ℕ
  pub newest : ℕ
  pub told : refusal ≡ Refusal.Stale newest
  pub saw : about.seen ≡ Some seen
  pub its : IsNewest (own about) newest
  pub below : seen < newest

abbrev pub StaleIsPlain : Type 0
StaleIsPlain = (about : Matter) (refusal : Refusal) → (stale about ≡ Some refusal) ↔ MissedNewer about refusal

-- 7: the number that the clerk saw is above that of the household's newest record
pub record SawNoSuch (about : Matter) (refusal : Refusal) : Type 0 where
  pub seen : ℕ
  pub newest : ℕ
  pub told : refusal ≡ Refusal.Unseen newest
  pub saw : about.seen ≡ Some seen
  pub its : IsNewest (own about) newest
  pub above : newest < seen

abbrev pub UnseenIsPlain : Type 0
UnseenIsPlain = (about : Matter) (refusal : Refusal) → (unseen about ≡ Some refusal) ↔ SawNoSuch about refusal
