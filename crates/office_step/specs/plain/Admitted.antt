-- When incomes and rents stand against an admission or a resumed certification, in plain facts (docs/REFUSALS.md, 19 and 20).
use Rattle.std.specs.Prelude.{ℕ, ◌≡◌, ◌↔◌, ◌+◌, ◌-◌, ◌<◌, true, false, Some, slice_index_or}
use Rattle.record_history.specs.declared.records.Record.{Record}
use Rattle.rent_table.specs.{declared.plan.Plan.Plan, declared.rows.LimitRow.LimitRow, Table.LimitActsRise, Standing.SetsLimitsOn}
use Rattle.office_step.specs.{declared.refusal.Refusal.Refusal, Matter.Matter, Made.record_in, Against.ineligible, Against.no_assistance}

-- 19: by the facts the annual income is above the limit of the record's first day for the family's size, which is the low
-- one where the contract is an early one, else the very low one
pub record IsAboveLimit (about : Matter) (refusal : Refusal) : Type 0 where
  pub applicant : ℕ
  pub made : Record
  pub plan : Plan
  pub row : LimitRow
  pub limit : ℕ
  pub told : refusal ≡ Refusal.Ineligible limit made.annual
  pub admits : about.applicant ≡ Some applicant
  pub makes : record_in about ≡ Some made
  pub planned : about.known.plan ≡ Some plan
  pub stands : SetsLimitsOn about.known.limits made.from row
  pub low : plan.early ≡ true → limit ≡ slice_index_or row.low (made.size - 1) 0
  pub very_low : plan.early ≡ false → limit ≡ slice_index_or row.very_low (made.size - 1) 0
  pub above : limit < made.annual

abbrev pub IneligibleIsPlain : Type 0
IneligibleIsPlain = (about : Matter) (refusal : Refusal) → LimitActsRise about.known.limits → (ineligible about ≡ Some refusal) ↔ IsAboveLimit about refusal

-- 20: assistance begins by the act, and there is none to pay
pub record GetsNothing (about : Matter) (refusal : Refusal) : Type 0 where
  pub made : Record
  pub told : refusal ≡ Refusal.NoAssistance made.ttp (made.rents.contract_rent + made.rents.utility)
  pub begins : about.begins ≡ true
  pub makes : record_in about ≡ Some made
  pub unpaid : made.assistance ≡ 0

abbrev pub NoAssistanceIsPlain : Type 0
NoAssistanceIsPlain = (about : Matter) (refusal : Refusal) → (no_assistance about ≡ Some refusal) ↔ GetsNothing about refusal
