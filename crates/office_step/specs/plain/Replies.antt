-- What the reply to an act tells of its record, in plain facts (docs/RULES.md, "What a family pays").
use Rattle.std.specs.Prelude.{◌≡◌, ◌<◌, ◌≤◌, ◌+◌, ℕ}
use Rattle.record_history.specs.declared.records.Record.{Record}
use Rattle.office_step.specs.{declared.reply.Made.Made, Reply.certified}

-- assistance is no more than the gross rent (24 CFR 5.628 to 5.634)
abbrev pub IsWithinItsRent : Record → Type 0
IsWithinItsRent r = r.assistance ≤ r.rents.contract_rent + r.rents.utility

-- The reply tells what the record certifies. Tenant rent and assistance come to the contract rent and what the family is
-- paid back, and a family that pays rent isn't paid back (24 CFR 5.632, 5.634).
pub record TellsRecord (r : Record) (made : Made) : Type 0 where
  pub tenant_rent : ℕ
  pub reimbursement : ℕ
  pub is : made ≡ Made.Certified r.assistance r.household r.number reimbursement tenant_rent r.ttp
  pub covered : tenant_rent + r.assistance ≡ r.rents.contract_rent + reimbursement
  pub one_way : 0 < tenant_rent → reimbursement ≡ 0

abbrev pub CertifiedIsPlain : Type 0
CertifiedIsPlain = (r : Record) → IsWithinItsRent r → TellsRecord r (certified r)
