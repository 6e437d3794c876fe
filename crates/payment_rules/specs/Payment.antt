-- What a family pays for its unit and what the office claims for it, in whole dollars a month. Half a dollar is rounded up
-- (own rule).
use Rattle.std.specs.Prelude.{ℕ, ◌+◌, ◌-◌, ◌*◌, max, min, Bool, true, false}
use Rattle.days_core.specs.{declared.rents.Rents.Rents, Rounding.round_half_up}
use Rattle.payment_rules.specs.declared.figures.Payment.{Payment}

-- 30 percent of the monthly adjusted income (24 CFR 5.628(a)(1)), of an income for the year: 12 months over 0.30 are 40
abbrev pub share_of_adjusted : ℕ → ℕ
share_of_adjusted adjusted = round_half_up adjusted 40

-- 10 percent of the monthly income (24 CFR 5.628(a)(2)), of an income for the year: 12 months over 0.10 are 120
abbrev pub share_of_annual : ℕ → ℕ
share_of_annual annual = round_half_up annual 120

-- the minimum rent, from which a family in hardship is exempt (24 CFR 5.630; that the exemption is one flag is
-- an own rule)
abbrev pub minimum_rent_of : Bool → ℕ
minimum_rent_of true = 0
minimum_rent_of false = 25

-- the greatest of four (24 CFR 5.628): two shares of income, the welfare rent and the minimum rent
abbrev pub total_tenant_payment_of : ℕ → ℕ → ℕ → Bool → ℕ
total_tenant_payment_of annual adjusted welfare exempt =
    max (max (share_of_adjusted adjusted) (share_of_annual annual)) (max welfare (minimum_rent_of exempt))

-- the gross rent: the contract rent and the allowance for utilities (24 CFR 5.628 to 5.634)
abbrev pub gross_rent_of : Rents → ℕ
gross_rent_of rents = rents.contract_rent + rents.utility

-- what the payment leaves of the gross rent, and nothing if it is above that rent (own rule)
abbrev pub full_assistance_of : ℕ → Rents → ℕ
full_assistance_of ttp rents = gross_rent_of rents - min ttp (gross_rent_of rents)

-- what the office claims: all of that for a family of whom all are eligible (24 CFR part 880, in outline), and else the part
-- of its eligible members (24 CFR 5.520)
abbrev pub assistance_of : ℕ → Rents → ℕ → ℕ → ℕ
assistance_of ttp rents eligible size = round_half_up (full_assistance_of ttp rents * eligible) size

-- what the family bears of the gross rent: what the office doesn't claim of it
abbrev pub family_share_of : ℕ → Rents → ℕ
family_share_of assistance rents = gross_rent_of rents - assistance

-- what the family pays the owner (24 CFR 5.634): its share less the allowance for utilities, where that is positive
abbrev pub tenant_rent_of : ℕ → Rents → ℕ
tenant_rent_of assistance rents = family_share_of assistance rents - rents.utility

-- what the family is paid back (24 CFR 5.632): the allowance less its share, where that is positive
abbrev pub reimbursement_of : ℕ → Rents → ℕ
reimbursement_of assistance rents = rents.utility - family_share_of assistance rents

-- how a total tenant payment splits a unit's rents (24 CFR 5.520, 5.628 to 5.634)
abbrev pub split_of : ℕ → Rents → ℕ → ℕ → Payment
split_of ttp rents eligible size = record {
  ttp = ttp;
  tenant_rent = tenant_rent_of (assistance_of ttp rents eligible size) rents;
  reimbursement = reimbursement_of (assistance_of ttp rents eligible size) rents;
  assistance = assistance_of ttp rents eligible size;
}

-- the payment of a family with these incomes for the year, this welfare rent and this exemption, in a unit with these rents,
-- of whom so many are eligible
abbrev pub payment_of : ℕ → ℕ → ℕ → Bool → Rents → ℕ → ℕ → Payment
payment_of annual adjusted welfare exempt rents eligible size =
    split_of (total_tenant_payment_of annual adjusted welfare exempt) rents eligible size
