-- What is deducted from the annual income of a family, in whole dollars a year (24 CFR 5.611).
use Rattle.std.specs.Prelude.{ℕ, ◌+◌, ◌-◌, ◌*◌, ◌&&◌, ◌||◌, not, nat_le, nat_lt, min, if◌then◌else◌, Bool, true, false, filter, sum_by, count_by, slice_get}
use Rattle.std.specs.{List.list_any, Option.option_map_or}
use Rattle.days_core.specs.{Calendar.age_on, Rounding.round_half_up}
use Rattle.facts_core.specs.{declared.members.Relation.Relation, declared.members.Member.Member, declared.facts.Facts.Facts, Rules.is_aide}
use Rattle.income_rules.specs.{Members.is_head_or_partner, Members.is_under, Members.numbers_of, Income.counted_earned_of}
use Rattle.deduction_rules.specs.declared.figures.Allowances.{Allowances}

-- ---- dependents, the elderly and the disabled

-- a member of the family other than the head, the spouse (24 CFR 5.603(b)) and the co-head (Handbook 4350.3 REV-1, chapter 5)
abbrev pub is_other : Relation → Bool
is_other Relation.Other = true
is_other _ = false

-- another member who is under 18, disabled or a full-time student (24 CFR 5.603(b))
abbrev pub is_dependent : ℕ → Member → Bool
is_dependent day member = is_other member.relation && (is_under 18 member day || (member.disabled || member.student))

-- 480 for each dependent (24 CFR 5.611(a)(1))
abbrev pub dependents_of : Facts → ℕ → ℕ
dependents_of facts day = 480 * count_by (is_dependent day) facts.members

-- a head, spouse (24 CFR 5.403) or co-head (Handbook, chapter 5) who is at least 62, or disabled
abbrev pub is_elderly_or_disabled : ℕ → Member → Bool
is_elderly_or_disabled day member = is_head_or_partner member.relation && (nat_le 62 (age_on member.born day) || member.disabled)

-- an elderly or a disabled family (24 CFR 5.403)
abbrev pub is_elderly_family : Facts → ℕ → Bool
is_elderly_family facts day = list_any (is_elderly_or_disabled day) facts.members

-- 400 once for such a family (24 CFR 5.611(a)(2))
abbrev pub elderly_deduction_of : Facts → ℕ → ℕ
elderly_deduction_of facts day = if is_elderly_family facts day then 400 else 0

-- ---- care of children

-- what is counted of the earned income of such members; of a live-in aide's nothing is (24 CFR 5.609(c)(5))
abbrev pub earned_by : (Member → Bool) → Facts → ℕ → ℕ
earned_by is_such facts day =
    sum_by (λ number. counted_earned_of facts number day) (filter (λ number. option_map_or is_such (slice_get facts.members number) false) (numbers_of facts))

-- a member of the family under 13 (24 CFR 5.603(b))
abbrev pub is_young_child : ℕ → Member → Bool
is_young_child day member = not (is_aide member.relation) && is_under 13 member day

-- Where there is a child under 13, the care that makes work possible, up to what is earned so, and the care that
-- makes schooling possible (24 CFR 5.611(a)(4), 5.603(b)). Own rule: the earnings of all such members count together.
abbrev pub child_care_of : Facts → ℕ → ℕ
child_care_of facts day =
    if list_any (is_young_child day) facts.members
    then min facts.care_work (earned_by (λ member. member.cared) facts day) + facts.care_school
    else 0

-- ---- disability assistance and medical expenses

-- three percent of the annual income (24 CFR 5.611(a)(3)); half a dollar is rounded up (own rule)
abbrev pub three_percent_of : ℕ → ℕ
three_percent_of annual = round_half_up (3 * annual) 100

-- an adult whose work the disability assistance makes possible (24 CFR 5.611(a)(3)(ii))
abbrev pub is_helped_adult : ℕ → Member → Bool
is_helped_adult day member = member.helped && not (is_under 18 member day)

-- the disability assistance above three percent of income, up to what is earned so (24 CFR 5.611(a)(3)(ii))
abbrev pub disability_deduction_of : Facts → ℕ → ℕ → ℕ
disability_deduction_of facts annual day =
    if nat_lt (three_percent_of annual) facts.disability
    then min (facts.disability - three_percent_of annual) (earned_by (is_helped_adult day) facts day)
    else 0

-- The medical expenses where the disability assistance has passed a threshold, and else what both are above it: the
-- threshold is taken once, and first from the assistance, also where nobody earns by it (own rules).
abbrev pub medical_beyond : ℕ → ℕ → ℕ → ℕ
medical_beyond threshold disability medical = if nat_lt threshold disability then medical else disability + medical - threshold

-- the medical expenses of an elderly or disabled family above three percent of income (24 CFR 5.611(a)(3)(i))
abbrev pub medical_deduction_of : Facts → ℕ → ℕ → ℕ
medical_deduction_of facts annual day =
    if is_elderly_family facts day then medical_beyond (three_percent_of annual) facts.disability facts.medical else 0

-- ---- the whole

-- the annual income less all deductions, where that is positive (24 CFR 5.611)
abbrev pub adjusted_income_of : Facts → ℕ → ℕ → ℕ
adjusted_income_of facts annual day =
    annual - (dependents_of facts day + elderly_deduction_of facts day + child_care_of facts day
    + disability_deduction_of facts annual day + medical_deduction_of facts annual day)

-- each deduction, and what it leaves of the annual income
abbrev pub allowances_of : Facts → ℕ → ℕ → Allowances
allowances_of facts annual day = record {
  dependents = dependents_of facts day;
  elderly = elderly_deduction_of facts day;
  care = child_care_of facts day;
  disability = disability_deduction_of facts annual day;
  medical = medical_deduction_of facts annual day;
  adjusted = adjusted_income_of facts annual day;
}
