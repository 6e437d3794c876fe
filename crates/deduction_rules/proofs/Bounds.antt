-- What the members and the deductions of facts that break no rule are bounded by.
use Rattle.std.proofs.Common.{◌≡◌, ℕ, ◌+◌, ◌≤◌, min, true, false, Bool, length, None, arith}
use Rattle.std.specs.Prelude.{All, ◌-◌, nat_le, nat_lt, if◌then◌else◌, sum_by, count_by, slice_get}
use Rattle.std.specs.{List.range_with_len, List.list_any, Option.option_map_or}
use Rattle.std.proofs.lemmas.{Bool.leb-true, List.Elements.All-weaker, List.Sums.AllPass-from_list_all, List.Sums.count_by-le-length, List.Sums.sum_by-le-sum_by, Grind.common_steps}
use Rattle.facts_core.specs.{declared.members.Member.Member, declared.facts.Facts.Facts, Rules.broken_rule}
use Rattle.income_rules.specs.Income.{counted_earned_of}
use Rattle.income_rules.proofs.{Kept.keeps, Kept.is_short, Kept.amounts_hold, Sums.sum_by-filter, Sums.cond-le, Fits.family_within}
use Rattle.deduction_rules.specs.Deductions.{is_dependent, dependents_of, is_elderly_family, elderly_deduction_of, child_care_of, disability_deduction_of, medical_deduction_of, three_percent_of, earned_by, is_helped_adult, is_young_child}

-- each member was born by the day
pub all_born : (facts : Facts) (day : ℕ) → broken_rule facts day ≡ None → All (λ member. member.born ≤ day) facts.members
all_born facts day e =
    let passed = AllPass-from_list_all (λ (member : Member). nat_le member.born day) facts.members (keeps facts day e).births in
    All-weaker (λ (member : Member). nat_le member.born day ≡ true) (λ member. member.born ≤ day) (λ member le. leb-true member.born day le) facts.members passed

-- what the member of that number adds to the earnings of such members
abbrev pub share_of : (Member → Bool) → Facts → ℕ → ℕ → ℕ
share_of is_such facts day number = if option_map_or is_such (slice_get facts.members number) false then counted_earned_of facts number day else 0

pub earned_by-shares : (is_such : Member → Bool) (facts : Facts) (day : ℕ) → earned_by is_such facts day ≡ sum_by (share_of is_such facts day) (range_with_len 0 (length facts.members))
earned_by-shares is_such facts day =
    sum_by-filter (λ number. counted_earned_of facts number day) (λ number. option_map_or is_such (slice_get facts.members number) false) (range_with_len 0 (length facts.members))

pub shares-le : (is_such : Member → Bool) (facts : Facts) (day k : ℕ) → broken_rule facts day ≡ None → sum_by (share_of is_such facts day) (range_with_len 0 k) ≤ 399999960
shares-le is_such facts day k e =
    omega (
      arith,
      sum_by-le-sum_by (share_of is_such facts day) (λ number. counted_earned_of facts number day) (range_with_len 0 k) (λ number. cond-le (option_map_or is_such (slice_get facts.members number) false) (counted_earned_of facts number day)),
      family_within facts day k e,
    )

pub dependents-le : (facts : Facts) (day : ℕ) → broken_rule facts day ≡ None → count_by (is_dependent day) facts.members ≤ 16
dependents-le facts day e =
    omega (arith, count_by-le-length (is_dependent day) facts.members, (is_short facts (keeps facts day e).size).members)

pub costs-le : (facts : Facts) (day : ℕ) → broken_rule facts day ≡ None → (facts.care_work ≤ 9999999) × (facts.care_school ≤ 9999999) × (facts.disability ≤ 9999999) × (facts.medical ≤ 9999999)
costs-le facts day e =
    let amounts = amounts_hold facts (keeps facts day e).amounts in
    (amounts.care_work, amounts.care_school, amounts.disability, amounts.medical)

child_care-le : (has_child : Bool) (work earned school : ℕ) → (if has_child then min work earned + school else 0) ≤ work + school
child_care-le has_child work earned school = grind (arith, common_steps)

disability-le : (above : Bool) (disability threshold cap : ℕ) → (if above then min (disability - threshold) cap else 0) ≤ disability
disability-le above disability threshold cap = grind (arith, common_steps)

medical-le : (elderly above : Bool) (disability medical threshold : ℕ) → (if elderly then (if above then medical else disability + medical - threshold) else 0) ≤ disability + medical
medical-le elderly above disability medical threshold = grind (arith, common_steps)

pub deductions-le : (facts : Facts) (annual day : ℕ) → broken_rule facts day ≡ None → dependents_of facts day + elderly_deduction_of facts day + child_care_of facts day + disability_deduction_of facts annual day + medical_deduction_of facts annual day ≤ 100000000
deductions-le facts annual day e =
    let costs = costs-le facts day e in
    omega (
      arith,
      dependents-le facts day e,
      cond-le (is_elderly_family facts day) 400,
      child_care-le (list_any (is_young_child day) facts.members) facts.care_work (earned_by (λ member. member.cared) facts day) facts.care_school,
      disability-le (nat_lt (three_percent_of annual) facts.disability) facts.disability (three_percent_of annual) (earned_by (is_helped_adult day) facts day),
      medical-le (is_elderly_family facts day) (nat_lt (three_percent_of annual) facts.disability) facts.disability facts.medical (three_percent_of annual),
      costs.0,
      costs.1,
      costs.2,
      costs.3,
    )
