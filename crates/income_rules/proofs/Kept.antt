-- What it says of facts that they break no rule.
use Rattle.income_rules.proofs.Words.{◌≡◌, ℕ, zero, suc, ◌≤◌, true, List, [], ◌∷◌, length, Some, None, ◌&&◌, nat_le, slice_get, list_all, and_parts, Member, Facts, is_amount, has_one_head, has_at_most_one_partner, names_members, has_amounts, has_fair_disposals, is_in_size, has_births_by, has_an_eligible_member, broken_rule, arith, common_steps, nat_tests, unless_none}

-- the rules that the sums rest on
pub record Keeps (facts : Facts) (day : ℕ) : Type 0 where
  pub head : has_one_head facts ≡ true
  pub amounts : has_amounts facts ≡ true
  pub size : is_in_size facts ≡ true
  pub births : has_births_by facts day ≡ true
  pub eligible : has_an_eligible_member facts ≡ true

pub keeps : (facts : Facts) (day : ℕ) → broken_rule facts day ≡ None → Keeps facts day
keeps facts day e =
    let head = unless_none (has_one_head facts) _ _ e in
    let partner = unless_none (has_at_most_one_partner facts) _ _ head.1 in
    let names = unless_none (names_members facts) _ _ partner.1 in
    let amounts = unless_none (has_amounts facts) _ _ names.1 in
    let fair = unless_none (has_fair_disposals facts) _ _ amounts.1 in
    let size = unless_none (is_in_size facts) _ _ fair.1 in
    let births = unless_none (has_births_by facts day) _ _ size.1 in
    let eligible = unless_none (has_an_eligible_member facts) _ _ births.1 in
    record { head = head.0; amounts = amounts.0; size = size.0; births = births.0; eligible = eligible.0 }

-- the lists are no longer than the rules allow
pub record IsShort (facts : Facts) : Type 0 where
  pub members : length facts.members ≤ 16
  pub incomes : length facts.incomes ≤ 40
  pub assets : length facts.assets ≤ 40
  pub disposals : length facts.disposals ≤ 40

pub is_short : (facts : Facts) → is_in_size facts ≡ true → IsShort facts
is_short facts e = grind (arith, common_steps)

-- the amounts are what the rules allow
pub record HasAmounts (facts : Facts) : Type 0 where
  pub incomes : list_all (λ income. is_amount income.annual) facts.incomes ≡ true
  pub assets : list_all (λ asset. is_amount asset.value && is_amount asset.income) facts.assets ≡ true
  pub disposals : list_all (λ disposal. is_amount disposal.value && is_amount disposal.received) facts.disposals ≡ true
  pub care_work : facts.care_work ≤ 9999999
  pub care_school : facts.care_school ≤ 9999999
  pub disability : facts.disability ≤ 9999999
  pub medical : facts.medical ≤ 9999999

pub amounts_hold : (facts : Facts) → has_amounts facts ≡ true → HasAmounts facts
amounts_hold facts e = grind (arith, common_steps)

-- a member was born by the day by which all were
pub born_by : (members : List Member) (number day : ℕ) (member : Member) → list_all (λ m. nat_le m.born day) members ≡ true → slice_get members number ≡ Some member → member.born ≤ day
born_by [] number day member e there = cc
born_by (first ∷ others) zero day member e there = grind (arith, common_steps, nat_tests)
born_by (first ∷ others) (suc number) day member e there = born_by others number day member (and_parts (nat_le first.born day) _ e).1 there
