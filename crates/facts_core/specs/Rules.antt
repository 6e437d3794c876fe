-- The eight rules that the facts of a household keep on a day.
use Rattle.std.specs.Prelude.{ℕ, ◌&&◌, ◌==◌, nat_le, nat_lt, Bool, true, false, not, if◌then◌else◌, length, count_by, Option, Some, None}
use Rattle.std.specs.List.{list_all}
use Rattle.facts_core.specs.declared.{members.Relation.Relation, members.Member.Member, facts.Facts.Facts}

-- an amount of the facts, in whole dollars
abbrev pub is_amount : ℕ → Bool
is_amount amount = nat_le amount 9999999

abbrev pub is_head : Relation → Bool
is_head Relation.Head = true
is_head _ = false

abbrev pub is_partner : Relation → Bool
is_partner Relation.Spouse = true
is_partner Relation.Cohead = true
is_partner _ = false

-- a live-in aide is no member of the family (24 CFR 5.403)
abbrev pub is_aide : Relation → Bool
is_aide Relation.Aide = true
is_aide _ = false

-- 1. There is exactly one head.
abbrev pub has_one_head : Facts → Bool
has_one_head facts = count_by (λ member. is_head member.relation) facts.members == 1

-- 2. Spouses and co-heads together are at most one.
abbrev pub has_at_most_one_partner : Facts → Bool
has_at_most_one_partner facts = nat_le (count_by (λ member. is_partner member.relation) facts.members) 1

-- 3. Each income names a member.
abbrev pub names_members : Facts → Bool
names_members facts = list_all (λ income. nat_lt income.member (length facts.members)) facts.incomes

-- 4. No amount is above 9,999,999.
abbrev pub has_amounts : Facts → Bool
has_amounts facts =
    list_all (λ income. is_amount income.annual) facts.incomes
    && (list_all (λ asset. is_amount asset.value && is_amount asset.income) facts.assets
    && (list_all (λ disposal. is_amount disposal.value && is_amount disposal.received) facts.disposals
    && (is_amount facts.care_work && (is_amount facts.care_school && (is_amount facts.disability
    && (is_amount facts.medical && is_amount facts.welfare))))))

-- 5. No disposal received more than its value.
abbrev pub has_fair_disposals : Facts → Bool
has_fair_disposals facts = list_all (λ disposal. nat_le disposal.received disposal.value) facts.disposals

-- 6. There are at most 12 members of the family, 16 members, 40 incomes, 40 assets and 40 disposals.
abbrev pub is_in_size : Facts → Bool
is_in_size facts =
    nat_le (count_by (λ member. not (is_aide member.relation)) facts.members) 12
    && (nat_le (length facts.members) 16
    && (nat_le (length facts.incomes) 40 && (nat_le (length facts.assets) 40 && nat_le (length facts.disposals) 40)))

-- 7. No birth is after the day.
abbrev pub has_births_by : Facts → ℕ → Bool
has_births_by facts day = list_all (λ member. nat_le member.born day) facts.members

-- a member of the family who is eligible for assistance (24 CFR 5.520); a live-in aide's flag has no meaning
abbrev pub is_eligible : Member → Bool
is_eligible member = not (is_aide member.relation) && member.eligible

-- how many they are
abbrev pub eligible_members : Facts → ℕ
eligible_members facts = count_by is_eligible facts.members

-- 8. Some member of the family is eligible (own rule).
abbrev pub has_an_eligible_member : Facts → Bool
has_an_eligible_member facts = nat_lt 0 (eligible_members facts)

-- the least rule that is broken
abbrev pub broken_rule : Facts → ℕ → Option ℕ
broken_rule facts day =
    if not (has_one_head facts) then Some 1
    else (if not (has_at_most_one_partner facts) then Some 2
    else (if not (names_members facts) then Some 3
    else (if not (has_amounts facts) then Some 4
    else (if not (has_fair_disposals facts) then Some 5
    else (if not (is_in_size facts) then Some 6
    else (if not (has_births_by facts day) then Some 7
    else (if not (has_an_eligible_member facts) then Some 8
    else None)))))))
