-- The income of the members of a family, in whole dollars a year (24 CFR 5.609).
use Rattle.std.specs.Prelude.{ℕ, ◌+◌, ◌&&◌, ◌==◌, min, if◌then◌else◌, Bool, true, false, List, filter, sum_by, slice_get}
use Rattle.std.specs.Option.{option_map_or}
use Rattle.facts_core.specs.{declared.members.Member.Member, declared.incomes.IncomeKind.IncomeKind, declared.incomes.Income.Income, declared.facts.Facts.Facts, Rules.is_aide}
use Rattle.income_rules.specs.Members.{is_head_or_partner, is_under, numbers_of}

-- wages and the net income of a business are earned (24 CFR 5.609(b)(1), (2))
abbrev pub is_earned : IncomeKind → Bool
is_earned IncomeKind.Wages = true
is_earned IncomeKind.Business = true
is_earned _ = false

-- assistance for an adopted child, whom it names as its member (24 CFR 5.609(c)(12))
abbrev pub is_adoption : IncomeKind → Bool
is_adoption IncomeKind.Adoption = true
is_adoption _ = false

-- what is neither is counted whole (24 CFR 5.609(a), (b))
abbrev pub is_counted_whole : IncomeKind → Bool
is_counted_whole IncomeKind.Benefits = true
is_counted_whole IncomeKind.Welfare = true
is_counted_whole IncomeKind.Other = true
is_counted_whole _ = false

-- what the incomes of such kinds give the member of that number in a year
abbrev pub sum_of : (IncomeKind → Bool) → List Income → ℕ → ℕ
sum_of is_such incomes number =
    sum_by (λ income. income.annual) (filter (λ income. income.member == number && is_such income.kind) incomes)

-- What is counted of a member's earnings: of a live-in aide's nothing (24 CFR 5.609(c)(5)), and of the head's, the
-- spouse's and the co-head's all. Of another member's under 18 nothing (5.609(c)(1)), of a full-time student's up to
-- 480 (5.609(c)(11)), and else all. Own rule: a spouse or co-head under 18 counts as an adult.
abbrev pub counted_of_earnings : Member → ℕ → ℕ → ℕ
counted_of_earnings member day earnings =
    if is_aide member.relation then 0
    else (if is_head_or_partner member.relation then earnings
    else (if is_under 18 member day then 0
    else (if member.student then min 480 earnings
    else earnings)))

-- what is counted of the earned income of the member of that number
abbrev pub counted_earned_of : Facts → ℕ → ℕ → ℕ
counted_earned_of facts number day =
    option_map_or (λ member. counted_of_earnings member day (sum_of is_earned facts.incomes number)) (slice_get facts.members number) 0

-- What is counted of a member's other income: of a live-in aide's nothing (24 CFR 5.609(c)(5)), of the adoption
-- assistance for one child up to 480 (5.609(c)(12)), and else all.
abbrev pub counted_of_others : Member → ℕ → ℕ → ℕ
counted_of_others member whole adoption = if is_aide member.relation then 0 else whole + min 480 adoption

-- what is counted of the unearned income of the member of that number
abbrev pub counted_unearned_of : Facts → ℕ → ℕ
counted_unearned_of facts number =
    option_map_or (λ member. counted_of_others member (sum_of is_counted_whole facts.incomes number) (sum_of is_adoption facts.incomes number)) (slice_get facts.members number) 0

-- the earned income of the family
abbrev pub earned_of : Facts → ℕ → ℕ
earned_of facts day = sum_by (λ number. counted_earned_of facts number day) (numbers_of facts)

-- the unearned income of the family
abbrev pub unearned_of : Facts → ℕ
unearned_of facts = sum_by (counted_unearned_of facts) (numbers_of facts)
