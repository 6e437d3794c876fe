-- What is counted of a family's income, each kind once over the whole list of incomes (24 CFR 5.609).
use Rattle.std.specs.Prelude.{◌≡◌, ◌≢◌, ◌↔◌, ◌+◌, ◌<◌, ◌≤◌, ◌⊎◌, ℕ, ◌&&◌, ◌==◌, min, Bool, true, false, length, filter, sum_by, slice_get, All}
use Rattle.std.specs.{List.range_with_len, Option.option_map_or}
use Rattle.days_core.specs.Calendar.{age_on}
use Rattle.facts_core.specs.declared.{members.Relation.Relation, members.Member.Member, incomes.IncomeKind.IncomeKind, incomes.Income.Income, facts.Facts.Facts}
use Rattle.income_rules.specs.Income.{earned_of, unearned_of}

-- each income names a member
abbrev pub NameMembers : Facts → Type 0
NameMembers facts = All (λ income. income.member < length facts.members) facts.incomes

-- the test passes exactly where the fact holds
abbrev pub Tells : {X : Type 0} → (X → Bool) → (X → Type 0) → Type 0
Tells {X} test Fact = (x : X) → (test x ≡ true) ↔ Fact x

-- ---- kinds of income

-- wages and the net income of a business (24 CFR 5.609(b)(1), (2))
abbrev pub IsEarning : IncomeKind → Type 0
IsEarning kind = (kind ≡ IncomeKind.Wages) ⊎ (kind ≡ IncomeKind.Business)

-- what is neither earned nor for an adopted child
abbrev pub IsOtherKind : IncomeKind → Type 0
IsOtherKind kind = (kind ≡ IncomeKind.Benefits) ⊎ ((kind ≡ IncomeKind.Welfare) ⊎ (kind ≡ IncomeKind.Other))

-- ---- whose income it is

-- Whose earnings are counted whole: the head's, the spouse's and the co-head's, and those of another member of 18 or more
-- who is no full-time student. (The earnings of a minor and of a live-in aide aren't: 24 CFR 5.609(c)(1), (5).)
abbrev pub EarnsWhole : ℕ → Member → Type 0
EarnsWhole day member =
    (member.relation ≡ Relation.Head) ⊎ ((member.relation ≡ Relation.Spouse) ⊎ ((member.relation ≡ Relation.Cohead)
    ⊎ ((member.relation ≡ Relation.Other) × (18 ≤ age_on member.born day) × (member.student ≡ false))))

-- whose earnings are counted up to 480: another member of 18 or more who is a full-time student (24 CFR 5.609(c)(11))
abbrev pub IsAdultStudent : ℕ → Member → Type 0
IsAdultStudent day member = (member.relation ≡ Relation.Other) × (18 ≤ age_on member.born day) × (member.student ≡ true)

-- a live-in aide is no member of the family (24 CFR 5.403)
abbrev pub IsOfFamily : Member → Type 0
IsOfFamily member = member.relation ≢ Relation.Aide

-- the member of that number passes the test
abbrev pub passes : Facts → (Member → Bool) → ℕ → Bool
passes facts test number = option_map_or test (slice_get facts.members number) false

-- ---- sums

-- what the incomes of the list that pass come to in a year
abbrev pub total_of : Facts → (Income → Bool) → ℕ
total_of facts counts = sum_by (λ income. income.annual) (filter counts facts.incomes)

-- the same of each member who passes, up to 480
abbrev pub capped_total_of : Facts → (Member → Bool) → (IncomeKind → Bool) → ℕ
capped_total_of facts test is_such =
    sum_by (λ number. min 480 (total_of facts (λ income. income.member == number && is_such income.kind)))
    (filter (passes facts test) (range_with_len 0 (length facts.members)))

-- Earned income: the earnings of all those whose earnings are counted whole, and up to 480 of each adult student's.
abbrev pub EarnedIsOfWholeList : Type 0
EarnedIsOfWholeList = (facts : Facts) (day : ℕ) (is_earning : IncomeKind → Bool) (earns_whole is_student : Member → Bool) → NameMembers facts →
    Tells is_earning IsEarning → Tells earns_whole (EarnsWhole day) → Tells is_student (IsAdultStudent day) →
    earned_of facts day ≡ total_of facts (λ income. is_earning income.kind && passes facts earns_whole income.member)
    + capped_total_of facts is_student is_earning

-- Unearned income: all of the family's but the adoption assistance, and of this up to 480 for each child
-- (24 CFR 5.609(c)(12)).
abbrev pub UnearnedIsOfWholeList : Type 0
UnearnedIsOfWholeList = (facts : Facts) (is_other is_adoption : IncomeKind → Bool) (is_of_family : Member → Bool) → NameMembers facts →
    Tells is_other IsOtherKind → Tells is_adoption (λ kind. kind ≡ IncomeKind.Adoption) → Tells is_of_family IsOfFamily →
    unearned_of facts ≡ total_of facts (λ income. is_other income.kind && passes facts is_of_family income.member)
    + capped_total_of facts is_of_family is_adoption

-- there are such tests
pub record TestsAreThere (day : ℕ) : Type 0 where
  pub earning : (test : IncomeKind → Bool) × Tells test IsEarning
  pub other : (test : IncomeKind → Bool) × Tells test IsOtherKind
  pub adoption : (test : IncomeKind → Bool) × Tells test (λ kind. kind ≡ IncomeKind.Adoption)
  pub whole : (test : Member → Bool) × Tells test (EarnsWhole day)
  pub student : (test : Member → Bool) × Tells test (IsAdultStudent day)
  pub family : (test : Member → Bool) × Tells test IsOfFamily

abbrev pub TestsExist : Type 0
TestsExist = (day : ℕ) → TestsAreThere day
