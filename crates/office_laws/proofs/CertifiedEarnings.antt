-- Earned income, of all members and of some.
use Rattle.std.proofs.Common.{◌≡◌, ◌∙◌, sym, ap, refl, subst, ℕ, ◌<◌, ◌==◌, min, arith, Bool, true, false, ◌&&◌, cond, Option, Some, None, length, filter, if◌then◌else◌}
use Rattle.std.specs.Prelude.{sum_by, slice_get}
use Rattle.std.specs.Option.{option_map_or}
use Rattle.std.proofs.lemmas.{Bool.eqb-true, Grind.common_steps, List.Elements.All-filter}
use Rattle.list_laws.proofs.Filters.{filter-filter, filter_none}
use Rattle.facts_core.specs.{declared.members.Member.Member, declared.incomes.Income.Income, declared.facts.Facts.Facts, Rules.is_aide}
use Rattle.income_rules.specs.{Members.is_head_or_partner, Members.is_under, Members.numbers_of, WholeList.NameMembers, WholeList.TestsAreThere, WholeList.passes}
use Rattle.income_rules.specs.Income.{is_earned, sum_of, counted_of_earnings, counted_earned_of, earned_of}
use Rattle.income_rules.proofs.{Sums.sum_by-filter, WholeSums.sum_by-agree, WholeListLaw.earned_is_of_whole_list, WholeListLaw.tests_exist}
use Rattle.deduction_rules.specs.Deductions.{earned_by}
use Rattle.office_laws.specs.Incomes.{IsEarnedIncome, only_of}

pub earned_income : (facts : Facts) (day : ℕ) → NameMembers facts → IsEarnedIncome facts day (earned_of facts day)
earned_income facts day named =
    let tests : TestsAreThere day = tests_exist day in record {
      tests = tests;
      is = earned_is_of_whole_list facts day tests.earning.0 tests.whole.0 tests.student.0 named tests.earning.1 tests.whole.1 tests.student.1;
    }

-- ---- of some members

none_counted : (aide partner under student : Bool) → (if aide then 0 else (if partner then 0 else (if under then 0 else (if student then min 480 0 else 0)))) ≡ 0
none_counted aide partner under student = grind (arith, common_steps)

of_earnings : (member : Member) (day earnings : ℕ) (b : Bool) → counted_of_earnings member day (cond b earnings 0) ≡ cond b (counted_of_earnings member day earnings) 0
of_earnings member day earnings true = refl
of_earnings member day earnings false = none_counted (is_aide member.relation) (is_head_or_partner member.relation) (is_under 18 member day) member.student

none_passes : (b : Bool) → (b && false) ≡ false
none_passes true = refl
none_passes false = refl

module _ (such : Member → Bool) (facts : Facts) where
  module _ (number : ℕ) where
    abbrev earns : Income → Bool
    earns income = income.member == number && is_earned income.kind

    its_test : (b : Bool) → passes facts such number ≡ b → (income : Income) → (passes facts such income.member && (income.member == number && is_earned income.kind)) ≡ (b && (income.member == number && is_earned income.kind))
    its_test b has income = by_same (income.member == number) refl
      where
        by_same : (same : Bool) → (income.member == number) ≡ same → (passes facts such income.member && (same && is_earned income.kind)) ≡ (b && (same && is_earned income.kind))
        by_same true is = ap (λ (t : Bool). t && is_earned income.kind) (ap (passes facts such) (eqb-true income.member number is) ∙ has)
        by_same false is = none_passes (passes facts such income.member) ∙ sym (none_passes b)

    left : (b : Bool) → sum_by (λ (income : Income). income.annual) (filter (λ income. b && (income.member == number && is_earned income.kind)) facts.incomes) ≡ cond b (sum_of is_earned facts.incomes number) 0
    left true = refl
    left false = ap (sum_by (λ (income : Income). income.annual)) (filter_none (λ income. false) facts.incomes (λ k d within. refl))

    earnings_of : sum_of is_earned (filter (λ income. passes facts such income.member) facts.incomes) number ≡ cond (passes facts such number) (sum_of is_earned facts.incomes number) 0
    earnings_of =
        ap (sum_by (λ (income : Income). income.annual))
        (filter-filter earns (λ income. passes facts such income.member) facts.incomes
        ∙ ap (λ (p : Income → Bool). filter p facts.incomes) (λ i income. its_test (passes facts such number) refl income i))
        ∙ left (passes facts such number)

    counted_of : (day : ℕ) → counted_earned_of (only_of such facts) number day ≡ cond (passes facts such number) (counted_earned_of facts number day) 0
    counted_of day =
        ap (λ (earnings : ℕ). option_map_or (λ member. counted_of_earnings member day earnings) (slice_get facts.members number) 0) earnings_of
        ∙ by_member (slice_get facts.members number) (passes facts such number)
      where
        by_member : (o : Option Member) (b : Bool) →
            option_map_or (λ member. counted_of_earnings member day (cond b (sum_of is_earned facts.incomes number) 0)) o 0
            ≡ cond b (option_map_or (λ member. counted_of_earnings member day (sum_of is_earned facts.incomes number)) o 0) 0
        by_member None true = refl
        by_member None false = refl
        by_member (Some member) b = of_earnings member day (sum_of is_earned facts.incomes number) b

  earned_of_such : (day : ℕ) → earned_by such facts day ≡ earned_of (only_of such facts) day
  earned_of_such day =
      sum_by-filter (λ number. counted_earned_of facts number day) (passes facts such) (numbers_of facts)
      ∙ sum_by-agree (λ number. cond (passes facts such number) (counted_earned_of facts number day) 0) (λ number. counted_earned_of (only_of such facts) number day)
      (λ number. sym (counted_of number day)) (numbers_of facts)

  pub earned_income_of : (day : ℕ) → NameMembers facts → IsEarnedIncome (only_of such facts) day (earned_by such facts day)
  earned_income_of day named =
      subst (IsEarnedIncome (only_of such facts) day) (sym (earned_of_such day))
      (earned_income (only_of such facts) day
      (All-filter (λ income. passes facts such income.member) (λ income. income.member < length facts.members) facts.incomes named))
