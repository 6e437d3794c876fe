-- Earned and unearned income as sums over the whole list.
use Rattle.income_rules.proofs.Words.{◌≡◌, ℕ, ◌+◌, ◌≤◌, min, true, Bool, cond, length, Option, Some, None, refl, arith, nat_tests, ◌&&◌, sum_by, slice_get, option_map_or, if◌then◌else◌, common_steps, Member, IncomeKind, Facts, is_aide, is_earned, is_adoption, is_counted_whole, sum_of, counted_of_earnings, counted_of_others, counted_earned_of, counted_unearned_of, is_head_or_partner, is_under}
use Rattle.std.proofs.Common.{◌||◌, ◌∙◌, sym, ap₂, false, not, ◌⊎◌, inl, inr, ◌↔◌, ◌≢◌}
use Rattle.std.proofs.lemmas.Bool.{false≢true}
use Rattle.facts_core.specs.declared.members.Relation.{Relation}
use Rattle.days_core.specs.Calendar.{age_on}
use Rattle.income_rules.specs.Members.{numbers_of}
use Rattle.income_rules.specs.WholeList.{NameMembers, Tells, IsEarning, IsOtherKind, EarnsWhole, IsAdultStudent, IsOfFamily, passes, total_of, capped_total_of, EarnedIsOfWholeList, UnearnedIsOfWholeList, TestsExist}
use Rattle.income_rules.proofs.{Sums.sum_by-filter, Sums.sum_by-add, WholeSums.sum_by-agree, WholeSums.shares-are}

-- tests of one fact are the same
same_tests : {X : Type 0} (test other : X → Bool) (Fact : X → Type 0) → Tells test Fact → Tells other Fact → test ≡ other
same_tests {X} test other Fact tells also = λ i x. same x i
  where
    same : (x : X) → test x ≡ other x
    same x = by_answers (test x) (other x) (λ is. (also x).1 ((tells x).0 is)) (λ is. (tells x).1 ((also x).0 is))
      where
        by_answers : (one two : Bool) → (one ≡ true → two ≡ true) → (two ≡ true → one ≡ true) → one ≡ two
        by_answers true two to from = sym (to refl)
        by_answers false true to from = from refl
        by_answers false false to from = refl

-- ---- the tests

earning_tells : Tells is_earned IsEarning
earning_tells IncomeKind.Wages = (λ is. inl refl, λ is. refl)
earning_tells IncomeKind.Business = (λ is. inr refl, λ is. refl)
earning_tells _ = (λ is. absurd (false≢true is), λ is. elim is [ inl e ↦ cc | inr e ↦ cc ])

other_tells : Tells is_counted_whole IsOtherKind
other_tells IncomeKind.Benefits = (λ is. inl refl, λ is. refl)
other_tells IncomeKind.Welfare = (λ is. inr (inl refl), λ is. refl)
other_tells IncomeKind.Other = (λ is. inr (inr refl), λ is. refl)
other_tells _ = (λ is. absurd (false≢true is), λ is. elim is [ inl e ↦ cc | inr e ↦ elim e [ inl e ↦ cc | inr e ↦ cc ] ])

adoption_tells : Tells is_adoption (λ kind. kind ≡ IncomeKind.Adoption)
adoption_tells IncomeKind.Adoption = (λ is. refl, λ is. refl)
adoption_tells _ = (λ is. absurd (false≢true is), λ is. cc)

abbrev not_aide : Member → Bool
not_aide member = not (is_aide member.relation)

family_tells : Tells not_aide IsOfFamily
family_tells member = by_relation member.relation
  where
    by_relation : (relation : Relation) → (not (is_aide relation) ≡ true) ↔ (relation ≢ Relation.Aide)
    by_relation Relation.Aide = (λ is. absurd (false≢true is), λ not_aide. absurd (not_aide refl))
    by_relation _ = (λ is e. cc, λ _. refl)

abbrev Whole : Relation → Bool → Bool → Type 0
Whole relation under student =
    (relation ≡ Relation.Head) ⊎ ((relation ≡ Relation.Spouse) ⊎ ((relation ≡ Relation.Cohead)
    ⊎ ((relation ≡ Relation.Other) × (under ≡ false) × (student ≡ false))))

-- 18 or more
adult_tells : (member : Member) (day : ℕ) → (is_under 18 member day ≡ false) ↔ (18 ≤ age_on member.born day)
adult_tells member day = (λ is. grind (arith, nat_tests), λ is. grind (arith, nat_tests))

abbrev earns_whole : ℕ → Member → Bool
earns_whole day member =
    not (is_aide member.relation) && (is_head_or_partner member.relation || (not (is_under 18 member day) && not member.student))

whole_tells : (day : ℕ) → Tells (earns_whole day) (EarnsWhole day)
whole_tells day member =
    let by = by_tests member.relation (is_under 18 member day) member.student in
    let adult = adult_tells member day in (
      λ is. elim (by.0 is) [
        | inl e ↦ inl e
        | inr e ↦ inr (elim e [ inl e ↦ inl e | inr e ↦ inr (elim e [ inl e ↦ inl e | inr e ↦ inr (e.0, adult.0 e.1, e.2) ]) ])
      ],
      λ is. by.1 (elim is [
        | inl e ↦ inl e
        | inr e ↦ inr (elim e [ inl e ↦ inl e | inr e ↦ inr (elim e [ inl e ↦ inl e | inr e ↦ inr (e.0, adult.1 e.1, e.2) ]) ])
      ]),
    )
  where
    by_tests : (relation : Relation) (under student : Bool) →
        ((not (is_aide relation) && (is_head_or_partner relation || (not under && not student))) ≡ true) ↔ Whole relation under student
    by_tests Relation.Head under student = (λ is. inl refl, λ is. refl)
    by_tests Relation.Spouse under student = (λ is. inr (inl refl), λ is. refl)
    by_tests Relation.Cohead under student = (λ is. inr (inr (inl refl)), λ is. refl)
    by_tests Relation.Aide under student =
        (λ is. absurd (false≢true is), λ is. elim is [ inl e ↦ cc | inr e ↦ elim e [ inl e ↦ cc | inr e ↦ elim e [ inl e ↦ cc | inr e ↦ (let is_other = e.0 in cc) ] ] ])
    by_tests Relation.Other false false = (λ is. inr (inr (inr (refl, refl, refl))), λ is. refl)
    by_tests Relation.Other under student =
        (λ is. absurd (grind (arith, common_steps)), λ is. elim is [ inl e ↦ cc | inr e ↦ elim e [ inl e ↦ cc | inr e ↦ elim e [ inl e ↦ cc | inr e ↦ absurd (grind (arith, common_steps, e.1, e.2)) ] ] ])

abbrev is_student : ℕ → Member → Bool
is_student day member =
    not (is_aide member.relation) && (not (is_head_or_partner member.relation) && (not (is_under 18 member day) && member.student))

student_tells : (day : ℕ) → Tells (is_student day) (IsAdultStudent day)
student_tells day member =
    let by = by_tests member.relation (is_under 18 member day) member.student in
    let adult = adult_tells member day in
    (λ is. (let e = by.0 is in (e.0, adult.0 e.1, e.2)), λ e. by.1 (e.0, adult.1 e.1, e.2))
  where
    by_tests : (relation : Relation) (under student : Bool) →
        ((not (is_aide relation) && (not (is_head_or_partner relation) && (not under && student))) ≡ true)
        ↔ ((relation ≡ Relation.Other) × (under ≡ false) × (student ≡ true))
    by_tests Relation.Other false true = (λ is. (refl, refl, refl), λ is. refl)
    by_tests Relation.Other false false = (λ is. absurd (false≢true is), λ e. absurd (false≢true e.2))
    by_tests Relation.Other true student = (λ is. absurd (false≢true is), λ e. absurd (false≢true (sym e.1)))
    by_tests _ under student = (λ is. absurd (false≢true is), λ e. (let is_other = e.0 in cc))

pub tests_exist : TestsExist
tests_exist day = record {
  earning = (is_earned, earning_tells);
  other = (is_counted_whole, other_tells);
  adoption = (is_adoption, adoption_tells);
  whole = (earns_whole day, whole_tells day);
  student = (is_student day, student_tells day);
  family = (not_aide, family_tells);
}

-- ---- what is counted of one member

counted_parts : (aide partner under student : Bool) (earnings : ℕ) →
    (if aide then 0 else (if partner then earnings else (if under then 0 else (if student then min 480 earnings else earnings))))
    ≡ cond (not aide && (partner || (not under && not student))) earnings 0 + cond (not aide && (not partner && (not under && student))) (min 480 earnings) 0
counted_parts aide partner under student earnings = grind (arith, common_steps)

earned_parts : (facts : Facts) (day number : ℕ) →
    counted_earned_of facts number day
    ≡ cond (passes facts (earns_whole day) number) (sum_of is_earned facts.incomes number) 0
    + cond (passes facts (is_student day) number) (min 480 (sum_of is_earned facts.incomes number)) 0
earned_parts facts day number = by_member (slice_get facts.members number) (sum_of is_earned facts.incomes number)
  where
    by_member : (o : Option Member) (earnings : ℕ) →
        option_map_or (λ member. counted_of_earnings member day earnings) o 0
        ≡ cond (option_map_or (earns_whole day) o false) earnings 0 + cond (option_map_or (is_student day) o false) (min 480 earnings) 0
    by_member None earnings = omega arith
    by_member (Some member) earnings =
        counted_parts (is_aide member.relation) (is_head_or_partner member.relation) (is_under 18 member day) member.student earnings

unearned_parts : (facts : Facts) (number : ℕ) →
    counted_unearned_of facts number
    ≡ cond (passes facts not_aide number) (sum_of is_counted_whole facts.incomes number) 0
    + cond (passes facts not_aide number) (min 480 (sum_of is_adoption facts.incomes number)) 0
unearned_parts facts number =
    by_member (slice_get facts.members number) (sum_of is_counted_whole facts.incomes number) (sum_of is_adoption facts.incomes number)
  where
    by_tests : (aide : Bool) (whole adoption : ℕ) → (if aide then 0 else whole + min 480 adoption) ≡ cond (not aide) whole 0 + cond (not aide) (min 480 adoption) 0
    by_tests aide whole adoption = grind (arith, common_steps)

    by_member : (o : Option Member) (whole adoption : ℕ) →
        option_map_or (λ member. counted_of_others member whole adoption) o 0
        ≡ cond (option_map_or not_aide o false) whole 0
        + cond (option_map_or not_aide o false) (min 480 adoption) 0
    by_member None whole adoption = omega arith
    by_member (Some member) whole adoption = by_tests (is_aide member.relation) whole adoption

-- ---- the sums

-- the sum by members is that over the whole list, and the capped one of each
module _ (facts : Facts) (named : NameMembers facts) (whole capped : Member → Bool) (kind capped_kind : IncomeKind → Bool) (counted : ℕ → ℕ)
    (parts : (number : ℕ) → counted number ≡ cond (passes facts whole number) (sum_of kind facts.incomes number) 0
    + cond (passes facts capped number) (min 480 (sum_of capped_kind facts.incomes number)) 0) where
  over_list : sum_by counted (numbers_of facts) ≡ total_of facts (λ income. kind income.kind && passes facts whole income.member) + capped_total_of facts capped capped_kind
  over_list =
      let first : ℕ → ℕ = λ number. cond (passes facts whole number) (sum_of kind facts.incomes number) 0 in
      let second : ℕ → ℕ = λ number. cond (passes facts capped number) (min 480 (sum_of capped_kind facts.incomes number)) 0 in
      sum_by-agree counted (λ number. first number + second number) parts (numbers_of facts)
      ∙ sum_by-add first second (numbers_of facts)
      ∙ ap₂ (λ (one two : ℕ). one + two) (shares-are (passes facts whole) kind (length facts.members) facts.incomes named)
      (sym (sum_by-filter (λ number. min 480 (sum_of capped_kind facts.incomes number)) (passes facts capped) (numbers_of facts)))

pub earned_is_of_whole_list : EarnedIsOfWholeList
earned_is_of_whole_list facts day earning whole student named earning_is whole_is student_is =
    over_list facts named (earns_whole day) (is_student day) is_earned is_earned (λ number. counted_earned_of facts number day) (earned_parts facts day)
    ∙ (λ i. total_of facts (λ income. earnings i income.kind && passes facts (wholes i) income.member) + capped_total_of facts (students i) (earnings i))
  where
    earnings : is_earned ≡ earning
    earnings = same_tests is_earned earning IsEarning earning_tells earning_is

    wholes : earns_whole day ≡ whole
    wholes = same_tests (earns_whole day) whole (EarnsWhole day) (whole_tells day) whole_is

    students : is_student day ≡ student
    students = same_tests (is_student day) student (IsAdultStudent day) (student_tells day) student_is

pub unearned_is_of_whole_list : UnearnedIsOfWholeList
unearned_is_of_whole_list facts other adoption family named other_is adoption_is family_is =
    over_list facts named not_aide not_aide is_counted_whole is_adoption (counted_unearned_of facts) (unearned_parts facts)
    ∙ (λ i. total_of facts (λ income. others i income.kind && passes facts (families i) income.member) + capped_total_of facts (families i) (adoptions i))
  where
    others : is_counted_whole ≡ other
    others = same_tests is_counted_whole other IsOtherKind other_tells other_is

    adoptions : is_adoption ≡ adoption
    adoptions = same_tests is_adoption adoption (λ kind. kind ≡ IncomeKind.Adoption) adoption_tells adoption_is

    families : not_aide ≡ family
    families = same_tests not_aide family IsOfFamily family_tells family_is
