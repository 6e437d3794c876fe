-- 8: the rules of the facts.
use Rattle.std.proofs.Common.{◌≡◌, ◌≢◌, ◌∙◌, sym, ap, refl, subst, ℕ, zero, suc, ◌+◌, ◌<◌, ◌≤◌, ◌⊎◌, inl, inr, arith, Bool, true, false, List, [], ◌∷◌, Option, Some, None, ◌&&◌, not, length, nat_le, if◌then◌else◌, count_by, cond}
use Rattle.std.specs.Prelude.{◌↔◌, Contains, nat_lt, slice_get}
use Rattle.std.specs.{List.list_all}
use Rattle.std.proofs.lemmas.{Bool.false≢true, Bool.false_from_ne_true, Bool.leb-true, Bool.le-leb, Bool.ltb-true, Bool.lt-ltb, Bool.and_parts, Bool.and_from, Bool.eqb-true, Bool.eq-eqb, Option.same_Some, Option.none-some, List.Sums.sum_by-cons}
use Rattle.std.proofs.lemmas.List.Elements.{Contains-append_right}
use Rattle.facts_core.specs.declared.{members.Member.Member, members.Relation.Relation, incomes.Income.Income, property.Asset.Asset, property.Disposal.Disposal, facts.Facts.Facts}
use Rattle.facts_core.specs.Rules.{is_amount, is_head, is_partner, is_aide, has_one_head, has_at_most_one_partner, names_members, has_amounts, has_fair_disposals, is_in_size, has_births_by, is_eligible, eligible_members, has_an_eligible_member, broken_rule}
use Rattle.office_step.specs.{declared.refusal.Refusal.Refusal, Matter.Basis, Matter.from_facts, Matter.carried, Matter.nothing, Against.rule_broken}
use Rattle.office_step.proofs.Exactly.{Options.and_then-some, Options.and_then-from, Options.map-some, Options.map-from}
use Rattle.office_step.specs.plain.Facts.{IsHeadAt, IsPartnerAt, is_family, Rule, head, partners, earners, amounts, disposals, sizes, births, eligible, number_of, Keep, BreaksRule, FactsRuleIsPlain}

-- ---- lists

all-each : {X : Type 0} (p : X → Bool) (xs : List X) → list_all p xs ≡ true → (x : X) → Contains xs x → p x ≡ true
all-each p [] is x held = absurd (omega (arith, held.1))
all-each p (y ∷ ys) is x (zero, within, same) = let parts = and_parts (p y) (list_all p ys) is in ap p (sym same) ∙ parts.0
all-each p (y ∷ ys) is x (suc k, within, same) =
    all-each p ys (and_parts (p y) (list_all p ys) is).1 x (k, omega (arith, within), same)

each-all : {X : Type 0} (p : X → Bool) (xs : List X) → ((x : X) → Contains xs x → p x ≡ true) → list_all p xs ≡ true
each-all p [] each = refl
each-all p (y ∷ ys) each =
    and_from (p y) (list_all p ys) (each y (0, omega arith, refl)) (each-all p ys (λ x held. each x (Contains-append_right (y ∷ []) ys x held)))

-- ---- counts

module _ {X : Type 0} (p : X → Bool) where
  abbrev At : List X → ℕ → Type 0
  At xs place = (x : X) × (slice_get xs place ≡ Some x) × (p x ≡ true)

  count-cons : (x : X) (xs : List X) → count_by p (x ∷ xs) ≡ cond (p x) 1 0 + count_by p xs
  count-cons x xs = sum_by-cons (λ x. cond (p x) 1 0) x xs

  yes : (x : X) (xs : List X) → p x ≡ true → count_by p (x ∷ xs) ≡ 1 + count_by p xs
  yes x xs is = count-cons x xs ∙ ap (λ (b : Bool). cond b 1 0 + count_by p xs) is

  not_one : (x : X) (xs : List X) → p x ≡ false → count_by p (x ∷ xs) ≡ count_by p xs
  not_one x xs is = count-cons x xs ∙ ap (λ (b : Bool). cond b 1 0 + count_by p xs) is ∙ (omega arith)

  none-at : (xs : List X) → count_by p xs ≡ 0 → (place : ℕ) → ¬ At xs place
  none-at [] is place (x, at, passes) = absurd (none-some x at)
  none-at (y ∷ ys) is place at = by_test (p y) refl place at (none-at ys)
    where
      by_test : (b : Bool) → p y ≡ b → (place : ℕ) → At (y ∷ ys) place → (count_by p ys ≡ 0 → (place : ℕ) → ¬ At ys place) → ⊥
      by_test true passes place at later = omega (arith, is, yes y ys passes)
      by_test false fails zero (x, at, passes) later = false≢true (sym fails ∙ ap p (same_Some y x at) ∙ passes)
      by_test false fails (suc place) (x, at, passes) later = later (sym (not_one y ys fails) ∙ is) place (x, at, passes)

  at-none : (xs : List X) → ((place : ℕ) → ¬ At xs place) → count_by p xs ≡ 0
  at-none [] never = refl
  at-none (y ∷ ys) never =
      not_one y ys (false_from_ne_true (p y) (λ passes. never 0 (y, refl, passes)))
      ∙ at-none ys (λ place at. never (suc place) at)

  most-at : (xs : List X) → count_by p xs ≤ 1 → (place other : ℕ) → At xs place → At xs other → other ≡ place
  most-at [] most place other (x, at, passes) _ = absurd (none-some x at)
  most-at (y ∷ ys) most place other one two = by_test (p y) refl place other one two (most-at ys)
    where
      by_test : (b : Bool) → p y ≡ b → (place other : ℕ) → At (y ∷ ys) place → At (y ∷ ys) other →
          (count_by p ys ≤ 1 → (place other : ℕ) → At ys place → At ys other → other ≡ place) → other ≡ place
      by_test b is zero zero one two later = refl
      by_test true is zero (suc other) one two later = absurd (none-at ys (omega (arith, most, yes y ys is)) other two)
      by_test true is (suc place) other one two later = absurd (none-at ys (omega (arith, most, yes y ys is)) place one)
      by_test false is zero (suc other) (x, at, passes) two later = absurd (false≢true (sym is ∙ ap p (same_Some y x at) ∙ passes))
      by_test false is (suc place) zero one (x, at, passes) later = absurd (false≢true (sym is ∙ ap p (same_Some y x at) ∙ passes))
      by_test false is (suc place) (suc other) one two later =
          let same : other ≡ place = later (omega (arith, most, not_one y ys is)) place other one two in ap suc same

  at-most : (xs : List X) → ((place other : ℕ) → At xs place → At xs other → other ≡ place) → count_by p xs ≤ 1
  at-most [] same = omega arith
  at-most (y ∷ ys) same = by_test (p y) refl (at-most ys)
    where
      by_test : (b : Bool) → p y ≡ b → (((place other : ℕ) → At ys place → At ys other → other ≡ place) → count_by p ys ≤ 1) → count_by p (y ∷ ys) ≤ 1
      by_test true is later =
          omega (arith, yes y ys is, at-none ys (λ place at. absurd (omega (arith, same 0 (suc place) (y, refl, is) at))))
      by_test false is later =
          omega (arith, not_one y ys is, later (λ place other one two. (let both : suc other ≡ suc place = same (suc place) (suc other) one two in omega (arith, both))))

  one-at : (xs : List X) → count_by p xs ≡ 1 → (place : ℕ) × At xs place
  one-at [] is = absurd (omega (arith, is))
  one-at (y ∷ ys) is = by_test (p y) refl (one-at ys)
    where
      by_test : (b : Bool) → p y ≡ b → (count_by p ys ≡ 1 → (place : ℕ) × At ys place) → (place : ℕ) × At (y ∷ ys) place
      by_test true passes later = (0, (y, refl, passes))
      by_test false fails later = let rest = later (sym (not_one y ys fails) ∙ is) in (suc rest.0, rest.1)

  at-one : (xs : List X) (place : ℕ) → At xs place → 1 ≤ count_by p xs
  at-one xs place at = by_count (count_by p xs) refl
    where
      by_count : (n : ℕ) → count_by p xs ≡ n → 1 ≤ count_by p xs
      by_count zero is = absurd (none-at xs is place at)
      by_count (suc n) is = omega (arith, is)

  -- some are counted exactly if one passes
  some-held : (xs : List X) → 1 ≤ count_by p xs → (x : X) × Contains xs x × (p x ≡ true)
  some-held [] some = absurd (omega (arith, some))
  some-held (y ∷ ys) some = by_test (p y) refl (some-held ys)
    where
      by_test : (b : Bool) → p y ≡ b → (1 ≤ count_by p ys → (x : X) × Contains ys x × (p x ≡ true)) → (x : X) × Contains (y ∷ ys) x × (p x ≡ true)
      by_test true passes later = (y, (0, omega arith, refl), passes)
      by_test false fails later =
          let rest = later (omega (arith, some, not_one y ys fails)) in (rest.0, Contains-append_right (y ∷ []) ys rest.0 rest.1, rest.2)

  held-some : (xs : List X) (x : X) → Contains xs x → p x ≡ true → 1 ≤ count_by p xs
  held-some [] x held passes = absurd (omega (arith, held.1))
  held-some (y ∷ ys) x (zero, within, same) passes = omega (arith, yes y ys (ap p same ∙ passes))
  held-some (y ∷ ys) x (suc k, within, same) passes = omega (arith, held-some ys x (k, omega (arith, within), same) passes, count-cons y ys)

-- ---- kinds of members

heads : (relation : Relation) → (is_head relation ≡ true) ↔ (relation ≡ Relation.Head)
heads relation = (to relation, λ is. ap is_head is)
  where
    to : (relation : Relation) → is_head relation ≡ true → relation ≡ Relation.Head
    to Relation.Head is = refl
    to _ is = absurd (false≢true is)

partner : (relation : Relation) → (is_partner relation ≡ true) ↔ ((relation ≡ Relation.Spouse) ⊎ (relation ≡ Relation.Cohead))
partner relation = (to relation, λ is. elim is [ inl spouse ↦ ap is_partner spouse | inr cohead ↦ ap is_partner cohead ])
  where
    to : (relation : Relation) → is_partner relation ≡ true → (relation ≡ Relation.Spouse) ⊎ (relation ≡ Relation.Cohead)
    to Relation.Spouse is = inl refl
    to Relation.Cohead is = inr refl
    to _ is = absurd (false≢true is)

family : (relation : Relation) → not (is_aide relation) ≡ is_family relation
family Relation.Aide = refl
family _ = refl

no_aide : (relation : Relation) → (not (is_aide relation) ≡ true) ↔ (relation ≢ Relation.Aide)
no_aide relation = (to relation, from relation)
  where
    to : (relation : Relation) → not (is_aide relation) ≡ true → relation ≢ Relation.Aide
    to Relation.Aide is same = false≢true is
    to Relation.Head is same = absurd (cc)
    to Relation.Spouse is same = absurd (cc)
    to Relation.Cohead is same = absurd (cc)
    to Relation.Other is same = absurd (cc)

    from : (relation : Relation) → relation ≢ Relation.Aide → not (is_aide relation) ≡ true
    from Relation.Aide other = absurd (other refl)
    from _ other = refl

-- ---- the rules

module _ (facts : Facts) (day : ℕ) where
  abbrev test : Rule → Bool
  test head = has_one_head facts
  test partners = has_at_most_one_partner facts
  test earners = names_members facts
  test amounts = has_amounts facts
  test disposals = has_fair_disposals facts
  test sizes = is_in_size facts
  test births = has_births_by facts day
  test eligible = has_an_eligible_member facts

  head_at : (place : ℕ) → At (λ (member : Member). is_head member.relation) facts.members place → IsHeadAt facts place
  head_at place (member, at, is) = (member, at, (heads member.relation).0 is)

  at_head : (place : ℕ) → IsHeadAt facts place → At (λ (member : Member). is_head member.relation) facts.members place
  at_head place (member, at, is) = (member, at, (heads member.relation).1 is)

  partner_at : (place : ℕ) → At (λ (member : Member). is_partner member.relation) facts.members place → IsPartnerAt facts place
  partner_at place (member, at, is) = (member, at, (partner member.relation).0 is)

  at_partner : (place : ℕ) → IsPartnerAt facts place → At (λ (member : Member). is_partner member.relation) facts.members place
  at_partner place (member, at, is) = (member, at, (partner member.relation).1 is)

  one_head : (has_one_head facts ≡ true) ↔ Keep facts day head
  one_head = (
    λ is.
        (let count = eqb-true (count_by (λ (member : Member). is_head member.relation) facts.members) 1 is in
        let at = one-at (λ (member : Member). is_head member.relation) facts.members count in
        (at.0, head_at at.0 at.1, λ other its. most-at (λ (member : Member). is_head member.relation) facts.members (omega (arith, count)) at.0 other at.1 (at_head other its))),
    λ (place, is, only).
        eq-eqb (count_by (λ (member : Member). is_head member.relation) facts.members) 1
        (omega (
          arith,
          at-one (λ (member : Member). is_head member.relation) facts.members place (at_head place is),
          at-most (λ (member : Member). is_head member.relation) facts.members (λ one other its too. only other (head_at other too) ∙ sym (only one (head_at one its))),
        )),
  )

  one_partner : (has_at_most_one_partner facts ≡ true) ↔ Keep facts day partners
  one_partner = (
    λ is place other one two.
        most-at (λ (member : Member). is_partner member.relation) facts.members (leb-true (count_by (λ (member : Member). is_partner member.relation) facts.members) 1 is) place other (at_partner place one) (at_partner other two),
    λ same. le-leb (count_by (λ (member : Member). is_partner member.relation) facts.members) 1
        (at-most (λ (member : Member). is_partner member.relation) facts.members (λ place other one two. same place other (partner_at place one) (partner_at other two))),
  )

  all_earners : (names_members facts ≡ true) ↔ Keep facts day earners
  all_earners = (
    λ is income held. ltb-true income.member (length facts.members) (all-each (λ (income : Income). nat_lt income.member (length facts.members)) facts.incomes is income held),
    λ each. each-all (λ (income : Income). nat_lt income.member (length facts.members)) facts.incomes (λ income held. lt-ltb income.member (length facts.members) (each income held)),
  )

  all_fair : (has_fair_disposals facts ≡ true) ↔ Keep facts day disposals
  all_fair = (
    λ is disposal held. leb-true disposal.received disposal.value (all-each (λ (disposal : Disposal). nat_le disposal.received disposal.value) facts.disposals is disposal held),
    λ each. each-all (λ (disposal : Disposal). nat_le disposal.received disposal.value) facts.disposals (λ disposal held. le-leb disposal.received disposal.value (each disposal held)),
  )

  all_born : (has_births_by facts day ≡ true) ↔ Keep facts day births
  all_born = (
    λ is member held. leb-true member.born day (all-each (λ (member : Member). nat_le member.born day) facts.members is member held),
    λ each. each-all (λ (member : Member). nat_le member.born day) facts.members (λ member held. le-leb member.born day (each member held)),
  )

  some_eligible : (has_an_eligible_member facts ≡ true) ↔ Keep facts day eligible
  some_eligible = (
    λ is.
        (let at = some-held is_eligible facts.members (ltb-true 0 (eligible_members facts) is) in
        let parts = and_parts (not (is_aide at.0.relation)) at.0.eligible at.2 in (at.0, at.1, (no_aide at.0.relation).0 parts.0, parts.1)),
    λ (member, held, other, flag).
        lt-ltb 0 (eligible_members facts)
        (held-some is_eligible facts.members member held (and_from (not (is_aide member.relation)) member.eligible ((no_aide member.relation).1 other) flag)),
  )

  all_amounts : (has_amounts facts ≡ true) ↔ Keep facts day amounts
  all_amounts = (
    λ is.
        (let a = and_parts (list_all (λ (income : Income). is_amount income.annual) facts.incomes) _ is in
        let b = and_parts (list_all (λ (asset : Asset). is_amount asset.value && is_amount asset.income) facts.assets) _ a.1 in
        let c = and_parts (list_all (λ (disposal : Disposal). is_amount disposal.value && is_amount disposal.received) facts.disposals) _ b.1 in
        let d = and_parts (is_amount facts.care_work) _ c.1 in
        let e = and_parts (is_amount facts.care_school) _ d.1 in
        let f = and_parts (is_amount facts.disability) _ e.1 in
        let g = and_parts (is_amount facts.medical) (is_amount facts.welfare) f.1 in record {
          incomes = λ income held. leb-true income.annual 9999999 (all-each (λ (income : Income). is_amount income.annual) facts.incomes a.0 income held);
          values = λ asset held. leb-true asset.value 9999999 (and_parts (is_amount asset.value) (is_amount asset.income) (all-each (λ (asset : Asset). is_amount asset.value && is_amount asset.income) facts.assets b.0 asset held)).0;
          yields = λ asset held. leb-true asset.income 9999999 (and_parts (is_amount asset.value) (is_amount asset.income) (all-each (λ (asset : Asset). is_amount asset.value && is_amount asset.income) facts.assets b.0 asset held)).1;
          worths = λ disposal held. leb-true disposal.value 9999999 (and_parts (is_amount disposal.value) (is_amount disposal.received) (all-each (λ (disposal : Disposal). is_amount disposal.value && is_amount disposal.received) facts.disposals c.0 disposal held)).0;
          proceeds = λ disposal held. leb-true disposal.received 9999999 (and_parts (is_amount disposal.value) (is_amount disposal.received) (all-each (λ (disposal : Disposal). is_amount disposal.value && is_amount disposal.received) facts.disposals c.0 disposal held)).1;
          care_work = leb-true facts.care_work 9999999 d.0;
          care_school = leb-true facts.care_school 9999999 e.0;
          disability = leb-true facts.disability 9999999 f.0;
          medical = leb-true facts.medical 9999999 g.0;
          welfare = leb-true facts.welfare 9999999 g.1;
        }),
    λ has.
        and_from (list_all (λ (income : Income). is_amount income.annual) facts.incomes) _
        (each-all (λ (income : Income). is_amount income.annual) facts.incomes (λ income held. le-leb income.annual 9999999 (has.incomes income held)))
        (and_from (list_all (λ (asset : Asset). is_amount asset.value && is_amount asset.income) facts.assets) _
        (each-all (λ (asset : Asset). is_amount asset.value && is_amount asset.income) facts.assets
        (λ asset held. and_from (is_amount asset.value) (is_amount asset.income) (le-leb asset.value 9999999 (has.values asset held)) (le-leb asset.income 9999999 (has.yields asset held))))
        (and_from (list_all (λ (disposal : Disposal). is_amount disposal.value && is_amount disposal.received) facts.disposals) _
        (each-all (λ (disposal : Disposal). is_amount disposal.value && is_amount disposal.received) facts.disposals
        (λ disposal held. and_from (is_amount disposal.value) (is_amount disposal.received) (le-leb disposal.value 9999999 (has.worths disposal held)) (le-leb disposal.received 9999999 (has.proceeds disposal held))))
        (and_from (is_amount facts.care_work) _ (le-leb facts.care_work 9999999 has.care_work)
        (and_from (is_amount facts.care_school) _ (le-leb facts.care_school 9999999 has.care_school)
        (and_from (is_amount facts.disability) _ (le-leb facts.disability 9999999 has.disability)
        (and_from (is_amount facts.medical) (is_amount facts.welfare) (le-leb facts.medical 9999999 has.medical) (le-leb facts.welfare 9999999 has.welfare))))))),
  )

  counted : count_by (λ (member : Member). not (is_aide member.relation)) facts.members ≡ count_by (λ (member : Member). is_family member.relation) facts.members
  counted = ap (λ (p : Member → Bool). count_by p facts.members) (λ i member. family member.relation i)

  few : (is_in_size facts ≡ true) ↔ Keep facts day sizes
  few = (
    λ is.
        (let a = and_parts (nat_le (count_by (λ (member : Member). not (is_aide member.relation)) facts.members) 12) _ is in
        let b = and_parts (nat_le (length facts.members) 16) _ a.1 in
        let c = and_parts (nat_le (length facts.incomes) 40) _ b.1 in
        let d = and_parts (nat_le (length facts.assets) 40) (nat_le (length facts.disposals) 40) c.1 in record {
          family = subst (λ (n : ℕ). n ≤ 12) counted (leb-true (count_by (λ (member : Member). not (is_aide member.relation)) facts.members) 12 a.0);
          members = leb-true (length facts.members) 16 b.0;
          incomes = leb-true (length facts.incomes) 40 c.0;
          assets = leb-true (length facts.assets) 40 d.0;
          disposals = leb-true (length facts.disposals) 40 d.1;
        }),
    λ are.
        and_from (nat_le (count_by (λ (member : Member). not (is_aide member.relation)) facts.members) 12) _
        (le-leb (count_by (λ (member : Member). not (is_aide member.relation)) facts.members) 12 (subst (λ (n : ℕ). n ≤ 12) (sym counted) are.family))
        (and_from (nat_le (length facts.members) 16) _ (le-leb (length facts.members) 16 are.members)
        (and_from (nat_le (length facts.incomes) 40) _ (le-leb (length facts.incomes) 40 are.incomes)
        (and_from (nat_le (length facts.assets) 40) (nat_le (length facts.disposals) 40) (le-leb (length facts.assets) 40 are.assets) (le-leb (length facts.disposals) 40 are.disposals)))),
  )

  plain : (rule : Rule) → (test rule ≡ true) ↔ Keep facts day rule
  plain head = one_head
  plain partners = one_partner
  plain earners = all_earners
  plain amounts = all_amounts
  plain disposals = all_fair
  plain sizes = few
  plain births = all_born
  plain eligible = some_eligible

  breaks : (rule : Rule) → test rule ≡ false → ¬ Keep facts day rule
  breaks rule fails keep = false≢true (sym fails ∙ (plain rule).1 keep)

  -- ---- the first that is broken

  -- the rule is the first that is broken
  pub record IsBroken (number : ℕ) : Type 0 where
    pub rule : Rule
    pub numbered : number ≡ number_of rule
    pub broken : ¬ Keep facts day rule
    pub kept_before : (other : Rule) → number_of other < number_of rule → Keep facts day other

  step : (b : Bool) (n number : ℕ) (rest : Option ℕ) → (if not b then Some n else rest) ≡ Some number → ((b ≡ false) × (number ≡ n)) ⊎ ((b ≡ true) × (rest ≡ Some number))
  step true n number rest is = inr (refl, is)
  step false n number rest is = inl (refl, sym (same_Some n number is))

  pub first_broken : (number : ℕ) → broken_rule facts day ≡ Some number → IsBroken number
  first_broken number is = elim (step (test head) 1 number _ is) [
    | inl here ↦ record { rule = head; numbered = here.1; broken = breaks head here.0; kept_before = λ other less. before_head other less }
    | inr more ↦ let k1 = (plain head).0 more.0 in elim (step (test partners) 2 number _ more.1) [
      | inl here ↦ record { rule = partners; numbered = here.1; broken = breaks partners here.0; kept_before = before_partners k1 }
      | inr more ↦ let k2 = (plain partners).0 more.0 in elim (step (test earners) 3 number _ more.1) [
        | inl here ↦ record { rule = earners; numbered = here.1; broken = breaks earners here.0; kept_before = before_earners k1 k2 }
        | inr more ↦ let k3 = (plain earners).0 more.0 in elim (step (test amounts) 4 number _ more.1) [
          | inl here ↦ record { rule = amounts; numbered = here.1; broken = breaks amounts here.0; kept_before = before_amounts k1 k2 k3 }
          | inr more ↦ let k4 = (plain amounts).0 more.0 in elim (step (test disposals) 5 number _ more.1) [
            | inl here ↦ record { rule = disposals; numbered = here.1; broken = breaks disposals here.0; kept_before = before_disposals k1 k2 k3 k4 }
            | inr more ↦ let k5 = (plain disposals).0 more.0 in elim (step (test sizes) 6 number _ more.1) [
              | inl here ↦ record { rule = sizes; numbered = here.1; broken = breaks sizes here.0; kept_before = before_sizes k1 k2 k3 k4 k5 }
              | inr more ↦ let k6 = (plain sizes).0 more.0 in elim (step (test births) 7 number _ more.1) [
                | inl here ↦ record { rule = births; numbered = here.1; broken = breaks births here.0; kept_before = before_births k1 k2 k3 k4 k5 k6 }
                | inr more ↦ let k7 = (plain births).0 more.0 in elim (step (test eligible) 8 number None more.1) [
                  | inl here ↦ record { rule = eligible; numbered = here.1; broken = breaks eligible here.0; kept_before = before_eligible k1 k2 k3 k4 k5 k6 k7 }
                  | inr more ↦ absurd (none-some number more.1)
                ]
              ]
            ]
          ]
        ]
      ]
    ]
  ]
    where
      before_head : (other : Rule) → number_of other < 1 → Keep facts day other
      before_head head less = absurd (omega (arith, less))
      before_head _ less = absurd (omega (arith, less))

      before_partners : Keep facts day head → (other : Rule) → number_of other < 2 → Keep facts day other
      before_partners k1 head less = k1
      before_partners k1 _ less = absurd (omega (arith, less))

      before_earners : Keep facts day head → Keep facts day partners → (other : Rule) → number_of other < 3 → Keep facts day other
      before_earners k1 k2 head less = k1
      before_earners k1 k2 partners less = k2
      before_earners k1 k2 _ less = absurd (omega (arith, less))

      before_amounts : Keep facts day head → Keep facts day partners → Keep facts day earners → (other : Rule) → number_of other < 4 → Keep facts day other
      before_amounts k1 k2 k3 head less = k1
      before_amounts k1 k2 k3 partners less = k2
      before_amounts k1 k2 k3 earners less = k3
      before_amounts k1 k2 k3 _ less = absurd (omega (arith, less))

      before_disposals : Keep facts day head → Keep facts day partners → Keep facts day earners → Keep facts day amounts →
          (other : Rule) → number_of other < 5 → Keep facts day other
      before_disposals k1 k2 k3 k4 head less = k1
      before_disposals k1 k2 k3 k4 partners less = k2
      before_disposals k1 k2 k3 k4 earners less = k3
      before_disposals k1 k2 k3 k4 amounts less = k4
      before_disposals k1 k2 k3 k4 _ less = absurd (omega (arith, less))

      before_sizes : Keep facts day head → Keep facts day partners → Keep facts day earners → Keep facts day amounts → Keep facts day disposals →
          (other : Rule) → number_of other < 6 → Keep facts day other
      before_sizes k1 k2 k3 k4 k5 head less = k1
      before_sizes k1 k2 k3 k4 k5 partners less = k2
      before_sizes k1 k2 k3 k4 k5 earners less = k3
      before_sizes k1 k2 k3 k4 k5 amounts less = k4
      before_sizes k1 k2 k3 k4 k5 disposals less = k5
      before_sizes k1 k2 k3 k4 k5 _ less = absurd (omega (arith, less))

      before_births : Keep facts day head → Keep facts day partners → Keep facts day earners → Keep facts day amounts → Keep facts day disposals →
          Keep facts day sizes → (other : Rule) → number_of other < 7 → Keep facts day other
      before_births k1 k2 k3 k4 k5 k6 head less = k1
      before_births k1 k2 k3 k4 k5 k6 partners less = k2
      before_births k1 k2 k3 k4 k5 k6 earners less = k3
      before_births k1 k2 k3 k4 k5 k6 amounts less = k4
      before_births k1 k2 k3 k4 k5 k6 disposals less = k5
      before_births k1 k2 k3 k4 k5 k6 sizes less = k6
      before_births k1 k2 k3 k4 k5 k6 _ less = absurd (omega (arith, less))

      before_eligible : Keep facts day head → Keep facts day partners → Keep facts day earners → Keep facts day amounts → Keep facts day disposals →
          Keep facts day sizes → Keep facts day births → (other : Rule) → number_of other < 8 → Keep facts day other
      before_eligible k1 k2 k3 k4 k5 k6 k7 head less = k1
      before_eligible k1 k2 k3 k4 k5 k6 k7 partners less = k2
      before_eligible k1 k2 k3 k4 k5 k6 k7 earners less = k3
      before_eligible k1 k2 k3 k4 k5 k6 k7 amounts less = k4
      before_eligible k1 k2 k3 k4 k5 k6 k7 disposals less = k5
      before_eligible k1 k2 k3 k4 k5 k6 k7 sizes less = k6
      before_eligible k1 k2 k3 k4 k5 k6 k7 births less = k7
      before_eligible k1 k2 k3 k4 k5 k6 k7 eligible less = absurd (omega (arith, less))

  here : (b : Bool) (n number : ℕ) (rest : Option ℕ) → b ≡ false → number ≡ n → (if not b then Some n else rest) ≡ Some number
  here true n number rest is told = absurd (cc)
  here false n number rest is told = ap Some (sym told)

  later : (b : Bool) (n number : ℕ) (rest : Option ℕ) → b ≡ true → rest ≡ Some number → (if not b then Some n else rest) ≡ Some number
  later true n number rest is more = more
  later false n number rest is more = absurd (cc)

  pub broken_first : (number : ℕ) → IsBroken number → broken_rule facts day ≡ Some number
  broken_first number at = by_rule at.rule at.numbered (false_from_ne_true (test at.rule) (λ passes. at.broken ((plain at.rule).0 passes))) (λ other less. (plain other).1 (at.kept_before other less))
    where
      by_rule : (rule : Rule) → number ≡ number_of rule → test rule ≡ false → ((other : Rule) → number_of other < number_of rule → test other ≡ true) → broken_rule facts day ≡ Some number
      by_rule head told fails kept = here (test head) 1 number _ fails told
      by_rule partners told fails kept = later (test head) 1 number _ (kept head (omega arith)) (here (test partners) 2 number _ fails told)
      by_rule earners told fails kept =
          later (test head) 1 number _ (kept head (omega arith)) (later (test partners) 2 number _ (kept partners (omega arith)) (here (test earners) 3 number _ fails told))
      by_rule amounts told fails kept =
          later (test head) 1 number _ (kept head (omega arith)) (later (test partners) 2 number _ (kept partners (omega arith))
          (later (test earners) 3 number _ (kept earners (omega arith)) (here (test amounts) 4 number _ fails told)))
      by_rule disposals told fails kept =
          later (test head) 1 number _ (kept head (omega arith)) (later (test partners) 2 number _ (kept partners (omega arith))
          (later (test earners) 3 number _ (kept earners (omega arith)) (later (test amounts) 4 number _ (kept amounts (omega arith)) (here (test disposals) 5 number _ fails told))))
      by_rule sizes told fails kept =
          later (test head) 1 number _ (kept head (omega arith)) (later (test partners) 2 number _ (kept partners (omega arith))
          (later (test earners) 3 number _ (kept earners (omega arith)) (later (test amounts) 4 number _ (kept amounts (omega arith))
          (later (test disposals) 5 number _ (kept disposals (omega arith)) (here (test sizes) 6 number _ fails told)))))
      by_rule births told fails kept =
          later (test head) 1 number _ (kept head (omega arith)) (later (test partners) 2 number _ (kept partners (omega arith))
          (later (test earners) 3 number _ (kept earners (omega arith)) (later (test amounts) 4 number _ (kept amounts (omega arith))
          (later (test disposals) 5 number _ (kept disposals (omega arith)) (later (test sizes) 6 number _ (kept sizes (omega arith)) (here (test births) 7 number _ fails told))))))
      by_rule eligible told fails kept =
          later (test head) 1 number _ (kept head (omega arith)) (later (test partners) 2 number _ (kept partners (omega arith))
          (later (test earners) 3 number _ (kept earners (omega arith)) (later (test amounts) 4 number _ (kept amounts (omega arith))
          (later (test disposals) 5 number _ (kept disposals (omega arith)) (later (test sizes) 6 number _ (kept sizes (omega arith))
          (later (test births) 7 number _ (kept births (omega arith)) (here (test eligible) 8 number None fails told)))))))

-- ---- 8

pub facts_rule_is_plain : FactsRuleIsPlain
facts_rule_is_plain about refusal = (
  λ is. (let begins = and_then-some (rule_broken about.basis) about.from refusal is in by_basis about.basis refl begins.0 begins.1 begins.2),
  λ at. and_then-from (rule_broken about.basis) about.from at.from refusal at.begins
      (ap (λ (basis : Basis). rule_broken basis at.from) at.rests
      ∙ map-from (λ (rule : ℕ). Refusal.FactsRule rule) (broken_rule at.facts at.from) (number_of at.rule) refusal
      (broken_first at.facts at.from (number_of at.rule) (record { rule = at.rule; numbered = refl; broken = at.broken; kept_before = at.kept_before })) at.told),
)
  where
    by_basis : (basis : Basis) → about.basis ≡ basis → (from : ℕ) → about.from ≡ Some from → rule_broken basis from ≡ Some refusal → BreaksRule about refusal
    by_basis (from_facts facts) rests from begins is =
        let found = map-some (λ (rule : ℕ). Refusal.FactsRule rule) (broken_rule facts from) refusal is in
        let first = first_broken facts from found.0 found.1 in record {
          facts = facts;
          from = from;
          rule = first.rule;
          told = found.2 ∙ ap (λ (n : ℕ). Refusal.FactsRule n) first.numbered;
          rests = rests;
          begins = begins;
          broken = first.broken;
          kept_before = first.kept_before;
        }
    by_basis carried rests from begins is = absurd (cc)
    by_basis nothing rests from begins is = absurd (cc)
