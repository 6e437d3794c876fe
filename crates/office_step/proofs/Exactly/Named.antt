-- 5: a number that names nothing.
use Rattle.std.proofs.Common.{◌≡◌, ◌≢◌, ◌∙◌, sym, ap, refl, ℕ, ◌<◌, inl, inr, arith, Bool, true, false, List, Option, Some, None, ◌⊎◌, length, not, nat_le, eqb, is_some}
use Rattle.std.specs.Prelude.{◌↔◌, Contains}
use Rattle.std.specs.{Option.option_map_or}
use Rattle.std.proofs.lemmas.Bool.{leb-false, lt-leb, and_cases, and_left, and_right, or_parts, or_from, not-false, not_from_true, false≢true, eqb-true, eqb-false, ne_eqb}
use Rattle.std.proofs.lemmas.{List.Folds.list_any_none}
use Rattle.std.proofs.lemmas.List.Elements.{All-contains_itself}
use Rattle.list_laws.proofs.Finds.{find_none, find_holds}
use Rattle.rent_table.specs.{declared.rows.Unit.Unit as UnitRow, Table.unit_at}
use Rattle.rent_table.proofs.FoundLemmas.{no_number}
use Rattle.record_history.specs.declared.records.{Kind.Kind, Record.Record}
use Rattle.tenancy_rules.specs.Changed.{NumbersRise}
use Rattle.wait_list.specs.{declared.applicant.Applicant.Applicant, Waiting.is_listed}
use Rattle.office_step.specs.{declared.refusal.Named.Named, declared.refusal.Refusal.Refusal, Matter.Matter, Matter.Basis, Matter.from_facts, Matter.carried, Matter.nothing, Matter.certifies, Matter.own, Households.record_at, Households.rests_on_facts, Refusals.refused_unless}
use Rattle.office_step.specs.Against.{none_such, is_household, may_be_named, no_such}
use Rattle.office_step.proofs.Exactly.Options.{refused_unless-some, and_then-some, is_some-false, first_two, first_here, first_later, none_stands, stands_none, each, of_each, none-any, risen_key}
use Rattle.office_step.specs.plain.Named.{NamesNoHousehold, NamesNoApplicant, NamesNoUnit, NamesNoRecord, NamesNothing, RestsOnFacts, household, applicant, unit, target, NoSuchIsPlain}

-- ---- one number

none_such-some : (what : Named) (is_there : ℕ → Bool) (named : Option ℕ) (refusal : Refusal) → none_such what is_there named ≡ Some refusal →
    (number : ℕ) × (refusal ≡ Refusal.NoSuch what number) × (named ≡ Some number) × (is_there number ≡ false)
none_such-some what is_there named refusal is =
    let of = and_then-some (λ number. refused_unless (is_there number) (Refusal.NoSuch what number)) named refusal is in
    let has = refused_unless-some (is_there of.0) (Refusal.NoSuch what of.0) refusal of.2 in
    (of.0, has.1, of.1, has.0)

some-none_such : (what : Named) (is_there : ℕ → Bool) (named : Option ℕ) (refusal : Refusal) (number : ℕ) → refusal ≡ Refusal.NoSuch what number → named ≡ Some number →
    is_there number ≡ false → none_such what is_there named ≡ Some refusal
some-none_such what is_there named refusal number told names fails = rw (names, fails, told) refl

-- ---- kinds and bases

pub certifying : (basis : Basis) → certifies basis ≡ true → basis ≢ nothing
certifying basis is same = false≢true (ap certifies (sym same) ∙ is)

pub certifying_from : (basis : Basis) → basis ≢ nothing → certifies basis ≡ true
certifying_from nothing other = absurd (other refl)
certifying_from carried other = refl
certifying_from (from_facts facts) other = refl

rests_not : (r : Record) → rests_on_facts r.kind ≡ false → ¬ RestsOnFacts r
rests_not r fails rests = elim rests [
  | inl is ↦ false≢true (sym fails ∙ ap rests_on_facts is)
  | inr more ↦ elim more [
    | inl is ↦ false≢true (sym fails ∙ ap rests_on_facts is)
    | inr more ↦ elim more [
      | inl is ↦ false≢true (sym fails ∙ ap rests_on_facts is)
      | inr is ↦ false≢true (sym fails ∙ ap rests_on_facts is)
    ]
  ]
]

not_rests : (r : Record) → (¬ RestsOnFacts r) → rests_on_facts r.kind ≡ false
not_rests r never = by_kind r.kind refl
  where
    by_kind : (kind : Kind) → r.kind ≡ kind → rests_on_facts kind ≡ false
    by_kind Kind.MI is = absurd (never (inl is))
    by_kind Kind.IC is = absurd (never (inr (inl is)))
    by_kind Kind.AR is = absurd (never (inr (inr (inl is))))
    by_kind Kind.IR is = absurd (never (inr (inr (inr is))))
    by_kind _ is = refl

-- ---- records by their numbers

pub found_numbered : (own : List Record) (number : ℕ) (r : Record) → NumbersRise own → Contains own r → r.number ≡ number → record_at own number ≡ Some r
found_numbered own number r rise held is = by_found (record_at own number) refl
  where
    by_found : (found : Option Record) → record_at own number ≡ found → record_at own number ≡ Some r
    by_found None none =
        absurd (eqb-false r.number number (each (λ (q : Record). eqb q.number number ≡ false) own (find_none (λ (q : Record). eqb q.number number) own none) r held) is)
    by_found (Some q) some =
        let has = find_holds (λ (q : Record). eqb q.number number) (Contains own) own q some (All-contains_itself own) in
        some ∙ ap Some (risen_key (λ (q : Record). q.number) own rise q r has.0 held (eqb-true q.number number has.1 ∙ sym is))

pub record_found : (own : List Record) (number : ℕ) (r : Record) → record_at own number ≡ Some r → Contains own r × (r.number ≡ number)
record_found own number r some =
    let has = find_holds (λ (q : Record). eqb q.number number) (Contains own) own r some (All-contains_itself own) in
    (has.0, eqb-true r.number number has.1)

-- ---- the four numbers

module _ (about : Matter) where
  household_plain : (refusal : Refusal) → (none_such Named.Household (is_household about.known) about.household ≡ Some refusal) ↔ NamesNoHousehold about refusal
  household_plain refusal = (
    λ is. (let of = none_such-some Named.Household (is_household about.known) about.household refusal is in
        record { household = of.0; told = of.1; names = of.2; not_there = outside of.0 of.3 }),
    λ stands. some-none_such Named.Household (is_household about.known) about.household refusal stands.household stands.told stands.names (fails stands.household stands.not_there),
  )
    where
      outside : (number : ℕ) → is_household about.known number ≡ false → (number ≡ 0) ⊎ (length about.known.households < number)
      outside number is = elim (and_cases (nat_le 1 number) (nat_le number (length about.known.households)) is) [
        | inl low ↦ inl (omega (arith, leb-false 1 number low))
        | inr high ↦ inr (leb-false number (length about.known.households) high)
      ]

      fails : (number : ℕ) → (number ≡ 0) ⊎ (length about.known.households < number) → is_household about.known number ≡ false
      fails number not_there = elim not_there [
        | inl none ↦ and_left (nat_le 1 number) (nat_le number (length about.known.households)) (lt-leb 1 number (omega (arith, none)))
        | inr past ↦ and_right (nat_le 1 number) (nat_le number (length about.known.households)) (lt-leb number (length about.known.households) past)
      ]

  applicant_plain : (refusal : Refusal) → (none_such Named.Applicant (is_listed about.known.waiting) about.applicant ≡ Some refusal) ↔ NamesNoApplicant about refusal
  applicant_plain refusal = (
    λ is. (let of = none_such-some Named.Applicant (is_listed about.known.waiting) about.applicant refusal is in record {
      applicant = of.0;
      told = of.1;
      names = of.2;
      not_there = λ other held. eqb-false other.number of.0 (none-any (λ (a : Applicant). eqb a.number of.0) about.known.waiting of.3 other held);
    }),
    λ stands. some-none_such Named.Applicant (is_listed about.known.waiting) about.applicant refusal stands.applicant stands.told stands.names
        (list_any_none (λ (a : Applicant). eqb a.number stands.applicant) about.known.waiting
        (of_each (λ (a : Applicant). eqb a.number stands.applicant ≡ false) about.known.waiting (λ a held. ne_eqb a.number stands.applicant (stands.not_there a held)))),
  )

  unit_plain : (refusal : Refusal) → (none_such Named.Unit (λ unit. is_some (unit_at about.known.units unit)) about.unit ≡ Some refusal) ↔ NamesNoUnit about refusal
  unit_plain refusal = (
    λ is. (let of = none_such-some Named.Unit (λ unit. is_some (unit_at about.known.units unit)) about.unit refusal is in record {
      unit = of.0;
      told = of.1;
      names = of.2;
      not_there = each (λ (u : UnitRow). u.number ≢ of.0) about.known.units ((no_number about.known.units of.0).0 (is_some-false (unit_at about.known.units of.0) of.3));
    }),
    λ stands. some-none_such Named.Unit (λ unit. is_some (unit_at about.known.units unit)) about.unit refusal stands.unit stands.told stands.names
        (ap is_some ((no_number about.known.units stands.unit).1 (of_each (λ (u : UnitRow). u.number ≢ stands.unit) about.known.units stands.not_there))),
  )

  target_plain : NumbersRise (own about) → (refusal : Refusal) →
      (none_such Named.Record (λ target. option_map_or (may_be_named about) (record_at (own about) target) false) about.target ≡ Some refusal) ↔ NamesNoRecord about refusal
  target_plain rise refusal = (
    λ is. (let of = none_such-some Named.Record (λ target. option_map_or (may_be_named about) (record_at (own about) target) false) about.target refusal is in record {
      target = of.0;
      told = of.1;
      names = of.2;
      not_there = λ r held numbered. not_named r (ap (λ (o : Option Record). option_map_or (may_be_named about) o false) (sym (found_numbered (own about) of.0 r rise held numbered)) ∙ of.3);
    }),
    λ stands. some-none_such Named.Record (λ target. option_map_or (may_be_named about) (record_at (own about) target) false) about.target refusal stands.target stands.told stands.names
        (by_found stands.target stands.not_there (record_at (own about) stands.target) refl),
  )
    where
      not_named : (r : Record) → may_be_named about r ≡ false → (about.basis ≢ nothing) × (¬ RestsOnFacts r)
      not_named r is =
          let parts = or_parts (not (certifies about.basis)) (rests_on_facts r.kind) is in
          (certifying about.basis (not-false (certifies about.basis) parts.0), rests_not r parts.1)

      by_found : (number : ℕ) → ((r : Record) → Contains (own about) r → r.number ≡ number → (about.basis ≢ nothing) × (¬ RestsOnFacts r)) →
          (found : Option Record) → record_at (own about) number ≡ found → option_map_or (may_be_named about) (record_at (own about) number) false ≡ false
      by_found number never None is = rw is refl
      by_found number never (Some r) is =
          let has = record_found (own about) number r is in
          let why = never r has.0 has.1 in
          rw is (or_from (not (certifies about.basis)) (rests_on_facts r.kind) (not_from_true (certifies about.basis) (certifying_from about.basis why.0)) (not_rests r why.1))

pub no_such_is_plain : NoSuchIsPlain
no_such_is_plain about refusal rise = (tells, stands)
  where
    tells : no_such about ≡ Some refusal → NamesNothing about refusal
    tells is = elim (first_two _ _ refusal is) [
      | inl first ↦ household ((household_plain about refusal).0 first)
      | inr more ↦
          let none = none_stands _ (NamesNoHousehold about) (household_plain about) more.0 in
          elim (first_two _ _ refusal more.1) [
            | inl second ↦ applicant ((applicant_plain about refusal).0 second) none
            | inr more ↦
                let no_applicant = none_stands _ (NamesNoApplicant about) (applicant_plain about) more.0 in
                elim (first_two _ _ refusal more.1) [
                  | inl third ↦ unit ((unit_plain about refusal).0 third) none no_applicant
                  | inr more ↦
                      let no_unit = none_stands _ (NamesNoUnit about) (unit_plain about) more.0 in
                      elim (first_two _ _ refusal more.1) [
                        | inl fourth ↦ target ((target_plain about rise refusal).0 fourth) none no_applicant no_unit
                        | inr more ↦ absurd (let none : None ≡ Some refusal = more.1 in cc)
                      ]
                ]
          ]
    ]

    stands : NamesNothing about refusal → no_such about ≡ Some refusal
    stands (household is) = first_here _ _ refusal ((household_plain about refusal).1 is)
    stands (applicant is none) =
        first_later _ _ refusal (stands_none _ (NamesNoHousehold about) (household_plain about) none)
        (first_here _ _ refusal ((applicant_plain about refusal).1 is))
    stands (unit is none no_applicant) =
        first_later _ _ refusal (stands_none _ (NamesNoHousehold about) (household_plain about) none)
        (first_later _ _ refusal (stands_none _ (NamesNoApplicant about) (applicant_plain about) no_applicant)
        (first_here _ _ refusal ((unit_plain about refusal).1 is)))
    stands (target is none no_applicant no_unit) =
        first_later _ _ refusal (stands_none _ (NamesNoHousehold about) (household_plain about) none)
        (first_later _ _ refusal (stands_none _ (NamesNoApplicant about) (applicant_plain about) no_applicant)
        (first_later _ _ refusal (stands_none _ (NamesNoUnit about) (unit_plain about) no_unit)
        (first_here _ _ refusal ((target_plain about rise refusal).1 is))))
