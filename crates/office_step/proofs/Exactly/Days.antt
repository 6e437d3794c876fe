-- 9: days outside their ranges.
use Rattle.std.proofs.Common.{◌≡◌, ◌∙◌, ap, refl, ℕ, inl, inr, arith, Bool, true, false, Some, None, ◌&&◌, nat_le}
use Rattle.std.specs.Prelude.{◌↔◌, option_and_then}
use Rattle.std.proofs.lemmas.{Bool.leb-true, Bool.leb-false, Bool.le-leb, Bool.lt-leb, Bool.and_parts, Bool.and_from, Bool.and_cases, Bool.and_left, Bool.and_right}
use Rattle.days_core.specs.OfficeDays.{first_office_day, last_office_day}
use Rattle.record_history.specs.declared.records.Dates.{Dates}
use Rattle.office_step.specs.{declared.refusal.Refusal.Refusal, Matter.Matter, Refusals.refused_unless, Refusals.first_of, Against.last_day_lived, Against.plan_day, Against.outside, Against.told_days, Against.day_range}
use Rattle.office_step.proofs.Exactly.{Options.refused_unless-some, Options.refused_unless-from, Options.and_then-some, Options.and_then-from, Options.first_two, Options.first_here, Options.first_later, Options.none_stands, Options.stands_none, Closing.its_plan_day, Closing.one_plan_day}
use Rattle.office_step.specs.plain.Days.{IsOutside, IsInside, SetsOutside, ToldOutside, event, notice, done, BeginsOutside, EndsOutside, TellsOutside, sets, tells, begins, ends, DayRangeIsPlain}

-- ---- one day

outside-some : (first last day : ℕ) (refusal : Refusal) → outside first last day ≡ Some refusal → IsOutside first last day × (refusal ≡ Refusal.DayRange first last)
outside-some first last day refusal is =
    let has = refused_unless-some (nat_le first day && nat_le day last) (Refusal.DayRange first last) refusal is in (
      elim (and_cases (nat_le first day) (nat_le day last) has.0) [
        | inl low ↦ inl (leb-false first day low)
        | inr high ↦ inr (leb-false day last high)
      ],
      has.1,
    )

outside-from : (first last day : ℕ) (refusal : Refusal) → IsOutside first last day → refusal ≡ Refusal.DayRange first last → outside first last day ≡ Some refusal
outside-from first last day refusal out told = refused_unless-from (nat_le first day && nat_le day last) (Refusal.DayRange first last) refusal (fails out) told
  where
    fails : IsOutside first last day → (nat_le first day && nat_le day last) ≡ false
    fails (inl low) = and_left (nat_le first day) (nat_le day last) (lt-leb first day low)
    fails (inr high) = and_right (nat_le first day) (nat_le day last) (lt-leb day last high)

inside-none : (first last day : ℕ) → outside first last day ≡ None → IsInside first last day
inside-none first last day none = by_test (nat_le first day && nat_le day last) refl none
  where
    by_test : (b : Bool) → (nat_le first day && nat_le day last) ≡ b → refused_unless b (Refusal.DayRange first last) ≡ None → IsInside first last day
    by_test true is none = let parts = and_parts (nat_le first day) (nat_le day last) is in (leb-true first day parts.0, leb-true day last parts.1)
    by_test false is none = absurd (cc)

none-inside : (first last day : ℕ) → IsInside first last day → outside first last day ≡ None
none-inside first last day within =
    ap (λ (b : Bool). refused_unless b (Refusal.DayRange first last)) (and_from (nat_le first day) (nat_le day last) (le-leb first day within.0) (le-leb day last within.1))

-- ---- the days of a change

module _ (today : ℕ) (about : Matter) (refusal : Refusal) where
  told_first : (dates : Dates) → about.told ≡ Some dates → first_of (told_days today dates) ≡ Some refusal → ToldOutside today about refusal
  told_first dates dated is = elim (first_two _ _ refusal is) [
    | inl first ↦ (let has = outside-some first_office_day today dates.event refusal first in event dates dated has.0 has.1)
    | inr more ↦
        let within = inside-none first_office_day today dates.event more.0 in
        elim (first_two _ _ refusal more.1) [
          | inl second ↦ (let has = outside-some dates.event today dates.notice refusal second in notice dates dated within has.0 has.1)
          | inr more ↦
              let within_too = inside-none dates.event today dates.notice more.0 in
              elim (first_two _ _ refusal more.1) [
                | inl third ↦ (let has = outside-some dates.notice today dates.done refusal third in done dates dated within within_too has.0 has.1)
                | inr more ↦ absurd (let none : None ≡ Some refusal = more.1 in cc)
              ]
        ]
  ]

  from_told : ToldOutside today about refusal → (dates : Dates) × (about.told ≡ Some dates) × (first_of (told_days today dates) ≡ Some refusal)
  from_told (event dates dated out told) = (dates, dated, first_here _ _ refusal (outside-from first_office_day today dates.event refusal out told))
  from_told (notice dates dated within out told) = (
    dates,
    dated,
    first_later _ _ refusal (none-inside first_office_day today dates.event within)
        (first_here _ _ refusal (outside-from dates.event today dates.notice refusal out told)),
  )
  from_told (done dates dated within within_too out told) = (
    dates,
    dated,
    first_later _ _ refusal (none-inside first_office_day today dates.event within)
        (first_later _ _ refusal (none-inside dates.event today dates.notice within_too)
        (first_here _ _ refusal (outside-from dates.notice today dates.done refusal out told))),
  )

-- ---- the four

module _ (today : ℕ) (about : Matter) where
  sets_plain : (refusal : Refusal) → (option_and_then (outside first_office_day last_office_day) about.sets_from ≡ Some refusal) ↔ SetsOutside about refusal
  sets_plain refusal = (
    λ is. (let of = and_then-some (outside first_office_day last_office_day) about.sets_from refusal is in
        let has = outside-some first_office_day last_office_day of.0 refusal of.2 in
        record { day = of.0; told = has.1; sets = of.1; outside = has.0 }),
    λ at. and_then-from (outside first_office_day last_office_day) about.sets_from at.day refusal at.sets (outside-from first_office_day last_office_day at.day refusal at.outside at.told),
  )

  told_plain : (refusal : Refusal) → (option_and_then (λ dates. first_of (told_days today dates)) about.told ≡ Some refusal) ↔ ToldOutside today about refusal
  told_plain refusal = (
    λ is. (let of = and_then-some (λ (dates : Dates). first_of (told_days today dates)) about.told refusal is in told_first today about refusal of.0 of.1 of.2),
    λ at. (let of = from_told today about refusal at in and_then-from (λ (dates : Dates). first_of (told_days today dates)) about.told of.0 refusal of.1 of.2),
  )

  begins_plain : (refusal : Refusal) → (option_and_then (outside (plan_day about.known) last_office_day) about.from ≡ Some refusal) ↔ BeginsOutside about refusal
  begins_plain refusal = (
    λ is. (let of = and_then-some (outside (plan_day about.known) last_office_day) about.from refusal is in
        let has = outside-some (plan_day about.known) last_office_day of.0 refusal of.2 in
        record { first = plan_day about.known; day = of.0; told = has.1; plan_day = its_plan_day about.known; begins = of.1; outside = has.0 }),
    λ at. and_then-from (outside (plan_day about.known) last_office_day) about.from at.day refusal at.begins
        (ap (λ (first : ℕ). outside first last_office_day at.day) (one_plan_day about.known at.first at.plan_day) ∙ outside-from at.first last_office_day at.day refusal at.outside at.told),
  )

  ends_plain : (refusal : Refusal) → (option_and_then (outside (plan_day about.known) last_day_lived) about.last ≡ Some refusal) ↔ EndsOutside about refusal
  ends_plain refusal = (
    λ is. (let of = and_then-some (outside (plan_day about.known) last_day_lived) about.last refusal is in
        let has = outside-some (plan_day about.known) last_day_lived of.0 refusal of.2 in record {
          first = plan_day about.known;
          latest = last_day_lived;
          day = of.0;
          told = has.1;
          plan_day = its_plan_day about.known;
          the_last_but_one = refl;
          ends = of.1;
          outside = has.0;
        }),
    λ at. (let latest : last_day_lived ≡ at.latest = omega (arith, at.the_last_but_one) in
        and_then-from (outside (plan_day about.known) last_day_lived) about.last at.day refusal at.ends
        (ap (λ (first : ℕ). outside first last_day_lived at.day) (one_plan_day about.known at.first at.plan_day)
        ∙ ap (λ (last : ℕ). outside at.first last at.day) latest ∙ outside-from at.first at.latest at.day refusal at.outside at.told)),
  )

pub day_range_is_plain : DayRangeIsPlain
day_range_is_plain today about refusal = (finds, stands)
  where
    finds : day_range today about ≡ Some refusal → TellsOutside today about refusal
    finds is = elim (first_two _ _ refusal is) [
      | inl first ↦ sets ((sets_plain today about refusal).0 first)
      | inr more ↦
          let none = none_stands _ (SetsOutside about) (sets_plain today about) more.0 in
          elim (first_two _ _ refusal more.1) [
            | inl second ↦ tells ((told_plain today about refusal).0 second) none
            | inr more ↦
                let none_told = none_stands _ (ToldOutside today about) (told_plain today about) more.0 in
                elim (first_two _ _ refusal more.1) [
                  | inl third ↦ begins ((begins_plain today about refusal).0 third) none none_told
                  | inr more ↦
                      let none_begins = none_stands _ (BeginsOutside about) (begins_plain today about) more.0 in
                      elim (first_two _ _ refusal more.1) [
                        | inl fourth ↦ ends ((ends_plain today about refusal).0 fourth) none none_told none_begins
                        | inr more ↦ absurd (let none : None ≡ Some refusal = more.1 in cc)
                      ]
                ]
          ]
    ]

    stands : TellsOutside today about refusal → day_range today about ≡ Some refusal
    stands (sets is) = first_here _ _ refusal ((sets_plain today about refusal).1 is)
    stands (tells is none) =
        first_later _ _ refusal (stands_none _ (SetsOutside about) (sets_plain today about) none)
        (first_here _ _ refusal ((told_plain today about refusal).1 is))
    stands (begins is none none_told) =
        first_later _ _ refusal (stands_none _ (SetsOutside about) (sets_plain today about) none)
        (first_later _ _ refusal (stands_none _ (ToldOutside today about) (told_plain today about) none_told)
        (first_here _ _ refusal ((begins_plain today about refusal).1 is)))
    stands (ends is none none_told none_begins) =
        first_later _ _ refusal (stands_none _ (SetsOutside about) (sets_plain today about) none)
        (first_later _ _ refusal (stands_none _ (ToldOutside today about) (told_plain today about) none_told)
        (first_later _ _ refusal (stands_none _ (BeginsOutside about) (begins_plain today about) none_begins)
        (first_here _ _ refusal ((ends_plain today about refusal).1 is))))
