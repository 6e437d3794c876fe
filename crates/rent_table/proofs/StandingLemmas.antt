-- Which rows set the rents and the income limits of a day, in plain facts.
use Rattle.std.proofs.Common.{◌≡◌, ◌≢◌, ◌∙◌, sym, ap, ℕ, ◌<◌, inl, inr, true, List, get_or, arith}
use Rattle.std.specs.Prelude.{◌↔◌, Some, None, AllPairs, Contains}
use Rattle.std.specs.Option.{option_map}
use Rattle.std.proofs.lemmas.{List.get_or_default, Bool.cases_lt, Bool.eq-eqb, Bool.le-leb, Bool.leb-true, Bool.Decides.nat_tests}
use Rattle.days_core.specs.declared.rents.Rents.{Rents}
use Rattle.list_laws.proofs.Options.{option_map_some, option_map_none}
use Rattle.row_choice.proofs.StandsLemmas.{latest-last, last-latest, latest-none, none-latest}
use Rattle.rent_table.specs.declared.rows.{RentRow.RentRow, LimitRow.LimitRow}
use Rattle.rent_table.specs.Table.{RentActsRise, LimitActsRise, rents_begin_by, limits_begin_by, rent_row_on, rents_on, limits_on}
use Rattle.rent_table.specs.Standing.{SetsRentsBy, SetsRentsOn, SetsLimitsBy, SetsLimitsOn}

-- where no two elements have one key, those of one key are one
pub own_key : {X K : Type 0} (key : X → K) (xs : List X) → AllPairs (λ x y. key x ≢ key y) xs → (x y : X) → Contains xs x → Contains xs y → key x ≡ key y → x ≡ y
own_key key xs own x y (k, within, is) (j, there, that) same =
    elim (cases_lt k j) [
      | inl less ↦ absurd (own k j x less there (ap key is ∙ same ∙ sym (ap key (get_or_default xs j x y there ∙ that))))
      | inr le ↦ elim (cases_lt j k) [
        | inl less ↦ absurd (own j k y less within (ap key that ∙ sym same ∙ sym (ap key (get_or_default xs k y x within ∙ is))))
        | inr ge ↦ let place : k ≡ j = omega arith in sym is ∙ get_or_default xs k x y within ∙ ap (λ (n : ℕ). get_or xs n y) place ∙ that
      ]
    ]

-- and so where keys rise
risen_key : {X : Type 0} (key : X → ℕ) (xs : List X) → AllPairs (λ x y. key x < key y) xs → (x y : X) → Contains xs x → Contains xs y → key x ≡ key y → x ≡ y
risen_key key xs rise = own_key key xs (λ i j d before within same. absurd (omega (arith, rise i j d before within, same)))

module _ (rows : List RentRow) (group day : ℕ) where
  sets_rents : (row : RentRow) → (Contains rows row × (rents_begin_by group day row ≡ true)) ↔ SetsRentsBy rows group day row
  sets_rents row = (
    λ (held, passes). record {
      held = held;
      of_group = grind (arith, nat_tests, passes);
      begun = grind (arith, nat_tests, passes);
    },
    λ sets. (sets.held, rw (eq-eqb row.group group sets.of_group, le-leb row.from day sets.begun)),
  )

  pub no_row_sets_rents : (rents_on rows group day ≡ None) ↔ ((row : RentRow) → ¬ SetsRentsBy rows group day row)
  no_row_sets_rents = (
    λ is. latest-none (λ (row : RentRow). row.from) (λ (row : RentRow). row.act) (rents_begin_by group day) (SetsRentsBy rows group day) rows sets_rents
        (option_map_none (λ (row : RentRow). row.rents) (rent_row_on rows group day) is),
    λ none. ap (option_map (λ (row : RentRow). row.rents))
        (none-latest (λ (row : RentRow). row.from) (λ (row : RentRow). row.act) (rents_begin_by group day) (SetsRentsBy rows group day) rows sets_rents none),
  )

  stands : (row : RentRow) → rent_row_on rows group day ≡ Some row → SetsRentsOn rows group day row
  stands row is =
      let last = latest-last (λ (row : RentRow). row.from) (λ (row : RentRow). row.act) (rents_begin_by group day) (SetsRentsBy rows group day) rows sets_rents row is in
      record { sets = last.counts; begins_last = last.greatest; acted_last = last.then_greatest }

  found : RentActsRise rows → (row : RentRow) → SetsRentsOn rows group day row → rent_row_on rows group day ≡ Some row
  found rise row on =
      last-latest (λ (row : RentRow). row.from) (λ (row : RentRow). row.act) (rents_begin_by group day) (SetsRentsBy rows group day) rows sets_rents
      (λ row other sets its. risen_key (λ (row : RentRow). row.act) rows rise row other sets.held its.held) row
      (record { counts = on.sets; greatest = on.begins_last; then_greatest = on.acted_last })

  pub row_sets_rents : (rents : Rents) → RentActsRise rows →
      (rents_on rows group day ≡ Some rents) ↔ ((row : RentRow) × SetsRentsOn rows group day row × (row.rents ≡ rents))
  row_sets_rents rents rise = (
    λ is. option_map_some (λ (row : RentRow). row.rents) (rent_row_on rows group day) rents is (λ row at same. (row, stands row at, same)),
    λ (row, on, same). ap (option_map (λ (row : RentRow). row.rents)) (found rise row on) ∙ ap Some same,
  )

module _ (rows : List LimitRow) (day : ℕ) where
  sets_limits : (row : LimitRow) → (Contains rows row × (limits_begin_by day row ≡ true)) ↔ SetsLimitsBy rows day row
  sets_limits row = (
    λ (held, passes). record { held = held; begun = leb-true row.from day passes },
    λ sets. (sets.held, le-leb row.from day sets.begun),
  )

  pub no_row_sets_limits : (limits_on rows day ≡ None) ↔ ((row : LimitRow) → ¬ SetsLimitsBy rows day row)
  no_row_sets_limits = (
    latest-none (λ (row : LimitRow). row.from) (λ (row : LimitRow). row.act) (limits_begin_by day) (SetsLimitsBy rows day) rows sets_limits,
    none-latest (λ (row : LimitRow). row.from) (λ (row : LimitRow). row.act) (limits_begin_by day) (SetsLimitsBy rows day) rows sets_limits,
  )

  pub row_sets_limits : (row : LimitRow) → LimitActsRise rows → (limits_on rows day ≡ Some row) ↔ SetsLimitsOn rows day row
  row_sets_limits row rise = (
    λ is. (let last = latest-last (λ (row : LimitRow). row.from) (λ (row : LimitRow). row.act) (limits_begin_by day) (SetsLimitsBy rows day) rows sets_limits row is in
        record { sets = last.counts; begins_last = last.greatest; acted_last = last.then_greatest }),
    λ on. last-latest (λ (row : LimitRow). row.from) (λ (row : LimitRow). row.act) (limits_begin_by day) (SetsLimitsBy rows day) rows sets_limits
        (λ row other sets its. risen_key (λ (row : LimitRow). row.act) rows rise row other sets.held its.held) row
        (record { counts = on.sets; greatest = on.begins_last; then_greatest = on.acted_last }),
  )
