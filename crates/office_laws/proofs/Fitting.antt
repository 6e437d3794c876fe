-- When the record in force and the request of a household make it a mover, in plain facts.
use Rattle.std.proofs.Common.{◌≡◌, ◌≢◌, ◌∙◌, sym, ap, refl, ℕ, zero, suc, ◌<◌, ◌≤◌, inl, inr, arith, true, false, List, [], ◌∷◌, Option, Some, None, ◌&&◌, ◌==◌, not, nat_le, nat_lt}
use Rattle.std.specs.Prelude.{Contains, IfSome, IsSomeAnd, slice_get, slice_index_or}
use Rattle.std.specs.Option.{option_map_or}
use Rattle.std.proofs.lemmas.{Bool.false≢true, Bool.and_parts, Bool.and_from, Bool.not-true, Bool.not_from_false, Bool.eqb-false, Bool.ne_eqb, Bool.leb-true, Bool.le-leb, Bool.ltb-true, Bool.ltb-false, Bool.lt-ltb, Bool.cases_lt, Bool.Decides.nat_tests, List.get_or_default}
use Rattle.std.proofs.lemmas.List.Elements.{All-contains}
use Rattle.row_choice.specs.Latest.{IsRowOrder, IsLatest}
use Rattle.row_choice.proofs.LatestLemmas.{latest-is}
use Rattle.record_history.specs.{declared.records.Kind.Kind, declared.records.Record.Record, Held.AreNumbered, Held.ActsRise, Records.live_records, Records.in_force}
use Rattle.record_history.proofs.ForceLemmas.{numbers_own, one_now}
use Rattle.rent_table.specs.{declared.plan.Bound.Bound, declared.plan.Plan.Plan, declared.rows.Unit.Unit as UnitRow, Admission.suits}
use Rattle.due_dates.specs.Stale.{ends_assistance}
use Rattle.tenancy_rules.specs.Order.{is_transfer}
use Rattle.office_step.specs.{Candidates.newest_transfer, Candidates.would_move, Candidates.would_move_on}
use Rattle.office_step.specs.plain.Counting.{Counts}
use Rattle.office_step.proofs.Exactly.Counting.{lives}
use Rattle.office_laws.specs.Movers.{FitsTo}

-- ---- orders by one number

pub key_order : {X : Type 0} (key : X → ℕ) → IsRowOrder (λ x y. nat_lt (key x) (key y))
key_order key = record { itself = λ row. grind (arith, nat_tests); ahead = λ best row other after not_behind. grind (arith, nat_tests) }

pub key_order-turned : {X : Type 0} (key : X → ℕ) → IsRowOrder (λ x y. nat_lt (key y) (key x))
key_order-turned key = record { itself = λ row. grind (arith, nat_tests); ahead = λ best row other after not_behind. grind (arith, nat_tests) }

-- ---- a request since each transfer

-- of two records that of the lesser number is of no later act
no_later : (own : List Record) → AreNumbered own → ActsRise own → (r other : Record) → Contains own r → Contains own other →
    r.number ≤ other.number → r.act ≤ other.act
no_later own numbered rise r other (k, within, is) (j, there, that) least =
    elim (cases_lt k j) [
      | inl less ↦
          omega (arith, rise k j r less there, ap (λ (q : Record). q.act) is, ap (λ (q : Record). q.act) (get_or_default own j r other there ∙ that))
      | inr ge ↦
          let at_k = numbered.number k r within in
          let at_j = numbered.number j other there in
          let same : r.number ≡ other.number =
          omega (arith, ap (λ (q : Record). q.number) is, ap (λ (q : Record). q.number) that, at_k, at_j, least, ge) in
          omega (arith, ap (λ (q : Record). q.act) (numbers_own own numbered r other (k, within, is) (j, there, that) same))
    ]

transfers : (kind : Kind) → is_transfer kind ≡ true → kind ≡ Kind.UT
transfers Kind.UT is = refl
transfers _ is = absurd (false≢true is)

module _ (own : List Record) (act : ℕ) where
  newest_is : IsLatest (λ (r other : Record). nat_lt r.number other.number) (λ r. is_transfer r.kind) (live_records own) (newest_transfer own)
  newest_is =
      latest-is (λ (r other : Record). nat_lt r.number other.number) (λ r. is_transfer r.kind) (live_records own) (key_order (λ (r : Record). r.number))

  pub since_each : AreNumbered own → ActsRise own → option_map_or (λ r. nat_lt r.act act) (newest_transfer own) true ≡ true →
      (r : Record) → Counts own r → r.kind ≡ Kind.UT → r.act < act
  since_each numbered rise passes r counts is =
      by_newest (newest_transfer own) passes newest_is.among
      (All-contains (λ q. is_transfer q.kind ≡ true → IsSomeAnd (newest_transfer own) (λ best. nat_lt best.number q.number ≡ false)) (live_records own) r
      newest_is.last ((lives own r).1 counts) (ap is_transfer is))
    where
      by_newest : (newest : Option Record) → option_map_or (λ q. nat_lt q.act act) newest true ≡ true →
          IfSome newest (λ best. Contains (live_records own) best × (is_transfer best.kind ≡ true)) →
          IsSomeAnd newest (λ best. nat_lt best.number r.number ≡ false) → r.act < act
      by_newest None passes among behind = absurd behind
      by_newest (Some best) passes among behind =
          omega (
            arith,
            ltb-true best.act act passes,
            no_later own numbered rise r best counts.held ((lives own best).0 among.0).held (ltb-false best.number r.number behind),
          )

  pub each_since : ((r : Record) → Counts own r → r.kind ≡ Kind.UT → r.act < act) → option_map_or (λ r. nat_lt r.act act) (newest_transfer own) true ≡ true
  each_since since = by_newest (newest_transfer own) newest_is.among
    where
      by_newest : (newest : Option Record) → IfSome newest (λ best. Contains (live_records own) best × (is_transfer best.kind ≡ true)) →
          option_map_or (λ q. nat_lt q.act act) newest true ≡ true
      by_newest None among = refl
      by_newest (Some best) among = lt-ltb best.act act (since best ((lives own best).0 among.0) (transfers best.kind among.1))

-- ---- persons

bounds_tell : (bounds : List Bound) (place persons : ℕ) →
    let bound = slice_index_or bounds place (record { least = 1; most = 0 }) in
    (nat_le bound.least persons && nat_le persons bound.most) ≡ true →
    IsSomeAnd (slice_get bounds place) (λ bound. (bound.least ≤ persons) × (persons ≤ bound.most))
bounds_tell [] place persons is = absurd (grind (arith, nat_tests, is))
bounds_tell (bound ∷ bounds) zero persons is =
    let parts = and_parts (nat_le bound.least persons) (nat_le persons bound.most) is in
    (leb-true bound.least persons parts.0, leb-true persons bound.most parts.1)
bounds_tell (bound ∷ bounds) (suc place) persons is = bounds_tell bounds place persons is

bounds_so : (bounds : List Bound) (place persons : ℕ) →
    IsSomeAnd (slice_get bounds place) (λ bound. (bound.least ≤ persons) × (persons ≤ bound.most)) →
    let bound = slice_index_or bounds place (record { least = 1; most = 0 }) in
    (nat_le bound.least persons && nat_le persons bound.most) ≡ true
bounds_so [] place persons is = absurd is
bounds_so (bound ∷ bounds) zero persons is =
    and_from (nat_le bound.least persons) (nat_le persons bound.most) (le-leb bound.least persons is.0) (le-leb persons bound.most is.1)
bounds_so (bound ∷ bounds) (suc place) persons is = bounds_so bounds place persons is

-- ---- the record in force

pub goes_on : (kind : Kind) → kind ≢ Kind.MO → kind ≢ Kind.TM → ends_assistance kind ≡ false
goes_on Kind.MO stays assisted = absurd (stays refl)
goes_on Kind.TM stays assisted = absurd (assisted refl)
goes_on _ stays assisted = refl

module _ (plan : Plan) (unit : UnitRow) (day : ℕ) (own : List Record) (numbered : AreNumbered own) where
  pub fits_to : would_move_on plan unit day own ≡ true → FitsTo plan unit day own
  fits_to passes = by_record (in_force own day) refl passes
    where
      by_record : (found : Option Record) → in_force own day ≡ found → option_map_or (would_move plan unit) found false ≡ true → FitsTo plan unit day own
      by_record None none passes = absurd (false≢true passes)
      by_record (Some r) some passes =
          let parts = and_parts (not (ends_assistance r.kind)) (not (r.unit == unit.number) && suits plan unit r.persons) passes in
          let more = and_parts (not (r.unit == unit.number)) (suits plan unit r.persons) parts.1 in
          let assisted : ends_assistance r.kind ≡ false = not-true (ends_assistance r.kind) parts.0 in record {
            r = r;
            in_force = ((one_now own day numbered).some r).0 some;
            no_move_out = λ is. false≢true (sym assisted ∙ ap ends_assistance is);
            no_termination = λ is. false≢true (sym assisted ∙ ap ends_assistance is);
            elsewhere = eqb-false r.unit unit.number (not-true (r.unit == unit.number) more.0);
            persons = bounds_tell plan.bounds unit.bedrooms r.persons more.1;
          }

  pub to_fit : FitsTo plan unit day own → would_move_on plan unit day own ≡ true
  to_fit at =
      ap (λ (found : Option Record). option_map_or (would_move plan unit) found false) (((one_now own day numbered).some at.r).1 at.in_force)
      ∙ and_from (not (ends_assistance at.r.kind)) (not (at.r.unit == unit.number) && suits plan unit at.r.persons)
      (not_from_false (ends_assistance at.r.kind) (goes_on at.r.kind at.no_move_out at.no_termination))
      (and_from (not (at.r.unit == unit.number)) (suits plan unit at.r.persons)
      (not_from_false (at.r.unit == unit.number) (ne_eqb at.r.unit unit.number at.elsewhere))
      (bounds_so plan.bounds unit.bedrooms at.r.persons at.persons))
