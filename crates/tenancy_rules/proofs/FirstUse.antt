-- The unit of a household on a day, and the first double use, in plain facts.
use Rattle.tenancy_rules.proofs.Words.{◌≡◌, ◌≢◌, ◌∙◌, sym, ap, refl, ℕ, ◌<◌, ◌≤◌, Bool, true, false, List, length, Option, Some, None, arith, ◌==◌, not, nat_le, filter, is_some, option_and_then, Contains, IsSomeAnd, and_parts, false≢true, false_from_ne_true, eqb-false, ne_eqb, not-true, All-contains, latest-is, pairs_order, IsFirst, first-is, Record, Kind, comes_before, latest, live_records, records_of, Change, changed_records, NumbersRise, is_move_out, unit_kept, occupied_unit_on, have_one_unit_on, is_rival_on, first_rival_on, first_rivalry, DoubleUse, use_on, common_steps}
use Rattle.std.proofs.Common.{◌⊎◌, inl, inr}
use Rattle.std.proofs.lemmas.Bool.{and_from, leb-true}
use Rattle.std.proofs.Common.{le-leb, eq-eqb}
use Rattle.tenancy_rules.specs.Occupancy.{first_double_use}
use Rattle.tenancy_rules.specs.UseLaw.{IsLastBy, OccupiedUnitIsPlain, OccupancyIsPlain, IsDoubleUse, DoubleUseIsFirst, NoDoubleUse}
use Rattle.tenancy_rules.proofs.{InPlace.comes, InPlace.precedes, OrderLaws.same_record, OrderLaws.neither, Rivals.first_before-is, Rivals.rivalry, UseLaws.none_found, UseLaws.rival_found, UseLaws.both_have}

-- ---- the unit on a day

not_move_out : (kind : Kind) → is_move_out kind ≡ false → kind ≢ Kind.MO
not_move_out Kind.MO is = absurd (false≢true (sym is))
not_move_out _ is = λ e. cc

is_move_out_or : (kind : Kind) → (kind ≡ Kind.MO) ⊎ ((kind ≢ Kind.MO) × (is_move_out kind ≡ false))
is_move_out_or Kind.MO = inl refl
is_move_out_or _ = inr (λ e. cc, refl)

module _ (records : List Record) (day : ℕ) where
  -- the record that begins last by the day
  abbrev force : Option Record
  force = latest (filter (λ r. nat_le r.from day) records)

  force_is_last : (r : Record) → force ≡ Some r → IsLastBy records day r
  force_is_last r is =
      let law = latest-is comes_before (λ q. nat_le q.from day) records (pairs_order (λ q. q.from) (λ q. q.number)) in
      let among : Contains records r × (nat_le r.from day ≡ true) = rw is at law.among in
      record {
        listed = among.0;
        begun = leb-true r.from day among.1;
        last = λ other contains begun after.
            let behind : comes_before r other ≡ false = rw is at (All-contains (λ q. nat_le q.from day ≡ true → IsSomeAnd force (λ best. comes_before best q ≡ false)) records other law.last contains (le-leb other.from day begun)) in
            false≢true (sym behind ∙ comes r other after);
      }

  none_begun : force ≡ None → (r : Record) → ¬ IsLastBy records day r
  none_begun is r last =
      let law = latest-is comes_before (λ q. nat_le q.from day) records (pairs_order (λ q. q.from) (λ q. q.number)) in
      rw is at (All-contains (λ q. nat_le q.from day ≡ true → IsSomeAnd force (λ best. comes_before best q ≡ false)) records r law.last last.listed (le-leb r.from day last.begun))

  last_is_force : NumbersRise records → (r : Record) → IsLastBy records day r → force ≡ Some r
  last_is_force rise r last = by_force force refl
    where
      by_force : (found : Option Record) → force ≡ found → found ≡ Some r
      by_force None is = absurd (none_begun is r last)
      by_force (Some p) is =
          let first = force_is_last p is in
          ap Some
          (same_record records p r rise first.listed last.listed
          (neither p.from p.number r.from r.number
          (false_from_ne_true (comes_before p r) (λ after. first.last r last.listed last.begun (precedes p r after)))
          (false_from_ne_true (comes_before r p) (λ after. last.last p first.listed first.begun (precedes r p after)))))

  occupied_plain : NumbersRise records → OccupiedUnitIsPlain records day
  occupied_plain rise = record {
    some = λ unit. (λ is. by_force unit force refl is, λ (r, last, stays, of). (let in_force = last_is_force rise r last in rw in_force (kept r unit stays of)));
    none = (λ is r last. (let in_force = last_is_force rise r last in moved r (rw in_force at is)), λ moved_out. by_none moved_out force refl);
  }
    where
      by_force : (unit : ℕ) (found : Option Record) → force ≡ found → option_and_then unit_kept found ≡ Some unit →
          (r : Record) × IsLastBy records day r × (r.kind ≢ Kind.MO) × (r.unit ≡ unit)
      by_force unit None is has = absurd (cc)
      by_force unit (Some r) is has =
          elim (is_move_out_or r.kind) [
            | inl out ↦ absurd (let e : unit_kept r ≡ None = rw out refl in cc)
            | inr (stays, counts) ↦ (r, force_is_last r is, stays, (let e : unit_kept r ≡ Some r.unit = rw counts refl in cc))
          ]

      kept : (r : Record) (unit : ℕ) → r.kind ≢ Kind.MO → r.unit ≡ unit → unit_kept r ≡ Some unit
      kept r unit stays of = elim (is_move_out_or r.kind) [ inl out ↦ absurd (stays out) | inr (_, counts) ↦ rw counts (ap Some of) ]

      moved : (r : Record) → unit_kept r ≡ None → r.kind ≡ Kind.MO
      moved r none = elim (is_move_out_or r.kind) [ inl out ↦ out | inr (_, counts) ↦ absurd (let e : unit_kept r ≡ Some r.unit = rw counts refl in cc) ]

      by_none : ((r : Record) → IsLastBy records day r → r.kind ≡ Kind.MO) → (found : Option Record) → force ≡ found → option_and_then unit_kept found ≡ None
      by_none moved_out None is = refl
      by_none moved_out (Some r) is = (let out = moved_out r (force_is_last r is) in rw out refl)

pub occupancy_is_plain : OccupancyIsPlain
occupancy_is_plain records day rise = occupied_plain records day rise

-- ---- the first double use

module _ (is_rival : ℕ → ℕ → Bool) (count end : ℕ) where
  module _ (rival_on : ℕ → Option ℕ) (rivals : (day : ℕ) → IsFirst (λ other. is_rival other day) 1 count (rival_on day)) where
    -- no rival of the day is less than the one that is found, and none is on an earlier day
    least_among : (found : Option ℕ) → IsFirst (λ day. is_some (rival_on day)) 0 end found → (other day another any : ℕ) → rivalry rival_on found ≡ Some (use_on day other) →
        1 ≤ another → another ≤ count → any < end → is_rival another any ≡ true → (day < any) ⊎ ((day ≡ any) × (other ≤ another))
    least_among found first other day another any some one most before is = grind (arith, common_steps, rivals any)

    -- it is one of the households
    among_households : (found : Option ℕ) → (other day : ℕ) → rivalry rival_on found ≡ Some (use_on day other) → (1 ≤ other) × (other ≤ count)
    among_households found other day some = grind (arith, common_steps, rivals day)

  rival_in_range : (other day : ℕ) → first_rivalry is_rival count end ≡ Some (use_on day other) → (1 ≤ other) × (other ≤ count)
  rival_in_range = among_households (first_rival_on is_rival count) (λ day. first-is (λ other. is_rival other day) 1 count) _

  rival_least : (other day another any : ℕ) → first_rivalry is_rival count end ≡ Some (use_on day other) →
      1 ≤ another → another ≤ count → any < end → is_rival another any ≡ true → (day < any) ⊎ ((day ≡ any) × (other ≤ another))
  rival_least = least_among (first_rival_on is_rival count) (λ day. first-is (λ other. is_rival other day) 1 count) _ (first_before-is end _)

module _ (households : List (List Record)) (household : ℕ) (change : Change) where
  abbrev own : List Record
  own = changed_records (records_of households household) change

  pub rival_is : (other day : ℕ) → IsDoubleUse households household change (use_on day other) → is_rival_on households household change other day ≡ true
  unfolding is_rival_on
  rival_is other day double =
      and_from (not (other == household)) (have_one_unit_on own (live_records (records_of households other)) day)
      (let differ = ne_eqb other household double.another in rw differ refl)
      (rw (double.own, double.others) (eq-eqb double.unit double.unit refl))

  pub double_is : (other day : ℕ) → 1 ≤ other → other ≤ length households → day < 80354 → is_rival_on households household change other day ≡ true →
      IsDoubleUse households household change (use_on day other)
  unfolding is_rival_on
  double_is other day least most by is =
      let parts = and_parts (not (other == household)) (have_one_unit_on own (live_records (records_of households other)) day) is in
      let shared = both_have (occupied_unit_on own day) (occupied_unit_on (live_records (records_of households other)) day) parts.1 in
      record {
        least = least;
        most = most;
        another = eqb-false other household (not-true (other == household) parts.0);
        by = omega arith;
        unit = shared.0;
        own = shared.1;
        others = shared.2;
      }

  abbrev is_rival : ℕ → ℕ → Bool
  is_rival = is_rival_on households household change

  found_is : (other day : ℕ) → first_double_use households household change ≡ Some (use_on day other) → IsDoubleUse households household change (use_on day other)
  found_is other day some =
      let found = rival_found is_rival (length households) 80354 other day some in
      let range = rival_in_range is_rival (length households) 80354 other day some in
      double_is other day range.0 range.1 found.0 found.1

  found_least : (other day : ℕ) → first_double_use households household change ≡ Some (use_on day other) →
      (another any : ℕ) → IsDoubleUse households household change (use_on any another) → (day < any) ⊎ ((day ≡ any) × (other ≤ another))
  found_least other day some another any double =
      rival_least is_rival (length households) 80354 other day another any some double.least double.most (let by = double.by in omega arith) (rival_is another any double)

  none_is : first_double_use households household change ≡ None → (other day : ℕ) → ¬ IsDoubleUse households household change (use_on day other)
  none_is none other day double =
      false≢true
      (sym (none_found is_rival (length households) 80354 none other day double.least double.most (let by = double.by in omega arith))
      ∙ rival_is other day double)

  by_found : (P : Option DoubleUse → Type 0) → (first_double_use households household change ≡ None → P None) →
      ((o d : ℕ) → first_double_use households household change ≡ Some (use_on d o) → P (Some (use_on d o))) → P (first_double_use households household change)
  by_found P of_none of_some = by (first_double_use households household change) refl
    where
      by : (found : Option DoubleUse) → first_double_use households household change ≡ found → P found
      by None is = of_none is
      by (Some double) is = of_some double.household double.day is

same_pair : (o d other day : ℕ) → (d < day) ⊎ ((d ≡ day) × (o ≤ other)) → (day < d) ⊎ ((day ≡ d) × (other ≤ o)) → ◌≡◌ {A = Option DoubleUse} (Some (use_on d o)) (Some (use_on day other))
same_pair o d other day one two =
    let days : d ≡ day = omega (arith, one, two) in
    let households : o ≡ other = omega (arith, one, two) in
    cc

pub double_use_is_first : DoubleUseIsFirst
double_use_is_first households household change first = (
  λ some. (
    found_is households household change first.household first.day some,
    λ any. found_least households household change first.household first.day some any.household any.day,
  ),
  λ (double, least). by_found households household change (λ found. found ≡ Some first)
      (λ none. absurd (none_is households household change none first.household first.day double))
      (λ o d some. same_pair o d first.household first.day (found_least households household change o d some first.household first.day double)
      (least (use_on d o) (found_is households household change o d some))),
)

pub no_double_use : NoDoubleUse
no_double_use households household change = (
  λ none any. none_is households household change none any.household any.day,
  λ never. by_found households household change (λ found. found ≡ None) (λ none. refl)
      (λ o d some. absurd (never (use_on d o) (found_is households household change o d some))),
)
