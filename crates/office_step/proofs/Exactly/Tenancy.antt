-- 14 and 17: the order of records, and who has a unit.
use Rattle.std.proofs.Common.{◌≡◌, ◌≢◌, ◌∙◌, sym, ap, refl, ℕ, ◌+◌, ◌<◌, inl, inr, arith, Bool, true, false, List, [], Option, Some, None, ◌||◌, not, eqb, if◌then◌else◌, is_some}
use Rattle.std.specs.Prelude.{◌↔◌, Contains, IfSome, option_and_then}
use Rattle.std.proofs.lemmas.{Bool.false≢true, Bool.false_from_ne_true, Bool.cond_both, Bool.not-true, Bool.not_from_false, Bool.or_cases, Bool.or_left, Bool.or_right, Bool.eqb-false, Bool.ne_eqb}
use Rattle.std.proofs.lemmas.List.Kept.{AllPairs-filter}
use Rattle.std.proofs.lemmas.List.Elements.{Contains-append_cases, Contains-append_left, Contains-append_right, Contains-push_cases}
use Rattle.list_laws.proofs.{Filters.Contains-filter, Filters.filter-contains}
use Rattle.record_history.specs.{declared.records.Kind.Kind, declared.records.Record.Record, Records.is_withdrawal, Records.is_live, Records.live_records, Records.newest_number}
use Rattle.tenancy_rules.specs.{declared.occupancy.DoubleUse.DoubleUse, Changed.without, Changed.listed, Changed.changed_records, Changed.AddsNext, Changed.NumbersRise, Order.record_before, Order.is_in_order, Order.first_out_of_order, OrderLaw.IsFirst, OrderLaw.IsRightBefore, OrderLaw.IsInPlace, UseLaw.IsDoubleUse, Occupancy.occupied_unit_on, Occupancy.first_double_use}
unfoldable use Rattle.tenancy_rules.specs.Order.{is_out_of_order}
use Rattle.tenancy_rules.proofs.{Numbers.rise, Numbers.changed-rise, InPlace.in_place, InPlace.may_stand, FirstUse.occupancy_is_plain, FirstUse.double_use_is_first}
use Rattle.office_step.specs.{declared.refusal.Refusal.Refusal, Known.Known, Known.own_in, Households.change_by, Matter.Matter, Against.out_of_order, Against.may_collide, Against.taken, Against.unit_taken}
use Rattle.office_step.specs.Made.{made_on, heading_in, record_in}
use Rattle.office_step.proofs.Headed.{next_under, under}
use Rattle.office_step.proofs.Exactly.{Options.and_then-some, Options.and_then-from, Options.map-some, Options.map-from, Options.risen_key, Counting.lives, Counting.first_one}
use Rattle.office_step.specs.plain.Counting.{AreInTurn, AllInTurn, Counts, IsFirstOf}
use Rattle.office_step.specs.plain.Tenancy.{WouldCount, IsOutOfPlace, DisorderIsPlain, HasUnitOn, WouldShare, MayMove, GivesUnitTwice, UnitTakenIsPlain}

-- ---- the act's record is the next of its household

next_number : (about : Matter) (made : Record) → record_in about ≡ Some made → made.number ≡ newest_number (own_in about.known made.household) + 1
next_number about made is =
    let headed = and_then-some (made_on about.known about.basis) (heading_in about) made is in
    (next_under about.known headed.0 made (under about.known about.basis headed.0 made headed.2)).number

-- ---- the records that would count

module _ (own : List Record) (made : Record) (kept : AreInTurn own) (next : made.number ≡ newest_number own + 1) where
  abbrev changed : List Record
  changed = changed_records own (change_by made)

  adds_next : AddsNext own made.household (change_by made)
  adds_next =
      cond_both (is_withdrawal made.kind) None (Some made) (λ (add : Option Record). IfSome add (λ r. (r.household ≡ made.household) × (r.number ≡ newest_number own + 1)))
      (λ _. tt) (λ _. (refl, next))

  changed_rise : NumbersRise changed
  changed_rise = changed-rise own made.household (change_by made) kept.numbered adds_next

  its_own : (a b : Record) → Contains changed a → Contains changed b → a.number ≡ b.number → a ≡ b
  its_own = risen_key (λ (r : Record). r.number) changed changed_rise

  withdraws : made.kind ≡ Kind.WD → is_withdrawal made.kind ≡ true
  withdraws is = ap is_withdrawal is

  is_one : (kind : Kind) → is_withdrawal kind ≡ true → kind ≡ Kind.WD
  is_one Kind.WD is = refl
  is_one _ is = absurd (false≢true is)

  stays : (r : Record) → Contains (without made.corrects (live_records own)) r ↔ (Counts own r × (r.number ≢ made.corrects))
  stays r = (
    λ held.
        (let has = filter-contains (λ (r : Record). not (eqb r.number made.corrects)) (live_records own) r held in
        ((lives own r).0 has.0, eqb-false r.number made.corrects (not-true (eqb r.number made.corrects) has.1))),
    λ (counts, other).
        Contains-filter (λ (r : Record). not (eqb r.number made.corrects)) (live_records own) r ((lives own r).1 counts) (not_from_false (eqb r.number made.corrects) (ne_eqb r.number made.corrects other)),
  )

  added : (r : Record) → Contains (listed (change_by made).add) r ↔ ((made.kind ≢ Kind.WD) × (r ≡ made))
  added r = by_kind (is_withdrawal made.kind) refl
    where
      by_kind : (withdrawn : Bool) → is_withdrawal made.kind ≡ withdrawn →
          Contains (listed (if withdrawn then None else Some made)) r ↔ ((made.kind ≢ Kind.WD) × (r ≡ made))
      by_kind true is = (λ held. absurd (omega (arith, held.1)), λ (other, same). absurd (other (is_one made.kind is)))
      by_kind false is = (
        λ held. (
          λ withdrawn. false≢true (sym is ∙ withdraws withdrawn),
          elim (Contains-push_cases [] made r held) [
            | inl none ↦ absurd (omega (arith, none.1))
            | inr same ↦ sym same
          ],
        ),
        λ (other, same). (0, omega arith, sym same),
      )

  pub would_count : (r : Record) → Contains changed r ↔ WouldCount own made r
  would_count r = (
    λ held. elim (Contains-append_cases (without made.corrects (live_records own)) (listed (change_by made).add) r held) [
      | inl old ↦ inl ((stays r).0 old)
      | inr new ↦ inr ((added r).0 new)
    ],
    λ would. elim would [
      | inl old ↦ Contains-append_left (without made.corrects (live_records own)) (listed (change_by made).add) r ((stays r).1 old)
      | inr new ↦ Contains-append_right (without made.corrects (live_records own)) (listed (change_by made).add) r ((added r).1 new)
    ],
  )

  -- ---- places

  pub out_of_place : (r : Record) → (Contains changed r × (is_out_of_order changed r ≡ true)) ↔ IsOutOfPlace changed r
  unfolding is_out_of_order
  out_of_place r = (
    λ (held, out). (held, λ place. false≢true (sym (not-true (is_in_order (record_before changed r) r) out) ∙ may_stand changed changed_rise r place)),
    λ (held, nowhere). (
      held,
      not_from_false (is_in_order (record_before changed r) r)
          (false_from_ne_true (is_in_order (record_before changed r) r) (λ stands. nowhere (in_place changed changed_rise r stands))),
    ),
  )

  pub first_fault : (r : Record) → (first_out_of_order changed ≡ Some r) ↔ IsFirstOf (IsOutOfPlace changed) r
  first_fault r = first_one changed its_own (is_out_of_order changed) (IsOutOfPlace changed) out_of_place r

-- ---- lists of the same records

module _ (one other : List Record) (to : (r : Record) → Contains one r → Contains other r) (back : (r : Record) → Contains other r → Contains one r) where
  first_back : (r : Record) → IsFirst other r → IsFirst one r
  first_back r first q held = first q (to q held)

  first_to : (r : Record) → IsFirst one r → IsFirst other r
  first_to r first q held = first q (back q held)

  right_back : (earlier r : Record) → IsRightBefore other earlier r → IsRightBefore one earlier r
  right_back earlier r right = record {
    listed = back earlier right.listed;
    precedes = right.precedes;
    none_between = λ q held. right.none_between q (to q held);
  }

  pub same_place : (r : Record) → IsInPlace one r → IsInPlace other r
  same_place r at = record {
    first = λ first. at.first (first_back r first);
    move_in = λ is. first_to r (at.move_in is);
    initial = λ earlier right. at.initial earlier (right_back earlier r right);
    terminated = λ earlier right. at.terminated earlier (right_back earlier r right);
    moved_out = λ earlier right. at.moved_out earlier (right_back earlier r right);
    transfer = λ earlier right. at.transfer earlier (right_back earlier r right);
    unit = λ earlier right. at.unit earlier (right_back earlier r right);
  }

pub same_fault : (one other : List Record) → ((r : Record) → Contains one r → Contains other r) → ((r : Record) → Contains other r → Contains one r) →
    (r : Record) → IsFirstOf (IsOutOfPlace one) r → IsFirstOf (IsOutOfPlace other) r
same_fault one other to back r at = record {
  one = (to r at.one.0, λ place. at.one.1 (same_place other one back to r place));
  first = λ q out. at.first q (back q out.0, λ place. out.1 (same_place one other to back q place));
}

-- ---- 14

pub disorder_is_plain : DisorderIsPlain
disorder_is_plain about refusal kept = (
  λ is. (let names = and_then-some (λ (household : ℕ). option_and_then (λ made. out_of_order (own_in about.known made.household) (change_by made)) (record_in about)) about.household refusal is in
      let makes = and_then-some (λ (made : Record). out_of_order (own_in about.known made.household) (change_by made)) (record_in about) refusal names.2 in
      let made : Record = makes.0 in
      let its : AreInTurn (own_in about.known made.household) = kept made.household in
      let next = next_number about made makes.1 in
      let found = map-some (λ (r : Record). Refusal.Disorder r.number) (first_out_of_order (changed_records (own_in about.known made.household) (change_by made))) refusal makes.2 in record {
        household = names.0;
        made = made;
        records = changed_records (own_in about.known made.household) (change_by made);
        r = found.0;
        told = found.2;
        names = names.1;
        makes = makes.1;
        would_count = would_count (own_in about.known made.household) made its next;
        first = (first_fault (own_in about.known made.household) made its next found.0).0 found.1;
      }),
  λ at. (let its : AreInTurn (own_in about.known at.made.household) = kept at.made.household in
      let next = next_number about at.made at.makes in
      let would = would_count (own_in about.known at.made.household) at.made its next in
      let first = same_fault at.records (changed_records (own_in about.known at.made.household) (change_by at.made)) (λ q held. (would q).1 ((at.would_count q).0 held)) (λ q held. (at.would_count q).1 ((would q).0 held)) at.r at.first in
      and_then-from (λ (household : ℕ). option_and_then (λ made. out_of_order (own_in about.known made.household) (change_by made)) (record_in about)) about.household at.household refusal at.names
      (and_then-from (λ (made : Record). out_of_order (own_in about.known made.household) (change_by made)) (record_in about) at.made refusal at.makes
      (map-from (λ (r : Record). Refusal.Disorder r.number) (first_out_of_order (changed_records (own_in about.known at.made.household) (change_by at.made))) at.r refusal
      ((first_fault (own_in about.known at.made.household) at.made its next at.r).1 first) at.told))),
)

-- ---- 17

-- who has a unit, by a list of these records
module _ (records : List Record) (rises : NumbersRise records) (IsOne : Record → Type 0) (are : (r : Record) → Contains records r ↔ IsOne r) (day unit : ℕ) where
  pub has_unit : occupied_unit_on records day ≡ Some unit → HasUnitOn IsOne day unit
  has_unit is =
      let by = ((occupancy_is_plain records day rises).some unit).0 is in record {
        r = by.0;
        last = record { one = ((are by.0).0 by.1.listed, by.1.begun); last = λ other one. by.1.last other ((are other).1 one.0) one.1 };
        no_move_out = by.2;
        its = by.3;
      }

  pub unit_had : HasUnitOn IsOne day unit → occupied_unit_on records day ≡ Some unit
  unit_had at =
      ((occupancy_is_plain records day rises).some unit).1
      (at.r, record { listed = (are at.r).1 at.last.one.0; begun = at.last.one.1; last = λ other held by. at.last.last other ((are other).0 held, by) }, at.no_move_out, at.its)

module _ (known : Known) (kept : AllInTurn known) (made : Record) (next : made.number ≡ newest_number (own_in known made.household) + 1) where
  abbrev own : List Record
  own = own_in known made.household

  abbrev double : DoubleUse → Type 0
  double found = IsDoubleUse known.households made.household (change_by made) found

  its_kept : (household : ℕ) → AreInTurn (own_in known household)
  its_kept household = kept household

  live_rise : (household : ℕ) → NumbersRise (live_records (own_in known household))
  live_rise household = kept-live (own_in known household) (rise (own_in known household) (its_kept household).numbered)
    where
      kept-live : (records : List Record) → NumbersRise records → NumbersRise (live_records records)
      kept-live records rises = AllPairs-filter (λ (r other : Record). r.number < other.number) (is_live records) records rises

  would_share : (found : DoubleUse) → double found → WouldShare known made found.day found.household
  would_share found is = record {
    least = is.least;
    most = is.most;
    another = is.another;
    by = is.by;
    unit = is.unit;
    own = has_unit (changed_records own (change_by made)) (changed_rise own made (its_kept made.household) next) (WouldCount own made) (would_count own made (its_kept made.household) next) found.day is.unit is.own;
    others = has_unit (live_records (own_in known found.household)) (live_rise found.household) (Counts (own_in known found.household)) (lives (own_in known found.household)) found.day is.unit is.others;
  }

  is_double : (found : DoubleUse) → WouldShare known made found.day found.household → double found
  is_double found at = record {
    least = at.least;
    most = at.most;
    another = at.another;
    by = at.by;
    unit = at.unit;
    own = unit_had (changed_records own (change_by made)) (changed_rise own made (its_kept made.household) next) (WouldCount own made) (would_count own made (its_kept made.household) next) found.day at.unit at.own;
    others = unit_had (live_records (own_in known found.household)) (live_rise found.household) (Counts (own_in known found.household)) (lives (own_in known found.household)) found.day at.unit at.others;
  }

some_is : {A : Type 0} (o : Option A) → is_some o ≡ true → (x : A) × (o ≡ Some x)
some_is None is = absurd (false≢true is)
some_is (Some x) is = (x, refl)

may_move : (about : Matter) → may_collide about ≡ true → MayMove about
may_move about is = elim (or_cases (is_some about.unit) (is_some about.target || about.begins) is) [
  | inl unit ↦ inl (some_is about.unit unit)
  | inr more ↦ elim (or_cases (is_some about.target) about.begins more) [
    | inl target ↦ inr (inl (some_is about.target target))
    | inr begins ↦ inr (inr begins)
  ]
]

moves_so : (about : Matter) → MayMove about → may_collide about ≡ true
moves_so about (inl (unit, is)) = or_left (is_some about.unit) (is_some about.target || about.begins) (ap is_some is)
moves_so about (inr (inl (target, is))) =
    or_right (is_some about.unit) (is_some about.target || about.begins) (or_left (is_some about.target) about.begins (ap is_some is))
moves_so about (inr (inr begins)) = or_right (is_some about.unit) (is_some about.target || about.begins) (or_right (is_some about.target) about.begins begins)

pub unit_taken_is_plain : UnitTakenIsPlain
unit_taken_is_plain about refusal kept = (λ is. by_test (may_collide about) refl is, stands)
  where
    by_test : (may : Bool) → may_collide about ≡ may →
        (if may then option_and_then (λ made. taken about.known.households made.household (change_by made)) (record_in about) else None) ≡ Some refusal → GivesUnitTwice about refusal
    by_test false may is = absurd (cc)
    by_test true may is =
        let makes = and_then-some (λ (made : Record). taken about.known.households made.household (change_by made)) (record_in about) refusal is in
        let made : Record = makes.0 in
        let next = next_number about made makes.1 in
        let found = map-some (λ (found : DoubleUse). Refusal.UnitTaken found.household found.day) (first_double_use about.known.households made.household (change_by made)) refusal makes.2 in
        let double : DoubleUse = found.0 in
        let first = (double_use_is_first about.known.households made.household (change_by made) double).0 found.1 in record {
          made = made;
          household = double.household;
          day = double.day;
          told = found.2;
          may_move = may_move about may;
          makes = makes.1;
          shares = would_share about.known kept made next double first.0;
          first = λ other its_day shares. first.1 (record { household = other; day = its_day }) (is_double about.known kept made next (record { household = other; day = its_day }) shares);
        }

    stands : GivesUnitTwice about refusal → unit_taken about ≡ Some refusal
    stands at =
        let next = next_number about at.made at.makes in
        let double : DoubleUse = record { household = at.household; day = at.day } in
        let found = (double_use_is_first about.known.households at.made.household (change_by at.made) double).1
        (is_double about.known kept at.made next double at.shares, λ any is. at.first any.household any.day (would_share about.known kept at.made next any is)) in
        ap (λ (b : Bool). if b then option_and_then (λ made. taken about.known.households made.household (change_by made)) (record_in about) else None) (moves_so about at.may_move)
        ∙ and_then-from (λ (made : Record). taken about.known.households made.household (change_by made)) (record_in about) at.made refusal at.makes
        (map-from (λ (found : DoubleUse). Refusal.UnitTaken found.household found.day) (first_double_use about.known.households at.made.household (change_by at.made)) double refusal found at.told)
