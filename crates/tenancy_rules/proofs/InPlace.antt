-- A record may stand where it stands exactly where the plain facts hold of it.
use Rattle.tenancy_rules.proofs.Words.{◌≡◌, ◌≢◌, ◌∙◌, sym, refl, ap, ℕ, ◌<◌, true, false, List, get_or, Option, Some, None, arith, not, filter, All, Contains, IfSome, IsSomeAnd, false≢true, and_parts, not-false, false_from_ne_true, nat_tests, common_steps, All-contains, latest-is, pairs_order, pairs_order-turned, pair_comes_before, Record, comes_before, NumbersRise, is_transfer, is_move_out, may_follow, has_its_unit, record_before, is_in_order, comes_after, earliest, is_out_of_order, first_out_of_order, Kind}
use Rattle.std.proofs.Common.{◌⊎◌, inl, inr}
use Rattle.std.proofs.lemmas.Bool.{and_from}
use Rattle.tenancy_rules.specs.Order.{may_begin}
use Rattle.tenancy_rules.specs.OrderLaw.{Precedes, IsFirst, IsRightBefore, IsInPlace, OrderIsPlain, MoveOutIsLast, FaultIsFirst}
use Rattle.tenancy_rules.proofs.OrderLaws.{in_order, same_record, neither, nothing_follows_move_out}

-- ---- the order

pub comes : (earlier r : Record) → Precedes earlier r → comes_before earlier r ≡ true
comes earlier r precedes = by_days earlier.from earlier.number r.from r.number precedes
  where
    by_days : (from number other_from other_number : ℕ) → (from < other_from) ⊎ ((from ≡ other_from) × (number < other_number)) →
        pair_comes_before from number other_from other_number ≡ true
    by_days from number other_from other_number (inl sooner) = grind (arith, nat_tests)
    by_days from number other_from other_number (inr (same, less)) = grind (arith, nat_tests)

pub precedes : (earlier r : Record) → comes_before earlier r ≡ true → Precedes earlier r
precedes earlier r before = by_days earlier.from earlier.number r.from r.number before
  where
    by_days : (from number other_from other_number : ℕ) → pair_comes_before from number other_from other_number ≡ true →
        (from < other_from) ⊎ ((from ≡ other_from) × (number < other_number))
    by_days from number other_from other_number before = grind (arith, nat_tests)

module _ (records : List Record) (r : Record) where
  -- the record before it is right before it
  before_is_right : (e : Record) → record_before records r ≡ Some e → IsRightBefore records e r
  before_is_right e is =
      let law = latest-is comes_before (λ q. comes_before q r) records (pairs_order (λ q. q.from) (λ q. q.number)) in
      by_law e (rw is at law.among) (λ other contains before. rw is at (All-contains (λ q. comes_before q r ≡ true → IsSomeAnd (record_before records r) (λ best. comes_before best q ≡ false)) records other law.last contains before))
    where
      by_law : (e : Record) → (Contains records e × (comes_before e r ≡ true)) →
          ((other : Record) → Contains records other → comes_before other r ≡ true → comes_before e other ≡ false) → IsRightBefore records e r
      by_law e among last = record {
        listed = among.0;
        precedes = precedes e r among.1;
        none_between = λ other contains after before. false≢true (sym (last other contains (comes other r before)) ∙ comes e other after);
      }

  -- and where there is none it is the first
  none_is_first : record_before records r ≡ None → IsFirst records r
  none_is_first none other contains before =
      let law = latest-is comes_before (λ q. comes_before q r) records (pairs_order (λ q. q.from) (λ q. q.number)) in
      rw none at (All-contains (λ q. comes_before q r ≡ true → IsSomeAnd (record_before records r) (λ best. comes_before best q ≡ false)) records other law.last contains (comes other r before))

  first_is_none : IsFirst records r → record_before records r ≡ None
  first_is_none first = by_before (record_before records r) refl
    where
      by_before : (before : Option Record) → record_before records r ≡ before → before ≡ None
      by_before None is = refl
      by_before (Some e) is = (let right = before_is_right e is in absurd (first e right.listed right.precedes))

  right_is_before : NumbersRise records → (e : Record) → IsRightBefore records e r → record_before records r ≡ Some e
  right_is_before rise e right = by_before (record_before records r) refl
    where
      by_before : (before : Option Record) → record_before records r ≡ before → before ≡ Some e
      by_before None is = absurd (none_is_first is e right.listed right.precedes)
      by_before (Some p) is =
          let found = before_is_right p is in
          let not_later : comes_before e p ≡ false = false_from_ne_true (comes_before e p) (λ after. right.none_between p found.listed (precedes e p after) found.precedes) in
          let not_sooner : comes_before p e ≡ false = false_from_ne_true (comes_before p e) (λ after. found.none_between e right.listed (precedes p e after) right.precedes) in
          ap Some (same_record records p e rise found.listed right.listed (neither p.from p.number e.from e.number not_sooner not_later))

-- ---- the kinds

begins : (kind : Kind) → may_begin kind ≡ true → (kind ≡ Kind.MI) ⊎ (kind ≡ Kind.IC)
begins Kind.MI is = inl refl
begins Kind.IC is = inr refl
begins _ is = absurd (false≢true is)

begins_so : (kind : Kind) → (kind ≡ Kind.MI) ⊎ (kind ≡ Kind.IC) → may_begin kind ≡ true
begins_so kind (inl is) = rw is refl
begins_so kind (inr is) = rw is refl

-- what the kinds of a record and of the one right before it have to be
pub record Follows (kind next : Kind) : Type 0 where
  pub move_in : next ≢ Kind.MI
  pub initial : next ≡ Kind.IC → kind ≡ Kind.TM
  pub terminated : kind ≡ Kind.TM → (next ≡ Kind.IC) ⊎ (next ≡ Kind.MO)
  pub moved_out : kind ≢ Kind.MO

follows : (kind next : Kind) → may_follow kind next ≡ true → Follows kind next
follows Kind.MO next is = absurd (false≢true is)
follows Kind.TM Kind.IC is = record { move_in = λ e. cc; initial = λ e. refl; terminated = λ e. inl refl; moved_out = λ e. cc }
follows Kind.TM Kind.MO is = record { move_in = λ e. cc; initial = λ e. refl; terminated = λ e. inr refl; moved_out = λ e. cc }
follows Kind.TM _ is = absurd (false≢true is)
follows _ Kind.MI is = absurd (false≢true is)
follows _ Kind.IC is = absurd (false≢true is)
follows _ _ is = record { move_in = λ e. cc; initial = λ e. cc; terminated = λ e. cc; moved_out = λ e. cc }

may_so : (kind next : Kind) → Follows kind next → may_follow kind next ≡ true
may_so Kind.MO next is = absurd (is.moved_out refl)
may_so Kind.TM Kind.IC is = refl
may_so Kind.TM Kind.MO is = refl
may_so Kind.TM _ is = elim (is.terminated refl) [ inl e ↦ cc | inr e ↦ cc ]
may_so _ Kind.MI is = absurd (is.move_in refl)
may_so _ Kind.IC is = (let e = is.initial refl in cc)
may_so _ _ is = refl

transfer_is : (kind : Kind) → kind ≡ Kind.UT → is_transfer kind ≡ true
transfer_is kind is = rw is refl

transfer_not : (kind : Kind) → kind ≢ Kind.UT → is_transfer kind ≡ false
transfer_not Kind.UT not = absurd (not refl)
transfer_not _ not = refl

is_transfer_or : (kind : Kind) → (kind ≡ Kind.UT) ⊎ (kind ≢ Kind.UT)
is_transfer_or Kind.UT = inl refl
is_transfer_or _ = inr (λ e. cc)

-- ---- a record and the one right before it

module _ (records : List Record) (rise : NumbersRise records) (r : Record) where
  pub in_place : is_in_order (record_before records r) r ≡ true → IsInPlace records r
  in_place stands = by_before (record_before records r) refl stands
    where
      by_before : (before : Option Record) → record_before records r ≡ before → is_in_order before r ≡ true → IsInPlace records r
      by_before None is stands =
          let first = none_is_first records r is in
          record {
            first = λ _. begins r.kind stands;
            move_in = λ _. first;
            initial = λ e right _. absurd (first e right.listed right.precedes);
            terminated = λ e right _. absurd (first e right.listed right.precedes);
            moved_out = λ e right _. first e right.listed right.precedes;
            transfer = λ e right _ _. first e right.listed right.precedes;
            unit = λ e right _. absurd (first e right.listed right.precedes);
          }
      by_before (Some p) is stands =
          let parts = and_parts (may_follow p.kind r.kind) (has_its_unit p r) stands in
          let kinds = follows p.kind r.kind parts.0 in
          let same : (e : Record) → IsRightBefore records e r → p ≡ e = λ e right. (let before = right_is_before records r rise e right in cc) in
          let not_first : ¬ IsFirst records r = λ first. (let none = first_is_none records r first in cc) in
          record {
            first = λ first. absurd (not_first first);
            move_in = λ is. absurd (kinds.move_in is);
            initial = λ e right is. rw (← same e right) (kinds.initial is);
            terminated = λ e right is. kinds.terminated (ap (λ (q : Record). q.kind) (same e right) ∙ is);
            moved_out = λ e right is. kinds.moved_out (ap (λ (q : Record). q.kind) (same e right) ∙ is);
            transfer = λ e right is. (let equal = same e right in let transfers = transfer_is r.kind is in grind (arith, nat_tests, common_steps, parts.1));
            unit = λ e right not. (let equal = same e right in let stays = transfer_not r.kind not in grind (arith, nat_tests, common_steps, parts.1));
          }

  pub may_stand : IsInPlace records r → is_in_order (record_before records r) r ≡ true
  may_stand place = by_before (record_before records r) refl
    where
      unit_so : (p : Record) → IsRightBefore records p r → has_its_unit p r ≡ true
      unit_so p right = elim (is_transfer_or r.kind) [
        | inl is ↦ (let transfers = transfer_is r.kind is in let other = place.transfer p right is in grind (arith, nat_tests, common_steps))
        | inr not ↦ (let stays = transfer_not r.kind not in let same = place.unit p right not in grind (arith, nat_tests, common_steps))
      ]

      by_before : (before : Option Record) → record_before records r ≡ before → is_in_order before r ≡ true
      by_before None is = begins_so r.kind (place.first (none_is_first records r is))
      by_before (Some p) is =
          let right = before_is_right records r p is in
          and_from (may_follow p.kind r.kind) (has_its_unit p r)
          (may_so p.kind r.kind (record {
            move_in = λ is. place.move_in is p right.listed right.precedes;
            initial = λ is. place.initial p right is;
            terminated = λ is. place.terminated p right is;
            moved_out = place.moved_out p right;
          })) (unit_so p right)

-- ---- the laws

pub order_is_plain : OrderIsPlain
unfolding is_out_of_order
order_is_plain records rise = (
  λ none k d within. in_place records rise (get_or records k d) (in_order records none k d within),
  λ all. by_first (earliest (filter (is_out_of_order records) records)) refl (latest-is comes_after (is_out_of_order records) records (pairs_order-turned (λ q. q.from) (λ q. q.number))).among all,
)
  where
    by_first : (first : Option Record) → first_out_of_order records ≡ first →
        IfSome first (λ q. Contains records q × (is_out_of_order records q ≡ true)) → All (IsInPlace records) records → first ≡ None
    by_first None is among all = refl
    by_first (Some q) is among all =
        let stands = may_stand records rise q (All-contains (IsInPlace records) records q all among.0) in
        absurd (grind (arith, common_steps, stands, among.1))

pub move_out_is_last : MoveOutIsLast
move_out_is_last records rise none earlier r has_earlier has_r is before =
    let not : is_move_out earlier.kind ≡ false = nothing_follows_move_out records rise none earlier r has_earlier has_r (comes earlier r before) in
    false≢true (sym not ∙ ap is_move_out is)

pub fault_is_first : FaultIsFirst
unfolding is_out_of_order
fault_is_first records rise r fault =
    let law = latest-is comes_after (is_out_of_order records) records (pairs_order-turned (λ q. q.from) (λ q. q.number)) in
    let among : Contains records r × (is_out_of_order records r ≡ true) = rw fault at law.among in (
      among.0,
      λ place. (let stands = may_stand records rise r place in grind (arith, common_steps, stands, among.1)),
      λ other contains before.
          let last : is_out_of_order records other ≡ true → comes_before other r ≡ false =
          rw fault at (All-contains (λ q. is_out_of_order records q ≡ true → IsSomeAnd (first_out_of_order records) (λ best. comes_after best q ≡ false)) records other law.last contains) in
          in_place records rise other
          (not-false _ (false_from_ne_true (is_out_of_order records other) (λ out. false≢true (sym (last out) ∙ comes other r before)))),
    )
