-- A record for the unit of the record before it, and a move-out, bring a household to no other unit.
use Rattle.office_laws.proofs.Words.{◌≡◌, refl, subst, ℕ, ◌≤◌, arith, Bool, true, false, List, [], ◌∷◌, ◌++◌, Option, Some, None, IfSome, IsSomeAnd, filter, if◌then◌else◌, option_and_then, nat_le, and_parts, leb-true, nat_tests, append-nil, All-contains, Contains-push, filter-append, pair_comes_before, IsLatest, latest-is, pairs_order, Record, comes_before, later, latest, NumbersRise, may_begin, is_transfer, is_move_out, record_before, is_in_order, first_out_of_order, unit_kept, occupied_unit_on, common_steps}
use Rattle.tenancy_rules.proofs.OrderLaws.{in_order, same_record, neither, followed}

abbrev pub has_begun : ℕ → Record → Bool
has_begun day r = nat_le r.from day

-- ---- one record more

pub latest-more : (live : List Record) (r : Record) (day : ℕ) →
    latest (filter (has_begun day) (live ++ r ∷ [])) ≡
    (if nat_le r.from day then later (latest (filter (has_begun day) live)) r else latest (filter (has_begun day) live))
latest-more live r day = grind (arith, common_steps, append-nil, filter-append (has_begun day) live (r ∷ []))

-- Where the household has a unit with the record more, it is the unit that it had, or the record itself is in force, in the
-- place of the one that was.
had_by : (begins : Bool) (was : Option Record) (r : Record) (unit : ℕ) → option_and_then unit_kept (if begins then later was r else was) ≡ Some unit →
    (begins ≡ true → unit_kept r ≡ Some unit → IfSome was (λ q. comes_before q r ≡ true) → option_and_then unit_kept was ≡ Some unit) →
    option_and_then unit_kept was ≡ Some unit
had_by false was r unit on instead = on
had_by true None r unit on instead = instead refl on tt
had_by true (Some q) r unit on instead = grind (arith, common_steps, on, instead refl)

had : (live : List Record) (r : Record) (day unit : ℕ) → occupied_unit_on (live ++ r ∷ []) day ≡ Some unit →
    (r.from ≤ day → unit_kept r ≡ Some unit → IfSome (latest (filter (has_begun day) live)) (λ q. comes_before q r ≡ true) →
    occupied_unit_on live day ≡ Some unit) → occupied_unit_on live day ≡ Some unit
had live r day unit on instead =
    had_by (nat_le r.from day) (latest (filter (has_begun day) live)) r unit (rw (latest-more live r day) at on)
    (λ begun. instead (leb-true r.from day begun))

-- ---- a move-out

pub moved_out_had : (live : List Record) (r : Record) (day unit : ℕ) → is_move_out r.kind ≡ true →
    occupied_unit_on (live ++ r ∷ []) day ≡ Some unit → occupied_unit_on live day ≡ Some unit
moved_out_had live r day unit moves on = had live r day unit on (λ begun kept before. absurd (let nowhere = rw moves at kept in cc nowhere))

-- ---- a record for the unit of the one before

not_itself : (from number : ℕ) → pair_comes_before from number from number ≡ false
not_itself from number = grind (arith, nat_tests)

module _ (live : List Record) (r : Record) (rise : NumbersRise live) (order : first_out_of_order (live ++ r ∷ []) ≡ None)
    (later_one : may_begin r.kind ≡ false) (stays : is_transfer r.kind ≡ false) where
  abbrev before_it : Option Record
  before_it = latest (filter (λ earlier. comes_before earlier r) live)

  stands : is_in_order before_it r ≡ true
  stands =
      rw (
        filter-append (λ (earlier : Record). comes_before earlier r) live (r ∷ []),
        not_itself r.from r.number,
        append-nil (filter (λ (earlier : Record). comes_before earlier r) live),
      ) at
      (All-contains (λ q. is_in_order (record_before (live ++ r ∷ []) q) q ≡ true) (live ++ r ∷ []) r (in_order (live ++ r ∷ []) order) (Contains-push live r))

  same_unit : (p : Record) (unit : ℕ) → is_in_order (Some p) r ≡ true → unit_kept r ≡ Some unit → unit_kept p ≡ Some unit
  same_unit p unit is kept = grind (arith, common_steps, nat_tests, is, followed p.kind r.kind (and_parts _ _ is).0, stays, kept)

  by_both : (day unit : ℕ) → r.from ≤ day → unit_kept r ≡ Some unit → (p was : Option Record) → is_in_order p r ≡ true →
      IsLatest comes_before (λ earlier. comes_before earlier r) live p → IsLatest comes_before (has_begun day) live was →
      IfSome was (λ q. comes_before q r ≡ true) → option_and_then unit_kept was ≡ Some unit
  by_both day unit begun kept None was is law begun_law before = absurd (cc (is, later_one))
  by_both day unit begun kept (Some p) None is law begun_law before =
      absurd (All-contains (λ q. has_begun day q ≡ true → IsSomeAnd {T = Record} None (λ best. comes_before best q ≡ false)) live p begun_law.last law.among.0
      (grind (arith, nat_tests, common_steps, law.among.1)))
  by_both day unit begun kept (Some p) (Some q) is law begun_law before =
      let not_p : comes_before p q ≡ false =
      All-contains (λ e. comes_before e r ≡ true → comes_before p e ≡ false) live q law.last begun_law.among.0 before in
      let not_q : comes_before q p ≡ false =
      All-contains (λ e. has_begun day e ≡ true → comes_before q e ≡ false) live p begun_law.last law.among.0
      (grind (arith, nat_tests, common_steps, law.among.1)) in
      subst (λ (q : Record). unit_kept q ≡ Some unit)
      (same_record live p q rise law.among.0 begun_law.among.0 (neither p.from p.number q.from q.number not_p not_q)) (same_unit p unit is kept)

  pub kept_had : (day unit : ℕ) → occupied_unit_on (live ++ r ∷ []) day ≡ Some unit → occupied_unit_on live day ≡ Some unit
  kept_had day unit on =
      had live r day unit on (λ begun kept.
      by_both day unit begun kept before_it (latest (filter (has_begun day) live)) stands
      (latest-is comes_before (λ earlier. comes_before earlier r) live (pairs_order (λ q. q.from) (λ q. q.number)))
      (latest-is comes_before (has_begun day) live (pairs_order (λ q. q.from) (λ q. q.number))))
