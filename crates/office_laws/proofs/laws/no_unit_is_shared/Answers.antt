-- On no day do two households have one unit.
use Rattle.office_laws.proofs.Words.{last_office_day, Book, Capacity, IsReached, ◌≡◌, ◌≢◌, ◌∙◌, sym, ℕ, ◌≤◌, inl, inr, arith, List, [], ◌∷◌, ◌++◌, Some, length, Record, live_records, records_of, occupied_unit_on, Command, Known, known_of, own_in, change_by, record_of, IsOneOf, IsInOrder, Passed, records_cases, option_map_none}
use Rattle.std.proofs.lemmas.Bool.{cases_lt}
use Rattle.tenancy_rules.proofs.UseLaws.{no_unit_has_two}
use Rattle.office_laws.proofs.{Dated.begin_in_time, Dated.unit_past, Inversion.passes, Known.next, Known.by_acts, Own.owned, Unit.moved_out_had, Unit.kept_had}
use Rattle.office_laws.proofs.Lived.{lived, lives_more, rises}
use Rattle.office_laws.proofs.Tried.{Placed, taken_by_none, moved_out, kept, tried}
use Rattle.office_laws.proofs.Placed.{has_it}
use Rattle.office_laws.proofs.InOrder.{own_in_order, in_order_more, live_changed}
use Rattle.office_laws.proofs.laws.no_unit_is_shared.Goals as goal

-- by these records the household has the unit on the day
abbrev Has : ℕ → ℕ → List Record → Type 0
Has day unit own = occupied_unit_on (live_records own) day ≡ Some unit

-- on no day do two of the households have one unit
abbrev Apart : (ℕ → List Record) → Type 0
Apart own = (one other day unit : ℕ) → one ≢ other → day ≤ last_office_day → Has day unit (own one) → Has day unit (own other) → ⊥

-- who has a unit is there
has_there : (households : List (List Record)) (household day unit : ℕ) → Has day unit (records_of households household) → IsOneOf (length households) household
has_there households household day unit has = elim (records_cases households household) [
  | inl none ↦ absurd (let nowhere = rw none at has in cc nowhere)
  | inr there ↦ record { least = there.0; most = there.1 }
]

module _ (known : Known) (most today : ℕ) (asked : Command) (r : Record) (free : Passed known most today asked)
    (is : record_of known asked ≡ Some r) (own : IsInOrder (own_in known r.household)) where
  -- the household comes to no unit that another has
  own_apart : Apart (own_in known) → (other day unit : ℕ) → r.household ≢ other → day ≤ last_office_day →
      Has day unit (own_in known r.household ++ r ∷ []) → Has day unit (own_in known other) → ⊥
  own_apart apart other day unit differs by on taken = by_placed (tried known most today asked r free is).placed
    where
      there : IsOneOf (length known.households) other
      there = has_there known.households other day unit taken

      by_placed : Placed known r → ⊥
      by_placed (taken_by_none none) =
          no_unit_has_two known.households r.household (change_by r) (option_map_none _ _ none) other day unit
          there.least there.most (λ same. differs (sym same)) by (rw (live_changed known most today asked r free is own) at on) taken
      by_placed (moved_out kind moves zero) =
          apart r.household other day unit differs by (moved_out_had (lived known most today asked r free is own) r day unit moves (rw (lives_more known most today asked r free is own kind zero) at on)) taken
      by_placed (kept kind later_one transfers zero) =
          apart r.household other day unit differs by
          (kept_had (lived known most today asked r free is own) r (rises known most today asked r free is own) (rw (lives_more known most today asked r free is own kind zero) at (in_order_more known most today asked r free is own).live)
          later_one transfers day unit (rw (lives_more known most today asked r free is own kind zero) at on)) taken

-- ---- one act more

apart_more : (known : Known) (most today : ℕ) (asked : Command) → Passed known most today asked →
    ((household : ℕ) → IsInOrder (own_in known household)) → Apart (own_in known) → Apart (own_in (next known asked))
apart_more known most today asked free orders apart one other day unit differs by =
    owned (λ own. Has day unit own → Has day unit (own_in (next known asked) other) → ⊥) known asked free.no_such one
    (λ on. owned (λ own. Has day unit own → ⊥) known asked free.no_such other (apart one other day unit differs by on) (λ r is same taken.
    own_apart known most today asked r free is (orders r.household) apart one day unit (λ is_one. differs (sym (same ∙ is_one))) by taken on))
    (λ r is same on. owned (λ own. Has day unit own → ⊥) known asked free.no_such other
    (own_apart known most today asked r free is (orders r.household) apart other day unit (λ is_other. differs (same ∙ is_other)) by on)
    (λ r' is' same' taken. differs (cc (same, is, same', is'))))

-- on no day through 2099-12-31
apart_in_time : (capacity : Capacity) (book : Book) → IsReached capacity book → Apart (own_in (known_of book))
apart_in_time capacity =
    by_acts (λ known. Apart (own_in known)) capacity
    (λ one other day unit differs by on taken. absurd (omega (arith, has_there [] one day unit on)))
    (λ book rows reached appends apart.
    apart_more (known_of book) capacity.acts rows.act.day appends.call.command (passes capacity book rows appends) (own_in_order capacity book reached) apart)

-- ---- and on no later day

judged_apart : (capacity : Capacity) (book : Book) → IsReached capacity book → (one other day unit : ℕ) → one ≢ other →
    Has day unit (own_in (known_of book) one) → Has day unit (own_in (known_of book) other) → ⊥
judged_apart capacity book reached one other day unit differs on taken = elim (cases_lt last_office_day day) [
  | inr by ↦ apart_in_time capacity book reached one other day unit differs by on taken
  | inl past ↦ apart_in_time capacity book reached one other last_office_day unit differs (omega arith)
      (sym (unit_past (own_in (known_of book) one) day (begin_in_time capacity book reached one) (omega arith)) ∙ on)
      (sym (unit_past (own_in (known_of book) other) day (begin_in_time capacity book reached other) (omega arith)) ∙ taken)
]

-- ---- in plain facts

pub returns : goal.returns
returns c capacity book reached one other day unit differs on taken =
    judged_apart capacity book reached one other day unit differs
    (has_it (own_in (known_of book) one) (own_in_order capacity book reached one) day unit on)
    (has_it (own_in (known_of book) other) (own_in_order capacity book reached other) day unit taken)
