-- The movers are just those who would move, and the first of a group is who moves first of it.
use Rattle.std.proofs.Common.{◌≡◌, ◌∙◌, sym, ap, refl, subst, ℕ, ◌+◌, ◌-◌, ◌<◌, ◌≤◌, inl, inr, arith, Bool, true, false, List, Option, Some, None, ◌&&◌, not, nat_lt, filter, length, if◌then◌else◌, ◌==◌}
use Rattle.std.specs.Prelude.{◌↔◌, Contains, IfSome, IsSomeAnd}
use Rattle.std.specs.{List.range_with_len, Option.option_map, Option.option_map_or}
use Rattle.std.proofs.lemmas.{Bool.false≢true, Bool.false_from_ne_true, Bool.and_parts, Bool.and_from, Bool.not-true, Bool.not_from_false, Bool.ltb-false, Option.cond_some, List.Kept.AllPairs-filter}
use Rattle.std.proofs.lemmas.List.Elements.{All-contains}
use Rattle.std.proofs.lemmas.List.FromFn.{get_or-range_with_len, length-range_with_len}
use Rattle.list_laws.proofs.{Options.option_map_none}
use Rattle.row_choice.specs.Latest.{IsLatest, latest as latest_by}
use Rattle.row_choice.proofs.LatestLemmas.{latest-is}
use Rattle.record_history.specs.{declared.records.Record.Record, Held.AreNumbered, Held.ActsRise}
use Rattle.record_history.proofs.Kept.{records_cases}
use Rattle.rent_table.specs.{declared.plan.Plan.Plan, declared.rows.Unit.Unit as UnitRow, Table.limits_on}
use Rattle.rent_table.proofs.StandingLemmas.{row_sets_limits}
use Rattle.book_rows.specs.Book.{Book}
use Rattle.office_step.specs.{declared.call.Capacity.Capacity, declared.known.Mover.Mover, declared.known.Request.Request, Acts.acts_of, Acts.household_count, Known.Known, Known.known_of, Known.own_in, Step.IsReached}
use Rattle.office_step.specs.Candidates.{asked_of, movers_of, mover_of, mover_by, request_in, counts, would_move_on, newest_transfer, in_need, first_mover}
use Rattle.office_step.proofs.Exactly.Options.{and_then-some, and_then-from, map-some}
use Rattle.office_laws.specs.Movers.{WouldMove, IsMover, MoversArePlain, IsInNeed, MovesFirst, IsFirstMover, IsAsked, AskedIsPlain}
use Rattle.office_laws.proofs.{AllSound.limits_rise, InOrder.own_in_order, Places.own_place, Reached.books_are_kept, Fitting.key_order-turned, Fitting.since_each, Fitting.each_since, Fitting.fits_to, Fitting.to_fit, Requests.given_of, Requests.of_given, Requests.of_one_household}

-- ---- lists

in_range : (count household : ℕ) → 1 ≤ household → household ≤ count → Contains (range_with_len 1 count) household
in_range count household least most =
    let back : 1 + (household - 1) ≡ household = omega (arith, least) in (
      household - 1,
      omega (arith, least, most, length-range_with_len 1 count),
      get_or-range_with_len 1 count (household - 1) household (omega (arith, least, most)) ∙ back,
    )

-- ---- movers

module _ (known : Known) (numbered : (household : ℕ) → AreNumbered (own_in known household)) (rise : (household : ℕ) → ActsRise (own_in known household))
    (plan : Plan) (unit : UnitRow) (day : ℕ) where
  abbrev movers : List Mover
  movers = movers_of plan unit day known.requests known.households

  abbrev mover : ℕ → Request → Mover
  mover household request = record { household = household; act = request.act; accessible = request.accessible }

  abbrev since_transfers : ℕ → Request → Bool
  since_transfers household request = option_map_or (λ r. nat_lt r.act request.act) (newest_transfer (own_in known household)) true

  is_mover : (household : ℕ) (request : Request) → WouldMove known plan unit day household request → IsMover known plan unit day (mover household request)
  is_mover household request would = record { request = request; would = would; act = refl; accessible = refl }

  moves : (household : ℕ) (m : Mover) → mover_of plan unit day known.requests known.households household ≡ Some m → IsMover known plan unit day m
  moves household m is =
      let own : List Record = own_in known household in
      let said = and_then-some (mover_by plan unit day own household) (request_in known.requests household) m is in
      let request : Request = said.0 in
      let made = cond_some (counts own request && would_move_on plan unit day own) (mover household request) m said.2 in
      let parts = and_parts (counts own request) (would_move_on plan unit day own) made.0 in
      let asks = and_parts request.wanted (since_transfers household request) parts.0 in
      subst (IsMover known plan unit day) made.1 (is_mover household request (record {
        said_last = said.1;
        wanted = asks.0;
        since = since_each own request.act (numbered household) (rise household) asks.1;
        fits = fits_to plan unit day own (numbered household) parts.1;
      }))

  moved : (household : ℕ) (request : Request) → WouldMove known plan unit day household request →
      mover_of plan unit day known.requests known.households household ≡ Some (mover household request)
  moved household request would =
      let own : List Record = own_in known household in
      and_then-from (mover_by plan unit day own household) (request_in known.requests household) request (mover household request) would.said_last
      (ap (λ (b : Bool). if b then Some (mover household request) else None)
      (and_from (counts own request) (would_move_on plan unit day own)
      (and_from request.wanted (since_transfers household request) would.wanted (each_since own request.act would.since))
      (to_fit plan unit day own (numbered household) would.fits)))

  -- a household with a record in force is there
  is_there : (household : ℕ) (request : Request) → WouldMove known plan unit day household request → (1 ≤ household) × (household ≤ length known.households)
  is_there household request would = elim (records_cases known.households household) [
    | inl none ↦ absurd (omega (arith, (subst (λ (own : List Record). Contains own would.fits.r) none would.fits.in_force.counts.known).1))
    | inr there ↦ there
  ]

  listed : (household : ℕ) (request : Request) → WouldMove known plan unit day household request → Contains movers (mover household request)
  listed household request would =
      let there = is_there household request would in
      of_given (mover_of plan unit day known.requests known.households) (range_with_len 1 (length known.households)) household (mover household request)
      (in_range (length known.households) household there.0 there.1) (moved household request would)

  itself : (m : Mover) (is : IsMover known plan unit day m) → mover m.household is.request ≡ m
  itself m is =
      let act : is.request.act ≡ m.act = sym is.act in
      let accessible : is.request.accessible ≡ m.accessible = sym is.accessible in
      λ i. record { household = m.household; act = act i; accessible = accessible i }

  pub exactly_movers : (m : Mover) → Contains movers m ↔ IsMover known plan unit day m
  exactly_movers m = (
    λ held. (let given = given_of (mover_of plan unit day known.requests known.households) (range_with_len 1 (length known.households)) m held in moves given.0 m given.2),
    λ is. subst (Contains movers) (itself m is) (listed m.household is.request is.would),
  )

  -- ---- the first of a group

  module _ (passes : Mover → Bool) (IsOfGroup : Request → Type 0)
      (groups : (m : Mover) (request : Request) → m.accessible ≡ request.accessible → (passes m ≡ true) ↔ IsOfGroup request)
      (apart : (household other : ℕ) (request its : Request) → request_in known.requests household ≡ Some request →
      request_in known.requests other ≡ Some its → request.act ≡ its.act → household ≡ other) where
    abbrev asked_first : Option Mover
    asked_first = latest_by (λ m other. nat_lt other.act m.act) (filter passes movers)

    law : IsLatest (λ (m other : Mover). nat_lt other.act m.act) passes movers asked_first
    law = latest-is (λ (m other : Mover). nat_lt other.act m.act) passes movers (key_order-turned (λ (m : Mover). m.act))

    not_behind : (household : ℕ) (request : Request) → WouldMove known plan unit day household request → IsOfGroup request →
        IsSomeAnd asked_first (λ best. nat_lt request.act best.act ≡ false)
    not_behind household request would of_group =
        All-contains (λ m. passes m ≡ true → IsSomeAnd asked_first (λ best. nat_lt m.act best.act ≡ false)) movers (mover household request) law.last
        (listed household request would) ((groups (mover household request) request refl).1 of_group)

    of_answer : (best : Mover) → asked_first ≡ Some best → MovesFirst known plan unit day IsOfGroup best.household
    of_answer best is =
        let among = subst (λ (o : Option Mover). IfSome o (λ m. Contains movers m × (passes m ≡ true))) is law.among in
        let its : IsMover known plan unit day best = (exactly_movers best).0 among.0 in record {
          request = its.request;
          would = its.would;
          of_group = (groups best its.request its.accessible).0 among.1;
          first = λ other request would of_group.
              (let behind = subst (λ (o : Option Mover). IsSomeAnd o (λ best. nat_lt request.act best.act ≡ false)) is (not_behind other request would of_group) in
              omega (arith, its.act, ltb-false request.act best.act behind));
        }

    to_answer : (household : ℕ) → MovesFirst known plan unit day IsOfGroup household → first_mover (filter passes movers) ≡ Some household
    to_answer household at = by_answer asked_first refl (not_behind household at.request at.would at.of_group)
      where
        by_answer : (found : Option Mover) → asked_first ≡ found → IsSomeAnd found (λ best. nat_lt at.request.act best.act ≡ false) →
            first_mover (filter passes movers) ≡ Some household
        by_answer None is behind = absurd behind
        by_answer (Some best) is behind =
            let its : MovesFirst known plan unit day IsOfGroup best.household = of_answer best is in
            let same : its.request.act ≡ at.request.act =
            omega (arith, at.first best.household its.request its.would its.of_group, its.first household at.request at.would at.of_group) in
            ap (option_map (λ (m : Mover). m.household)) is
            ∙ ap Some (apart best.household household its.request at.request its.would.said_last at.would.said_last same)

    pub is_first_mover : IsFirstMover known plan unit day IsOfGroup (first_mover (filter passes movers))
    is_first_mover = record {
      some = λ household. (
        λ is. (let found = map-some (λ (m : Mover). m.household) asked_first household is in
            subst (MovesFirst known plan unit day IsOfGroup) (sym found.2) (of_answer found.0 found.1)),
        to_answer household,
      );
      none = (
        λ none household request would of_group.
            subst (λ (o : Option Mover). IsSomeAnd o (λ best. nat_lt request.act best.act ≡ false)) (option_map_none (λ (m : Mover). m.household) asked_first none)
            (not_behind household request would of_group),
        λ never. nobody never asked_first refl,
      );
    }
      where
        nobody : ((household : ℕ) (request : Request) → WouldMove known plan unit day household request → ¬ IsOfGroup request) →
            (found : Option Mover) → asked_first ≡ found → first_mover (filter passes movers) ≡ None
        nobody never None is = ap (option_map (λ (m : Mover). m.household)) is
        nobody never (Some best) is =
            let its : MovesFirst known plan unit day IsOfGroup best.household = of_answer best is in
            absurd (never best.household its.request its.would its.of_group)

-- ---- the two groups

needs : (unit : UnitRow) (m : Mover) (request : Request) → m.accessible ≡ request.accessible → (in_need unit m ≡ true) ↔ IsInNeed unit request
needs unit m request same = (
  λ is. (let parts = and_parts unit.accessible m.accessible is in (parts.0, sym same ∙ parts.1)),
  λ need. and_from unit.accessible m.accessible need.0 (same ∙ need.1),
)

needs_not : (unit : UnitRow) (m : Mover) (request : Request) → m.accessible ≡ request.accessible → (not (in_need unit m) ≡ true) ↔ (¬ IsInNeed unit request)
needs_not unit m request same = (
  λ is need. false≢true (sym (not-true (in_need unit m) is) ∙ (needs unit m request same).1 need),
  λ none. not_from_false (in_need unit m) (false_from_ne_true (in_need unit m) (λ is. none ((needs unit m request same).0 is))),
)

-- ---- of a book

module _ (capacity : Capacity) (book : Book) (reached : IsReached capacity book) where
  own_rise : (household : ℕ) → ActsRise (own_in (known_of book) household)
  own_rise household = elim (records_cases (known_of book).households household) [
    | inl none ↦ subst ActsRise (sym none) (λ i j d before within. absurd (omega (arith, within)))
    | inr there ↦ subst ActsRise (sym (own_place book.records (household_count (acts_of book.acts)) household there.0 there.1))
        (AllPairs-filter (λ (r next : Record). r.act < next.act) (λ r. r.household == household) book.records (books_are_kept capacity book reached).made.records_rise)
  ]

  own_numbered : (household : ℕ) → AreNumbered (own_in (known_of book) household)
  own_numbered household = (own_in_order capacity book reached household).numbered

  movers_plain : (plan : Plan) (unit : UnitRow) (day : ℕ) (m : Mover) →
      Contains (movers_of plan unit day (known_of book).requests (known_of book).households) m ↔ IsMover (known_of book) plan unit day m
  movers_plain = exactly_movers (known_of book) own_numbered own_rise

  asked_plain : (plan : Plan) (unit : UnitRow) (day : ℕ) → IsAsked (known_of book) plan unit day
      (asked_of plan unit day (limits_on (known_of book).limits day) (known_of book).requests (known_of book).households)
  asked_plain plan unit day = record {
    of_unit = refl;
    by_plan = refl;
    limits = λ row. row_sets_limits (known_of book).limits day row (limits_rise book.acts (books_are_kept capacity book reached).acts);
    needing = is_first_mover (known_of book) own_numbered own_rise plan unit day (in_need unit) (IsInNeed unit) (needs unit)
        (of_one_household capacity book reached);
    other = is_first_mover (known_of book) own_numbered own_rise plan unit day (λ m. not (in_need unit m)) (λ request. ¬ IsInNeed unit request) (needs_not unit)
        (of_one_household capacity book reached);
  }

pub movers_are_plain : MoversArePlain
movers_are_plain = movers_plain

pub asked_is_plain : AskedIsPlain
asked_is_plain = asked_plain
