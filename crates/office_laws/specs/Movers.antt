-- Who would move to a unit on a day, and who of them comes first, in plain facts.
use Rattle.std.specs.Prelude.{◌≡◌, ◌≢◌, ◌↔◌, ◌≤◌, ◌<◌, ℕ, true, Option, Some, None, List, Contains, IsSomeAnd, slice_get}
use Rattle.record_history.specs.{declared.records.Kind.Kind, declared.records.Record.Record, Law.IsInForceOn}
use Rattle.rent_table.specs.{declared.plan.Plan.Plan, declared.rows.LimitRow.LimitRow, declared.rows.Unit.Unit as UnitRow, Standing.SetsLimitsOn, Table.limits_on}
use Rattle.wait_list.specs.Next.{Asked}
use Rattle.book_rows.specs.Book.{Book}
use Rattle.office_step.specs.{declared.call.Capacity.Capacity, declared.known.Mover.Mover, declared.known.Request.Request, Known.Known, Known.known_of, Known.own_in, Candidates.asked_of, Candidates.movers_of, Candidates.request_in, Step.IsReached}
use Rattle.office_step.specs.plain.Counting.{Counts}

-- ---- who would move

-- by its record in force on the day the household lives in another unit, assisted, and has as many persons as the plan
-- allows for units of so many bedrooms
pub record FitsTo (plan : Plan) (unit : UnitRow) (day : ℕ) (own : List Record) : Type 0 where
  pub r : Record
  pub in_force : IsInForceOn (Contains own) day r
  pub no_move_out : r.kind ≢ Kind.MO
  pub no_termination : r.kind ≢ Kind.TM
  pub elsewhere : r.unit ≢ unit.number
  pub persons : IsSomeAnd (slice_get plan.bounds unit.bedrooms) (λ bound. (bound.least ≤ r.persons) × (r.persons ≤ bound.most))

-- The household would move to the unit on the day: what it said last of another unit is that it wants one, it said so after
-- each transfer that counts, and the unit is one for it.
pub record WouldMove (known : Known) (plan : Plan) (unit : UnitRow) (day household : ℕ) (request : Request) : Type 0 where
  pub said_last : request_in known.requests household ≡ Some request
  pub wanted : request.wanted ≡ true
  pub since : (r : Record) → Counts (own_in known household) r → r.kind ≡ Kind.UT → r.act < request.act
  pub fits : FitsTo plan unit day (own_in known household)

-- it is a mover, with the act of its request, and whether it needs accessible features
pub record IsMover (known : Known) (plan : Plan) (unit : UnitRow) (day : ℕ) (m : Mover) : Type 0 where
  pub request : Request
  pub would : WouldMove known plan unit day m.household request
  pub act : m.act ≡ request.act
  pub accessible : m.accessible ≡ request.accessible

-- the movers are just those
abbrev pub MoversArePlain : Type 0
MoversArePlain = (capacity : Capacity) (book : Book) → IsReached capacity book → (plan : Plan) (unit : UnitRow) (day : ℕ) (m : Mover) →
    Contains (movers_of plan unit day (known_of book).requests (known_of book).households) m ↔ IsMover (known_of book) plan unit day m

-- ---- who comes first

-- the household needs accessible features, and the unit has them
abbrev pub IsInNeed : UnitRow → Request → Type 0
IsInNeed unit request = (unit.accessible ≡ true) × (request.accessible ≡ true)

-- the household would move, is of the group, and nobody who would move and is of the group asked earlier
pub record MovesFirst (known : Known) (plan : Plan) (unit : UnitRow) (day : ℕ) (IsOfGroup : Request → Type 0) (household : ℕ) : Type 0 where
  pub request : Request
  pub would : WouldMove known plan unit day household request
  pub of_group : IsOfGroup request
  pub first : (other : ℕ) (its : Request) → WouldMove known plan unit day other its → IsOfGroup its → request.act ≤ its.act

-- the answer is the one household that moves first of the group, and None exactly where nobody of the group would move
pub record IsFirstMover (known : Known) (plan : Plan) (unit : UnitRow) (day : ℕ) (IsOfGroup : Request → Type 0) (answer : Option ℕ) : Type 0 where
  pub some : (household : ℕ) → (answer ≡ Some household) ↔ MovesFirst known plan unit day IsOfGroup household
  pub none : (answer ≡ None) ↔ ((household : ℕ) (request : Request) → WouldMove known plan unit day household request → ¬ IsOfGroup request)

-- ---- what is asked

-- the limits that stand on the day, and the first movers: of those in need of features that the unit has, and of all others
pub record IsAsked (known : Known) (plan : Plan) (unit : UnitRow) (day : ℕ) (asked : Asked) : Type 0 where
  pub of_unit : asked.unit ≡ unit
  pub by_plan : asked.plan ≡ plan
  pub limits : (row : LimitRow) → (asked.limits ≡ Some row) ↔ SetsLimitsOn known.limits day row
  pub needing : IsFirstMover known plan unit day (IsInNeed unit) asked.needing
  pub other : IsFirstMover known plan unit day (λ request. ¬ IsInNeed unit request) asked.other

-- what an office asks is so
abbrev pub AskedIsPlain : Type 0
AskedIsPlain = (capacity : Capacity) (book : Book) → IsReached capacity book → (plan : Plan) (unit : UnitRow) (day : ℕ) →
    IsAsked (known_of book) plan unit day
    (asked_of plan unit day (limits_on (known_of book).limits day) (known_of book).requests (known_of book).households)
