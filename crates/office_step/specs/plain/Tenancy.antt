-- When the order of a household's records, or another household in a unit, stands against an act, in plain facts
-- (docs/REFUSALS.md, 14 and 17).
use Rattle.std.specs.Prelude.{ℕ, ◌≡◌, ◌≢◌, ◌↔◌, ◌≤◌, ◌<◌, ◌⊎◌, true, Some, List, length, Contains}
use Rattle.days_core.specs.OfficeDays.{last_office_day}
use Rattle.record_history.specs.{declared.records.Kind.Kind, declared.records.Record.Record}
use Rattle.tenancy_rules.specs.OrderLaw.{IsInPlace}
use Rattle.office_step.specs.{declared.refusal.Refusal.Refusal, Known.Known, Known.own_in, Matter.Matter, Made.record_in, Against.disorder, Against.unit_taken}
use Rattle.office_step.specs.plain.Counting.{AllInTurn, Counts, IsFirstOf, IsLastOf}

-- after the act the record would count: it counts now, and the act's record doesn't correct or withdraw it; or it is the
-- act's own record, and withdraws nothing
abbrev pub WouldCount : List Record → Record → Record → Type 0
WouldCount own made r = (Counts own r × (r.number ≢ made.corrects)) ⊎ ((made.kind ≢ Kind.WD) × (r ≡ made))

-- ---- 14: records out of order

-- it is one of the records, and may not stand where it stands among them
abbrev pub IsOutOfPlace : List Record → Record → Type 0
IsOutOfPlace records r = Contains records r × (¬ IsInPlace records r)

-- 14: of the household's records that would count, the first that would be out of place
pub record PutsOutOfPlace (about : Matter) (refusal : Refusal) : Type 0 where
  pub household : ℕ
  pub made : Record
  pub records : List Record
  pub r : Record
  pub told : refusal ≡ Refusal.Disorder r.number
  pub names : about.household ≡ Some household
  pub makes : record_in about ≡ Some made
  pub would_count : (other : Record) → Contains records other ↔ WouldCount (own_in about.known made.household) made other
  pub first : IsFirstOf (IsOutOfPlace records) r

abbrev pub DisorderIsPlain : Type 0
DisorderIsPlain = (about : Matter) (refusal : Refusal) → AllInTurn about.known → (disorder about ≡ Some refusal) ↔ PutsOutOfPlace about refusal

-- ---- 17: a unit that another has

-- of these records the last that begins by the day is for the unit, and no move-out
pub record HasUnitOn (IsOne : Record → Type 0) (day unit : ℕ) : Type 0 where
  pub r : Record
  pub last : IsLastOf (λ other. IsOne other × (other.from ≤ day)) r
  pub no_move_out : r.kind ≢ Kind.MO
  pub its : r.unit ≡ unit

-- after the act both would have one unit on a day through 2099-12-31: the household of its record, and that other
pub record WouldShare (known : Known) (made : Record) (day household : ℕ) : Type 0 where
  pub least : 1 ≤ household
  pub most : household ≤ length known.households
  pub another : household ≢ made.household
  pub by : day ≤ last_office_day
  pub unit : ℕ
  pub own : HasUnitOn (WouldCount (own_in known made.household) made) day unit
  pub others : HasUnitOn (Counts (own_in known household)) day unit

-- the act names a unit or a record, or assistance begins by it
abbrev pub MayMove : Matter → Type 0
MayMove about = ((unit : ℕ) × (about.unit ≡ Some unit)) ⊎ (((target : ℕ) × (about.target ≡ Some target)) ⊎ (about.begins ≡ true))

-- 17: the first day on which both would have it, and of several others the least
pub record GivesUnitTwice (about : Matter) (refusal : Refusal) : Type 0 where
  pub made : Record
  pub household : ℕ
  pub day : ℕ
  pub told : refusal ≡ Refusal.UnitTaken household day
  pub may_move : MayMove about
  pub makes : record_in about ≡ Some made
  pub shares : WouldShare about.known made day household
  pub first : (other its_day : ℕ) → WouldShare about.known made its_day other → (day < its_day) ⊎ ((day ≡ its_day) × (household ≤ other))

abbrev pub UnitTakenIsPlain : Type 0
UnitTakenIsPlain = (about : Matter) (refusal : Refusal) → AllInTurn about.known → (unit_taken about ≡ Some refusal) ↔ GivesUnitTwice about refusal
