-- What it comes to that the live records of a household are in order, or which is the first that isn't, in plain facts
-- (own rules, for the certifications of Handbook 4350.3 REV-1, chapters 5 and 7).
use Rattle.std.specs.Prelude.{◌≡◌, ◌≢◌, ◌↔◌, ◌<◌, ◌⊎◌, List, Some, None, All, Contains}
use Rattle.record_history.specs.declared.records.{Kind.Kind, Record.Record}
use Rattle.tenancy_rules.specs.{Changed.NumbersRise, Order.first_out_of_order}

-- the record begins earlier, or on the same day and has the smaller number
abbrev pub Precedes : Record → Record → Type 0
Precedes earlier r = (earlier.from < r.from) ⊎ ((earlier.from ≡ r.from) × (earlier.number < r.number))

-- none of the records precedes this one
abbrev pub IsFirst : List Record → Record → Type 0
IsFirst records r = (other : Record) → Contains records other → ¬ Precedes other r

-- the one record precedes the other, and none of them stands between
pub record IsRightBefore (records : List Record) (earlier r : Record) : Type 0 where
  pub listed : Contains records earlier
  pub precedes : Precedes earlier r
  pub none_between : (other : Record) → Contains records other → Precedes earlier other → ¬ Precedes other r

-- What holds of a record that may stand where it stands. The first is a move-in or an initial certification, and no other
-- is a move-in. An initial certification that isn't the first stands right after a termination of assistance, and right
-- after one stands only an initial certification or a move-out. Nothing stands after a move-out. A transfer is to another
-- unit than that of the record right before it, and every other record is for that one.
pub record IsInPlace (records : List Record) (r : Record) : Type 0 where
  pub first : IsFirst records r → (r.kind ≡ Kind.MI) ⊎ (r.kind ≡ Kind.IC)
  pub move_in : r.kind ≡ Kind.MI → IsFirst records r
  pub initial : (earlier : Record) → IsRightBefore records earlier r → r.kind ≡ Kind.IC → earlier.kind ≡ Kind.TM
  pub terminated : (earlier : Record) → IsRightBefore records earlier r → earlier.kind ≡ Kind.TM → (r.kind ≡ Kind.IC) ⊎ (r.kind ≡ Kind.MO)
  pub moved_out : (earlier : Record) → IsRightBefore records earlier r → earlier.kind ≢ Kind.MO
  pub transfer : (earlier : Record) → IsRightBefore records earlier r → r.kind ≡ Kind.UT → r.unit ≢ earlier.unit
  pub unit : (earlier : Record) → IsRightBefore records earlier r → r.kind ≢ Kind.UT → r.unit ≡ earlier.unit

-- no record is out of order exactly where each is in its place
abbrev pub OrderIsPlain : Type 0
OrderIsPlain = (records : List Record) → NumbersRise records →
    (first_out_of_order records ≡ None) ↔ All (IsInPlace records) records

-- and then none stands anywhere after a move-out
abbrev pub MoveOutIsLast : Type 0
MoveOutIsLast = (records : List Record) → NumbersRise records → first_out_of_order records ≡ None →
    (earlier r : Record) → Contains records earlier → Contains records r → earlier.kind ≡ Kind.MO → ¬ Precedes earlier r

-- the record that is out of order isn't in its place, and each that precedes it is
abbrev pub FaultIsFirst : Type 0
FaultIsFirst = (records : List Record) → NumbersRise records → (r : Record) → first_out_of_order records ≡ Some r →
    Contains records r × (¬ IsInPlace records r)
    × ((other : Record) → Contains records other → Precedes other r → IsInPlace records other)
