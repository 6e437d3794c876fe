-- The records of households and the units that they have, in every book that an office can come to.
use Rattle.std.specs.Prelude.{◌≢◌, ◌↔◌, ◌<◌, ℕ, List, All, Contains}
use Rattle.record_history.specs.{declared.records.Record.Record, Held.AreNumbered}
use Rattle.tenancy_rules.specs.OrderLaw.{IsInPlace}
use Rattle.book_rows.specs.Book.{Book}
use Rattle.office_step.specs.{declared.call.Capacity.Capacity, Known.Known, Known.known_of, Known.own_in, Step.IsReached}
use Rattle.office_step.specs.plain.{Counting.Counts, Tenancy.HasUnitOn}

-- the records of one household have the numbers 1, 2 and so on, each corrects or withdraws only one with a smaller number,
-- and each that counts is in its place among those that count
pub record IsInOrder (own : List Record) : Type 0 where
  pub numbered : AreNumbered own
  pub corrects : All (λ r. r.corrects < r.number) own
  pub counting : List Record
  pub just_those : (r : Record) → Contains counting r ↔ Counts own r
  pub in_place : All (IsInPlace counting) counting

-- the records of every household are in order
abbrev pub HouseholdsAreInOrder : Type 0
HouseholdsAreInOrder = (capacity : Capacity) (book : Book) → IsReached capacity book → All IsInOrder (known_of book).households

-- on no day do two households have one unit
abbrev pub AreApart : Known → Type 0
AreApart known =
    (one other day unit : ℕ) → one ≢ other →
    HasUnitOn (Counts (own_in known one)) day unit → ¬ HasUnitOn (Counts (own_in known other)) day unit

abbrev pub NoUnitIsShared : Type 0
NoUnitIsShared = (capacity : Capacity) (book : Book) → IsReached capacity book → AreApart (known_of book)
