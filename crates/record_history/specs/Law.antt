-- What it comes to that a record is in force.
use Rattle.std.specs.Prelude.{◌≡◌, ◌≢◌, ◌↔◌, ◌≤◌, ℕ, ◌&&◌, nat_le, Bool, List, Option, None, Some}
use Rattle.record_history.specs.{declared.records.Kind.Kind, declared.records.Record.Record, Records.is_live}

-- it counts, and has begun by the day
abbrev pub is_candidate : List Record → ℕ → Record → Bool
is_candidate records day r = is_live records r && nat_le r.from day

-- The record is known, it withdraws nothing, none that is known corrects or withdraws it, and it begins by the day.
pub record CountsOn (IsKnown : Record → Type 0) (day : ℕ) (r : Record) : Type 0 where
  pub known : IsKnown r
  pub withdraws_nothing : r.kind ≢ Kind.WD
  pub uncorrected : (other : Record) → IsKnown other → other.corrects ≢ r.number
  pub begun : r.from ≤ day

-- It counts on the day, no other that counts begins later, and of those that begin on its day none has a greater number.
pub record IsInForceOn (IsKnown : Record → Type 0) (day : ℕ) (r : Record) : Type 0 where
  pub counts : CountsOn IsKnown day r
  pub begins_last : (other : Record) → CountsOn IsKnown day other → other.from ≤ r.from
  pub numbered_last : (other : Record) → CountsOn IsKnown day other → other.from ≡ r.from → other.number ≤ r.number

-- the answer is the one record in force on the day, and None exactly where none counts
pub record IsOneInForce (IsKnown : Record → Type 0) (day : ℕ) (answer : Option Record) : Type 0 where
  pub some : (r : Record) → (answer ≡ Some r) ↔ IsInForceOn IsKnown day r
  pub none : (answer ≡ None) ↔ ((r : Record) → ¬ CountsOn IsKnown day r)
