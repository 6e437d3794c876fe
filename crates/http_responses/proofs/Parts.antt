-- A front of what two writes append.
use Rattle.std.proofs.Common.{ℕ, ◌+◌, List, ◌++◌, length, take, sym, subst, arith, length-append}
use Rattle.std.specs.{declared.option.Option.Option, Io.KnownBytes.Appends}
use Rattle.std.proofs.{KnownBytes.Appends-trans, Math.Seq.take-append-add}
use Rattle.office_io.specs.Transfer.{AppendsPart}

-- the first was written whole, and a front of the second
pub part_of_second : (a b c : Option (List ℕ)) (first second : List ℕ) → Appends a b first → AppendsPart b c second → AppendsPart a c (first ++ second)
part_of_second a b c first second whole (n, less, part) = (
  length first + n,
  omega (arith, length-append first second),
  subst (λ (l : List ℕ). Appends a c l) (sym (take-append-add first second n)) (Appends-trans a b c first (take n second) whole part),
)
