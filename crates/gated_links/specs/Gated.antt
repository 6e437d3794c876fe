-- A gated source, as its users see it.
use Rattle.std.specs.Prelude.{ℕ, List}

-- the bytes that are left in both of its parts, and the faults so far
pub record Gated : Type 0 where
  pub left : List ℕ
  pub faults : ℕ
