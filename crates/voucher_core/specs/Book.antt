-- What a book of lines holds.
use Rattle.std.specs.Prelude.{ℕ, List}
use Rattle.voucher_core.specs.declared.line.Line.{Line}

-- the lines in the order in which they came, and how many more fit
pub record HeldLines : Type 0 where
  pub lines : List Line
  pub room : ℕ
