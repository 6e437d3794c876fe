-- A writer between two records.
use Rattle.std.specs.Prelude.{◌≡◌, ◌++◌, ℕ, List, Vec, false}
use Rattle.std.specs.declared.alloc.Global.{Global}
use Rattle.csv.specs.declared.writer.Writer.{Writer}
use Rattle.csv.specs.Writing.{default_writer, fields_written, has_written, writer_pending, writer_setup, writer_under}

-- it writes as the default writer does, and nothing of a record is written yet
pub record IsBetween (writer : Writer (Vec ℕ Global)) : Type 0 where
  pub setup : writer_setup writer ≡ default_writer
  pub fields : fields_written writer ≡ 0
  pub wrote : has_written writer ≡ false

-- all that was written
abbrev pub text_of : Writer (Vec ℕ Global) → List ℕ
text_of writer = (writer_under writer).items ++ writer_pending writer
