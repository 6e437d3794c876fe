-- How a reader of records begins.
use Rattle.std.specs.Prelude.{◌≡◌, ◌<◌, ℕ, List, Some, None, true, false}
use Rattle.std.specs.Borrow.{Bor}
use Rattle.csv.specs.declared.iter.ByteRecordsIntoIter.{ByteRecordsIntoIter}
use Rattle.csv.specs.declared.parser.State.TheVariants as st
use Rattle.csv.specs.declared.reader.Trim.TheVariants as trim
use Rattle.csv.specs.Reading.{default_config, is_flexible, names_headers, owned_rows_left, owned_rows_reader, reader_config, reader_headers, reader_state, reader_trim, source_of, strip_bom}

-- it stands at the front of the text, takes no header apart, trims nothing and takes records of any length
pub record Begins (rows : ByteRecordsIntoIter (Bor (List ℕ))) (text : List ℕ) : Type 0 where
  pub untrimmed : reader_trim (owned_rows_reader rows) ≡ trim.None
  pub unnamed : names_headers (owned_rows_reader rows) ≡ false
  pub headers : reader_headers (owned_rows_reader rows) ≡ None
  pub left : 0 < owned_rows_left rows
  pub config : reader_config (owned_rows_reader rows) ≡ default_config
  pub flexible : is_flexible (owned_rows_reader rows) ≡ true
  pub source : source_of (λ s. Some s.now) (owned_rows_reader rows) ≡ Some (strip_bom text)
  pub state : reader_state (owned_rows_reader rows) ≡ st.StartRecord
