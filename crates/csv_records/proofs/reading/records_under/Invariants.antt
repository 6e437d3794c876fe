use Rattle.std.proofs.Common.{◌≡◌, ◌<◌, ◌∷◌, ℕ, List, Some, map, true}
use Rattle.csv.specs.Reading.{Reached, Ready, default_config, is_flexible, source_of, strip_bom}
use Rattle.csv.specs.Records.{fields_of}
use Rattle.csv.specs.declared.parser.State.TheVariants as st
use Rattle.csv.specs.declared.reader.Trim.TheVariants as trim
use Rattle.csv_records.specs.Records.{are_fields}
use Rattle.csv_records.proofs.Fields.{shown}
use Rattle.csv_records.proofs.reading.records_under.Given as goal

abbrev pub invariant-loop-record : goal.invariant-loop-record
invariant-loop-record l = record {
  untrimmed : l.record-iterator.rdr.trim ≡ trim.None;
  ready : Ready l.record-iterator.rdr;
  left : 0 < l.record-iterator.left;
  config : l.record-iterator.rdr.config ≡ default_config;
  flexible : is_flexible l.record-iterator.rdr ≡ true;
  come_to : (y : List ℕ) × (source_of (λ s. Some s.now) l.record-iterator.rdr ≡ Some y) × (names : List (List ℕ)) × (are_fields names (shown l.fn.header) ≡ true)
      × Reached default_config st.StartRecord (strip_bom l.fn.text) (names ∷ map fields_of l.rows.items) l.record-iterator.rdr.state y;
}
