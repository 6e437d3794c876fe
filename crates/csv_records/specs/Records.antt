-- Records of CSV. What a text's records are, and how one is written, `csv` says: its default reader and its default writer.
use Rattle.std.specs.Prelude.{ℕ, if◌then◌else◌, Bool, false, Option, Some, None, List, [], ◌∷◌, bytes_eq}
use Rattle.std.specs.{Cmp.Lexicographic.pointwise, Option.option_map_or}
use Rattle.csv.specs.{Reading.default_config, Reading.records, Reading.strip_bom, Records.field_at, Writing.default_writer, Writing.row_text}

-- the records of a text, each a list of fields
abbrev pub records_of : List ℕ → List (List (List ℕ))
records_of text = records default_config (strip_bom text)

-- these are the fields
abbrev pub are_fields : List (List ℕ) → List (List ℕ) → Bool
are_fields fields others = pointwise bytes_eq fields others

abbrev pub is_field : List (List ℕ) → ℕ → List ℕ → Bool
is_field fields at field = option_map_or (λ found. bytes_eq found field) (field_at fields at) false

-- the records after the first, where that one is the header
abbrev pub under : List (List ℕ) → List (List (List ℕ)) → Option (List (List (List ℕ)))
under header [] = None
under header (first ∷ others) = if are_fields first header then Some others else None

-- the records of a text that stand under the header
abbrev pub records_under : List (List ℕ) → List ℕ → Option (List (List (List ℕ)))
records_under header text = under header (records_of text)

-- the text of one record
unfoldable pub record_text : List (List ℕ) → List ℕ
record_text fields = row_text default_writer fields
