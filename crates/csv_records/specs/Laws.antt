-- The law of reading.
use Rattle.std.specs.Prelude.{◌≡◌, ℕ, List}
use Rattle.csv.specs.declared.parser.State.TheVariants as st
use Rattle.csv.specs.Reading.{AreRecords, default_config, records}

-- the reader's steps take one list of records out of a text, and no other
abbrev pub HasOneListOfRecords : Type 0
HasOneListOfRecords = (text : List ℕ) (rows : List (List (List ℕ))) → AreRecords default_config st.StartRecord text rows → records default_config text ≡ rows
