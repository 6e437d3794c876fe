-- An index of rows by a number of each.
use Rattle.std.specs.Prelude.{ℕ, ◌+◌, ◌*◌, ◌==◌, nat_lt, if◌then◌else◌, Bool, Option, List, [], ◌∷◌, find, fold}
use Rattle.std.specs.{Option.option_map, List.Sorted.IsNonDecreasingBy}
use Rattle.row_index.specs.declared.index.Entry.{Entry}

-- the entries in the order of their keys, and for how many more there is room
pub record Index : Type 0 where
  pub entries : List Entry
  pub room : ℕ

-- no entry has a smaller key than one before it
abbrev pub KeysNeverFall : List Entry → Type 0
KeysNeverFall entries = IsNonDecreasingBy (λ entry. entry.key) entries

-- one more entry, before the first that has a greater key
abbrev pub with_entry : List Entry → Entry → List Entry
with_entry [] entry = entry ∷ []
with_entry (other ∷ rest) entry = if nat_lt entry.key other.key then entry ∷ other ∷ rest else other ∷ with_entry rest entry

-- the entries of a list, one after the other put in order
abbrev pub in_order : List Entry → List Entry
in_order entries = fold with_entry [] entries

abbrev pub has_key : ℕ → Entry → Bool
has_key key entry = entry.key == key

-- the place that the first entry of that key names
abbrev pub place_of : List Entry → ℕ → Option ℕ
place_of entries key = option_map (λ entry. entry.place) (find (has_key key) entries)

-- the entries of rows that stand from that place on
abbrev pub entries_from : {Row : Type 0} → (Row → ℕ) → ℕ → List Row → List Entry
entries_from key place [] = []
entries_from key place (row ∷ rows) = record { key = key row; place = place } ∷ entries_from key (place + 1) rows

-- the index of rows
abbrev pub index_of : {Row : Type 0} → (Row → ℕ) → List Row → List Entry
index_of key rows = in_order (entries_from key 0 rows)

-- the key of a clerk's own number of a request
abbrev pub request_key : ℕ → ℕ → ℕ
request_key clerk request = clerk * 4294967296 + request
