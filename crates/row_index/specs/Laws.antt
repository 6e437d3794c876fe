-- What an index of rows says of them.
use Rattle.std.specs.Prelude.{◌≡◌, ◌<◌, ◌^◌, ℕ, ◌==◌, ◌&&◌, List, [], ◌∷◌, ◌++◌, find, length, slice_get}
use Rattle.std.specs.Option.{option_and_then}
use Rattle.row_index.specs.Index.{place_of, index_of, with_entry, request_key}

-- the row at the place that the index gives is the first row of that key
abbrev pub IndexFinds : Type 0 → Type 0
IndexFinds Row = (key : Row → ℕ) (rows : List Row) (wanted : ℕ) →
    option_and_then (slice_get rows) (place_of (index_of key rows) wanted) ≡ find (λ row. key row == wanted) rows

-- the index of one row more is the index with an entry more
abbrev pub IndexGrows : Type 0 → Type 0
IndexGrows Row = (key : Row → ℕ) (rows : List Row) (row : Row) →
    index_of key (rows ++ row ∷ []) ≡ with_entry (index_of key rows) (record { key = key row; place = length rows })

-- requests have the same key just where clerk and number are the same
abbrev pub RequestKeysDiffer : Type 0
RequestKeysDiffer = (clerk request other_clerk other_request : ℕ) → request < 2 ^ 32 → other_request < 2 ^ 32 →
    (request_key clerk request == request_key other_clerk other_request) ≡ (clerk == other_clerk && request == other_request)
