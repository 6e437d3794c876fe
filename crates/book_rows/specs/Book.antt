-- A book: what an office has accepted, and what each act appends to it.
use Rattle.std.specs.Prelude.{◌≡◌, ◌≤◌, ◌<◌, ℕ, ◌+◌, ◌-◌, ◌==◌, ◌&&◌, Bool, List, [], ◌∷◌, ◌++◌, All, length, slice_index_or, option_to_list, IfSome, vec_len, vec_capacity}
use Rattle.record_history.specs.declared.records.Record.{Record}
use Rattle.voucher_core.specs.declared.line.Line.{Line}
use Rattle.book_rows.specs.declared.{rows.ActRow.ActRow, rows.Batch.Batch, tables.Tables.Tables}

-- the acts, and the records and lines that they made, in the order in which they came
pub record Book : Type 0 where
  pub acts : List ActRow
  pub records : List Record
  pub lines : List Line

-- the act is of that clerk and the clerk's own number of a request
abbrev pub is_request_of : ℕ → ℕ → ActRow → Bool
is_request_of clerk request act = act.clerk == clerk && act.request == request

-- the rows that tables hold
abbrev pub book_of : Tables → Book
book_of tables = record { acts = tables.acts.items; records = tables.records.items; lines = tables.lines.items }

abbrev pub empty_book : Book
empty_book = record { acts = []; records = []; lines = [] }

-- the book with the rows of one more act
abbrev pub appended : Book → Batch → Book
appended book batch = record {
  acts = book.acts ++ batch.act ∷ [];
  records = book.records ++ option_to_list batch.made;
  lines = book.lines ++ batch.lines;
}

-- the rows are one act's: its record and its lines name it, and the lines have the places 1, 2 and so on
pub record IsBatch (batch : Batch) : Type 0 where
  pub made : IfSome batch.made (λ r. r.act ≡ batch.act.n)
  pub lines : All (λ line. line.act ≡ batch.act.n) batch.lines
  pub places : (place : ℕ) (d : Line) → place < length batch.lines → (slice_index_or batch.lines place d).place ≡ place + 1

-- every row is of an act before that one
pub record IsBefore (book : Book) (n : ℕ) : Type 0 where
  pub acts : All (λ act. act.n < n) book.acts
  pub records : All (λ r. r.act < n) book.records
  pub lines : All (λ line. line.act < n) book.lines

-- for how many more rows of each sort tables have room
pub record Room : Type 0 where
  pub acts : ℕ
  pub records : ℕ
  pub lines : ℕ

abbrev pub room_of : Tables → Room
room_of tables = record {
  acts = vec_capacity tables.acts - vec_len tables.acts;
  records = vec_capacity tables.records - vec_len tables.records;
  lines = vec_capacity tables.lines - vec_len tables.lines;
}

-- there is room for an act, for a record whether or not it makes one, and for its lines
pub record HasRoom (room : Room) (batch : Batch) : Type 0 where
  pub acts : 1 ≤ room.acts
  pub records : 1 ≤ room.records
  pub lines : length batch.lines ≤ room.lines

-- room in the place of other room is no less of any sort
pub record IsNoLess (old new : Room) : Type 0 where
  pub acts : old.acts ≤ new.acts
  pub records : old.records ≤ new.records
  pub lines : old.lines ≤ new.lines
