-- The history of a desk: the rows that its office accepted since the desk was opened, in their order. Which histories are
-- legal, and the tables after one.
use Rattle.std.specs.Prelude.{◌≡◌, ◌≤◌, ⊤, ◌+◌, List, [], ◌∷◌, ◌++◌, length, fold, IsSomeAnd}
use Rattle.book_rows.specs.{declared.rows.ActRow.ActRow, declared.rows.Batch.Batch, Book.Book, Book.appended}
use Rattle.clerk_desk.specs.Below.office_step.{declared.call.Capacity.Capacity, Step.IsAppended, Step.IsReached, Valid.replayed}
use Rattle.clerk_desk.specs.Below.office_laws.{Replay.after_row, Upheld.IsUpheld}
use Rattle.desk_history.specs.declared.views.{Opening.Opening, Start.Start}

-- the book on which a desk was opened
abbrev pub book_in : Opening → Book
book_in opening = record { acts = opening.acts; records = opening.records; lines = opening.lines }

-- how much its office holds
abbrev pub capacity_of : Start → Capacity
capacity_of start = record { acts = start.most_acts; lines = start.most_lines }

-- the tables after a history: each row of it is done again
abbrev pub tables_at : Start → List ActRow → Book
tables_at start list = fold (after_row (capacity_of start)) (book_in start.opening) list

-- from that book on, the office appends exactly each of these rows for the row's own session, day and call
abbrev pub IsLegalFrom : Capacity → Book → List ActRow → Type 0
IsLegalFrom capacity book [] = ⊤
IsLegalFrom capacity book (row ∷ list) =
    IsSomeAnd (replayed capacity book row) (λ rows. rows.act ≡ row) × IsLegalFrom capacity (after_row capacity book row) list

-- a history over tables that an office comes to from nothing
pub record IsLegalHistory (start : Start) (list : List ActRow) : Type 0 where
  pub opened : IsReached (capacity_of start) (book_in start.opening)
  pub each : IsLegalFrom (capacity_of start) (book_in start.opening) list

-- ---- laws

-- a legal history goes on by the row of what the office appends, and the tables after it have the rows
pub record GoesOnBy (start : Start) (list : List ActRow) (rows : Batch) : Type 0 where
  pub legal : IsLegalHistory start (list ++ rows.act ∷ [])
  pub tables : tables_at start (list ++ rows.act ∷ []) ≡ appended (tables_at start list) rows

abbrev pub HistoriesGoOn : Type 0
HistoriesGoOn = (start : Start) (list : List ActRow) (rows : Batch) → IsLegalHistory start list →
    IsAppended (capacity_of start) (tables_at start list) rows → GoesOnBy start list rows

-- a history is legal at each earlier point
abbrev pub HistoriesWereLegal : Type 0
HistoriesWereLegal = (start : Start) (list more : List ActRow) → IsLegalHistory start (list ++ more) → IsLegalHistory start list

-- the tables after a legal history are an office's, and have an act more for each row of it
pub record IsReachedBy (start : Start) (list : List ActRow) : Type 0 where
  pub reached : IsReached (capacity_of start) (tables_at start list)
  pub acts : length (tables_at start list).acts ≡ length start.opening.acts + length list

abbrev pub HistoriesAreReached : Type 0
HistoriesAreReached = (start : Start) (list : List ActRow) → IsLegalHistory start list → IsReachedBy start list

-- a legal history has no more rows than the office holds acts
abbrev pub HistoriesAreFew : Type 0
HistoriesAreFew = (start : Start) (list : List ActRow) → IsLegalHistory start list → length list ≤ start.most_acts

-- the laws of an office's books hold after each legal history
abbrev pub HistoriesAreUpheld : Type 0
HistoriesAreUpheld = (start : Start) (list : List ActRow) → IsLegalHistory start list → IsUpheld (capacity_of start) (tables_at start list)
