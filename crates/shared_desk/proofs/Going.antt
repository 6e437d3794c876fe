-- A history goes on by what the office appends, and its tables are an office's.
use Rattle.std.proofs.Common.{◌≡◌, ◌∙◌, sym, ap, refl, subst, ◌+◌, arith, List, [], ◌∷◌, ◌++◌, Option, Some, None, length, fold, IsSomeAnd}
use Rattle.std.proofs.lemmas.List.{length_push}
use Rattle.std.proofs.lemmas.List.Sums.{fold-append}
use Rattle.book_rows.specs.{declared.rows.ActRow.ActRow, declared.rows.Batch.Batch, Book.Book, Book.appended}
use Rattle.clerk_desk.specs.Below.office_step.{declared.call.Capacity.Capacity, Step.IsReached, Step.reached_more, Valid.replayed, Valid.with_rows}
use Rattle.clerk_desk.specs.Below.office_laws.{Kept.BooksAreKept, Replay.after_row, Replay.AppendedIsReplayed, Replay.ReplayedIsAppended, Upheld.BooksAreUpheld}
use Rattle.shared_desk.specs.History.{book_in, capacity_of, tables_at, IsLegalFrom, HistoriesGoOn, HistoriesWereLegal, IsReachedBy, HistoriesAreReached, HistoriesAreFew, HistoriesAreUpheld}

abbrev book_after : Capacity → Book → List ActRow → Book
book_after capacity book list = fold (after_row capacity) book list

-- ---- one row more

legal_push : (capacity : Capacity) (book : Book) (list : List ActRow) (rows : Batch) → IsLegalFrom capacity book list →
    replayed capacity (book_after capacity book list) rows.act ≡ Some rows → IsLegalFrom capacity book (list ++ rows.act ∷ [])
legal_push capacity book [] rows legal is = (subst (λ (found : Option Batch). IsSomeAnd found (λ batch. batch.act ≡ rows.act)) (sym is) refl, tt)
legal_push capacity book (row ∷ list) rows legal is = (legal.0, legal_push capacity (after_row capacity book row) list rows legal.1 is)

pub histories_go_on : AppendedIsReplayed → HistoriesGoOn
histories_go_on each start list rows legal now =
    let is : replayed (capacity_of start) (tables_at start list) rows.act ≡ Some rows = each (capacity_of start) (tables_at start list) rows now in
    record {
      legal = record {
        opened = legal.opened;
        each = legal_push (capacity_of start) (book_in start.opening) list rows legal.each is;
      };
      tables = fold-append (after_row (capacity_of start)) (book_in start.opening) list (rows.act ∷ [])
          ∙ ap (with_rows (tables_at start list)) is;
    }

legal_front : (capacity : Capacity) (book : Book) (list more : List ActRow) → IsLegalFrom capacity book (list ++ more) → IsLegalFrom capacity book list
legal_front capacity book [] more legal = tt
legal_front capacity book (row ∷ list) more legal = (legal.0, legal_front capacity (after_row capacity book row) list more legal.1)

pub histories_were_legal : HistoriesWereLegal
histories_were_legal start list more legal = record {
  opened = legal.opened;
  each = legal_front (capacity_of start) (book_in start.opening) list more legal.each;
}

-- ---- the tables

record IsReachedWith (capacity : Capacity) (book after : Book) (list : List ActRow) : Type 0 where
  pub reached : IsReached capacity after
  pub acts : length after.acts ≡ length book.acts + length list

-- the tables after a row, whose rows are these, and after what follows it
row_first : ReplayedIsAppended → (capacity : Capacity) (book : Book) (row : ActRow) (list : List ActRow) → IsReached capacity book →
    ((next : Book) → IsReached capacity next → IsLegalFrom capacity next list → IsReachedWith capacity next (book_after capacity next list) list) →
    (found : Option Batch) → replayed capacity book row ≡ found → IsSomeAnd found (λ rows. rows.act ≡ row) →
    IsLegalFrom capacity (with_rows book found) list → IsReachedWith capacity book (book_after capacity (with_rows book found) list) (row ∷ list)
row_first back capacity book row list reached follow None is none rest = absurd none
row_first back capacity book row list reached follow (Some rows) is same rest =
    let more : IsReachedWith capacity (appended book rows) (book_after capacity (appended book rows) list) list =
    follow (appended book rows) (reached_more reached (back capacity book row rows is)) rest in
    record { reached = more.reached; acts = omega (arith, more.acts, length_push book.acts rows.act) }

reached_from : ReplayedIsAppended → (capacity : Capacity) (book : Book) (list : List ActRow) → IsReached capacity book → IsLegalFrom capacity book list →
    IsReachedWith capacity book (book_after capacity book list) list
reached_from back capacity book [] reached legal = record { reached = reached; acts = omega arith }
reached_from back capacity book (row ∷ list) reached legal =
    row_first back capacity book row list reached (λ next. reached_from back capacity next list) (replayed capacity book row) refl legal.0 legal.1

pub histories_are_reached : ReplayedIsAppended → HistoriesAreReached
histories_are_reached back start list legal =
    let are = reached_from back (capacity_of start) (book_in start.opening) list legal.opened legal.each in
    record { reached = are.reached; acts = are.acts }

pub histories_are_few : ReplayedIsAppended → BooksAreKept → HistoriesAreFew
histories_are_few back kept start list legal =
    let are : IsReachedBy start list = histories_are_reached back start list legal in
    let room = (kept (capacity_of start) (tables_at start list) are.reached).room.acts in
    omega (arith, are.acts, room)

pub histories_are_upheld : ReplayedIsAppended → BooksAreUpheld → HistoriesAreUpheld
histories_are_upheld back upheld start list legal =
    upheld (capacity_of start) (tables_at start list) (histories_are_reached back start list legal).reached
