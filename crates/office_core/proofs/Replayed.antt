-- Acts of tables that are done again.
use Rattle.std.proofs.Common.{◌≡◌, ◌∙◌, ◌≤◌, ◌<◌, ◌+◌, ℕ, List, get_or, take, ap, ap₂, refl, subst, length, Option, Some, None, sym, slice_get}
use Rattle.std.specs.Prelude.{find}
use Rattle.std.proofs.lemmas.{Option.slice_get-get_or, List.length-take-le}
use Rattle.book_rows.specs.{declared.rows.ActRow.ActRow, declared.rows.Batch.Batch, Book.Book}
use Rattle.office_answers.specs.Below.office_step.{declared.call.Call.Call, declared.call.Capacity.Capacity, Refusals.is_request_of, Step.last_act_day}
use Rattle.office_answers.specs.Below.office_step.Valid.{replayed, difference, with_rows, first_fault}
use Rattle.book_replay.specs.Replay.{IsReplayed, ReplayGoesOn, ReplayStops}
use Rattle.office_core.specs.{declared.drafting.BookLimits.BookLimits, declared.opening.OpenFault.OpenFault, declared.replaying.Replay.Replay, Held.IsNewTo, Opening.IsNamed, Replaying.IsReplay, Replaying.rows_of_first}

-- the book is the rows that the tables have of the acts that are done
first_rows : {capacity : Capacity} {tables : Book} {count : ℕ} {book : Book} → IsReplayed capacity tables count book → book ≡ rows_of_first count tables
first_rows done = λ i. record { acts = done.acts i; records = done.records i; lines = done.lines i }

with_found : (capacity : Capacity) (tables book : Book) (count : ℕ) (row : ActRow) (found : Option Batch) → ReplayGoesOn → IsReplayed capacity tables count book →
    slice_get tables.acts count ≡ Some row → replayed capacity book row ≡ found → difference tables row found ≡ None →
    IsReplayed capacity tables (count + 1) (with_rows book found)
with_found capacity tables book count row None law done is again none = absurd (cc)
with_found capacity tables book count row (Some rows) law done is again none = law capacity tables count book row rows done is again none

-- so many acts are done, and this is known by them
pub record IsDone (capacity : Capacity) (tables : Book) (count : ℕ) (replay : Replay) : Type 0 where
  pub known : IsReplay replay (rows_of_first count tables)
  pub done : IsReplayed capacity tables count (rows_of_first count tables)

-- The tables, their rows so far and the capacity are seen twice, the same.
module _ {capacity held : Capacity} {tables given so_far : Book} {count : ℕ} {replay : Replay} (row : ActRow)
    (is_given : given ≡ tables) (is_so_far : so_far ≡ rows_of_first count tables) (is_held : held ≡ capacity)
    (done : IsDone capacity tables count replay) (is : slice_get tables.acts count ≡ Some row) where
  -- one act more
  pub goes_on : {next : Replay} → ReplayGoesOn → difference given row (replayed held so_far row) ≡ None →
      IsReplay next (with_rows so_far (replayed held so_far row)) → IsDone capacity tables (count + 1) next
  goes_on {next} law same known = record {
    known = subst (IsReplay next) (first_rows more) (rw (is_so_far, is_held) at known);
    done = subst (IsReplayed capacity tables (count + 1)) (first_rows more) more;
  }
    where
      more : IsReplayed capacity tables (count + 1) (with_rows (rows_of_first count tables) (replayed capacity (rows_of_first count tables) row))
      more = with_found capacity tables (rows_of_first count tables) count row _ law done.done is refl (rw (is_given, is_so_far, is_held) at same)

  -- an act that differs
  pub stops : (fault : OpenFault) → ReplayStops → IsNamed (difference given row (replayed held so_far row)) fault → IsNamed (first_fault capacity tables) fault
  stops (OpenFault.BadBook fault) law named =
      law capacity tables count (rows_of_first count tables) row fault done.done is (rw (is_given, is_so_far, is_held) at named)
  stops OpenFault.NoMemory law named = record {}

-- so many acts are done, by the acts themselves
pub so_many : {given tables : Book} (acts : List ActRow) (count : ℕ) → given ≡ tables → count ≤ length acts →
    rows_of_first (length (take count acts)) given ≡ rows_of_first count tables
so_many acts count is within = ap₂ rows_of_first (length-take-le count acts within) is

-- the row at a place
pub there : {X : Type 0} (xs : List X) (place : ℕ) (x : X) → place < length xs → x ≡ get_or xs place x → slice_get xs place ≡ Some x
there xs place x within is = slice_get-get_or xs place x within ∙ ap Some (sym is)

-- a call is new to the acts that are done
pub new_to_done : {replay : Replay} {book : Book} {held : BookLimits} {done : List ActRow} {call : Call} → IsReplay replay book → done ≡ book.acts →
    held ≡ record { capacity = replay.capacity; last = last_act_day done; lines = replay.lines } →
    find (is_request_of call.clerk call.request) book.acts ≡ None → IsNewTo replay.register.known held call book
new_to_done known done is none = rw is (record {
  reached = known.reached;
  known_is = known.known;
  last = rw done refl;
  lines = known.held;
  is_new = none;
})
