use Rattle.std.specs.Prelude.{◌≡◌, length}
use Rattle.book_rows.specs.Book.{book_of}
use Rattle.office_core.specs.Replaying.{rows_of_first}
use Rattle.office_core.proofs.Replayed.{IsDone}
use Rattle.office_core.proofs.opening.fault_of_tables.Given as goal

abbrev pub ghost-redo : goal.ghost-redo
ghost-redo a = rows_of_first (length a.done.now) a.given.now

abbrev pub invariant-loop-place : goal.invariant-loop-place
invariant-loop-place l = record {
  capacity : l.replay.capacity ≡ l.fn.replay.capacity;
  done : IsDone l.fn.replay.capacity (book_of l.tables) l.place l.replay;
}
