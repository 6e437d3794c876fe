use Rattle.std.proofs.Common.{◌≡◌, ◌≤◌, ◌+◌, [], length}
use Rattle.std.specs.VecDeque.{deque_capacity}
use Rattle.desk_history.specs.declared.views.View.TheVariants.{Free}
use Rattle.desk_history.specs.Seen.{book_of}
use Rattle.shared_desk.specs.Passes.{AreFresh}
use Rattle.shared_desk.proofs.passes.all_passes.Given as goal

abbrev pub invariant-loop-given : goal.invariant-loop-given
invariant-loop-given g l = record {
  table : l.book.table_id ≡ l.initial.book.table_id;
  free : l.book.me ≡ (Free (book_of l.book.me.0), []);
  start : (book_of l.book.me.0).start ≡ (book_of l.initial.book.me.0).start;
  list : (book_of l.book.me.0).list ≡ [];
  next : (book_of l.book.me.0).next ≡ l.given + 1;
  faults : (book_of l.book.me.0).faults ≡ (book_of l.initial.book.me.0).faults;
  fresh : AreFresh (book_of l.initial.book.me.0).start 1 l.waiting.items;
  count : length l.waiting.items ≡ l.given;
  room : 32 ≤ deque_capacity l.waiting;
}
