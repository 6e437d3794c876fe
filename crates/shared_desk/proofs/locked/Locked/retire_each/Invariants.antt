use Rattle.std.specs.Prelude.{◌≡◌, All, length}
use Rattle.shared_desk.specs.Desk.{HasItsOwn}
use Rattle.shared_desk.proofs.locked.Locked.retire_each.Given as goal

abbrev pub invariant-loop-pass : goal.invariant-loop-pass
invariant-loop-pass g l = record {
  same : l.self ≡ l.initial.self;
  left : All (HasItsOwn l.initial.self.book.list l.initial.self.book.tried) l.passes.items
      → All (HasItsOwn l.initial.self.book.list l.initial.self.book.tried) l.fn.passes.items;
}

abbrev pub decreases-loop-pass : goal.decreases-loop-pass
decreases-loop-pass g l = length l.passes.items
