use Rattle.std.proofs.Common.{rules, ap, sym, ◌∙◌, ◌+◌, ℕ}
use Rattle.desk_history.specs.Seen.{book_of, pass_in}
use Rattle.shared_desk.proofs.Fresh.{handed_out}
use Rattle.shared_desk.proofs.passes.all_passes.Goals as goal

pub loop-given-preserved : goal.loop-given-preserved
loop-given-preserved g c =
    let so_far = c.loop-given.invariant in
    record {
      table = search rules;
      free = search rules;
      start = search rules;
      list = search rules;
      next = search rules;
      faults = search rules;
      fresh = handed_out (book_of c.args.book.now.me.0).start (book_of c.loop-given.book.me.0) c.loop-given.waiting.items c.push_back_reserved.new.self.items
          (pass_in c.hand_out-badge.result.views) so_far.start so_far.list (so_far.next ∙ ap (λ (n : ℕ). n + 1) (sym so_far.count))
          (ap pass_in c.hand_out-badge.ensures.pass) c.push_back_reserved.ensures.items so_far.fresh;
      count = search rules;
      room = search rules;
    }
