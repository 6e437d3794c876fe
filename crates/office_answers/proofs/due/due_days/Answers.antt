use Rattle.office_answers.proofs.{Dues.one_is_due, Dues.none_is_due, due.due_days.Goals.in-Some+in_ok-push, due.due_days.Goals.in_default}
use Rattle.office_answers.proofs.due.due_days.Goals as goal

pub loop-place-preserved : goal.loop-place-preserved
loop-place-preserved c =
    elim c.match-due_of.branch [
      | in-Some+in_ok-push w ↦
          rw (w.dues-is, w.in_ok-push.ensures.items)
          (one_is_due c.args.register.now.known.households c.args.day c.loop-place.place c.loop-place.dues.items w.in-Some.due c.loop-place.invariant
          w.in-Some.ensures.value w.in-Some.ensures.soon)
      | in_default w ↦
          rw w.dues-is
          (none_is_due c.args.register.now.known.households c.args.day c.loop-place.place c.loop-place.dues.items c.loop-place.invariant w.in_default.ensures.value)
    ]
