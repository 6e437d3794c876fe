use Rattle.std.proofs.Common.{◌∙◌}
use Rattle.simulation.proofs.More.{answered_more}
use Rattle.simulation.proofs.answering.answer_acts.Goals as goal

pub loop-place-preserved : goal.loop-place-preserved
loop-place-preserved c = record {
  book = answered_more c.args.office.now.capacity _ c.args.office.now.book c.loop-place.office.book _ c.args.acts.now c.loop-place.place c.index-acts-place.result
      c.loop-place-test.true c.index-acts-place.is c.loop-place.invariant.capacity c.loop-place.invariant.book c.in_ok-answer_act.ensures.book;
  capacity = c.answer_act.ensures.capacity ∙ c.loop-place.invariant.capacity;
  kept = c.answer_act.ensures.kept;
}
