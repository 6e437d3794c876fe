use Rattle.std.proofs.Common.{◌∙◌, ◌≤◌, arith, length, rules}
use Rattle.office_core.proofs.Replayed.{there, goes_on, stops, so_many}
use Rattle.office_core.proofs.opening.fault_of_tables.Goals as goal

pub returns-in-Err-clause-named : goal.returns-in-Err-clause-named
returns-in-Err-clause-named c =
    let place = c.loop-place.place in
    let test = rw (c.deref-row-items.ensures.value, ← c.deref.ensures.value) at c.loop-place-test.true in
    let within : place ≤ length c.deref.result.now = omega (arith, test) in
    stops c.row-item.result c.requires.given (so_many c.deref.result.now place c.requires.given within) c.loop-place.invariant.capacity c.loop-place.invariant.done
    (rw c.deref-row-items.ensures.value at (there c.deref-row-items.result.now place c.row-item.result c.loop-place-test.true c.row-item.is))
    c.in-Err.fault c.replay_is_kept.ensures.stops c.in-Err.ensures.named

pub loop-place-preserved : goal.loop-place-preserved
loop-place-preserved c =
    let place = c.loop-place.place in
    let test = rw (c.deref-row-items.ensures.value, ← c.deref.ensures.value) at c.loop-place-test.true in
    let within : place ≤ length c.deref.result.now = omega (arith, test) in
    record {
      capacity = c.redo.ensures.capacity ∙ c.loop-place.invariant.capacity;
      done =
          goes_on c.row-item.result c.requires.given (so_many c.deref.result.now place c.requires.given within) c.loop-place.invariant.capacity c.loop-place.invariant.done
          (rw c.deref-row-items.ensures.value at (there c.deref-row-items.result.now place c.row-item.result c.loop-place-test.true c.row-item.is))
          c.replay_is_kept.ensures.goes_on c.in_default.ensures.goes_on c.in_default.ensures.known;
    }

pub returns-in-None-clause-valid : goal.returns-in-None-clause-valid
returns-in-None-clause-valid c = search rules

pub returns-in-None-clause-known : goal.returns-in-None-clause-known
returns-in-None-clause-known c = search rules
