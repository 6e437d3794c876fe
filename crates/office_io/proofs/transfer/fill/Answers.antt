use Rattle.std.proofs.{Common.arith, Common.rules, Common.take, lemmas.List.length-take-le, KnownBytes.Consumes-kept}
use Rattle.office_io.proofs.Moves.{length-behind, behind-within, Consumes-next}
use Rattle.office_io.proofs.transfer.fill.Goals as goal

pub loop-count-preserved : goal.loop-count-preserved
loop-count-preserved g c = record {
  within = behind-within _ _ c.loop-count.count c.in-Bytes.more c.loop-count.invariant.within c.read.auto.buffer c.in-Bytes.ensures.bytes.1;
  taken = Consumes-next _ _ _ _ _ c.loop-count.count c.in-Bytes.more c.loop-count.invariant.within c.in-Bytes.ensures.bytes.1
      c.loop-count.invariant.taken c.in-Bytes.ensures.bytes.2;
  kept = search rules;
}

pub returns-in-Failed-clause-failed : goal.returns-in-Failed-clause-failed
returns-in-Failed-clause-failed g c = λ _.
    let sized = length-behind _ _ c.loop-count.count c.read.auto.buffer in
    let front = length-take-le c.loop-count.count c.loop-count.buffer c.loop-count.invariant.within in
    (take c.loop-count.count c.loop-count.buffer, omega (arith, sized, front), Consumes-kept _ _ _ _ c.loop-count.invariant.taken c.in-Failed.ensures.bytes)
