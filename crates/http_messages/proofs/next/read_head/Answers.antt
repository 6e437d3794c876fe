use Rattle.std.proofs.Common.{inl, arith, rules}
use Rattle.http_messages.proofs.Growth.{grows_read}
use Rattle.http_messages.proofs.next.read_head.Goals as goal

pub reads-preserved : goal.reads-preserved
reads-preserved g c =
    let read = c.in-Bytes.ensures.receives in
    record {
      grows = grows_read _ c.reads.held _ _ _ _ read.0 c.reads.invariant.grows (inl (search rules, omega arith)) read.1 read.3 read.4;
      faults = search rules;
    }
