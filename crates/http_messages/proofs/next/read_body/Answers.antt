use Rattle.std.proofs.Common.{ℕ, List, sym, subst, arith, rules}
use Rattle.http_heads.specs.Looks.{IsFoundIn}
use Rattle.http_heads.proofs.Lifts.{found_more}
use Rattle.http_messages.specs.Messages.{IsUnfinished}
use Rattle.http_messages.proofs.{Bodies.part_body, Bodies.whole_fits, Growth.grows_kept, Growth.grows_read}
use Rattle.http_messages.proofs.next.read_body.Goals as goal

pub overflow_add-whole : goal.overflow_add-whole
overflow_add-whole g c = omega (arith, whole_fits c.args.held.now c.args.found.now c.args.count c.requires.found c.requires.body)

pub receive-requires-clause-fits : goal.receive-requires-clause-fits
receive-requires-clause-fits g c = whole_fits c.args.held.now c.args.found.now c.args.count c.requires.found c.requires.body

pub reads-preserved : goal.reads-preserved
reads-preserved g c =
    let read = c.in-Bytes.ensures.receives in
    record {
      grows = grows_read _ c.reads.held _ _ _ _ read.0 c.reads.invariant.grows
          (part_body c.reads.held c.args.found.now c.args.count c.reads.invariant.there c.requires.body (omega arith)) read.1 read.3 read.4;
      faults = search rules;
      there = subst (λ (l : List ℕ). IsFoundIn l c.args.found.now) (sym read.1) (found_more c.reads.held read.0 c.args.found.now c.reads.invariant.there);
    }

pub returns-in-End-clause-comes : goal.returns-in-End-clause-comes
returns-in-End-clause-comes g c =
    let read = c.in-End.ensures.receives in (
      grows_kept _ c.reads.held _ _ _ _ c.reads.invariant.grows read.0 read.1,
      read.2,
      subst IsUnfinished (sym read.0) (part_body c.reads.held c.args.found.now c.args.count c.reads.invariant.there c.requires.body (omega arith)),
    )

pub returns-in-Failed-clause-comes : goal.returns-in-Failed-clause-comes
returns-in-Failed-clause-comes g c =
    let read = c.in-Failed.ensures.receives in (
      grows_kept _ c.reads.held _ _ _ _ c.reads.invariant.grows read.0 read.1,
      subst IsUnfinished (sym read.0) (part_body c.reads.held c.args.found.now c.args.count c.reads.invariant.there c.requires.body (omega arith)),
    )
