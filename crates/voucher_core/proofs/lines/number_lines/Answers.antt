use Rattle.std.proofs.Common.{◌<◌, length, arith}
use Rattle.voucher_core.proofs.Gathered.{place_next}
use Rattle.voucher_core.proofs.lines.number_lines.Goals as goal

pub loop-at-preserved : goal.loop-at-preserved
loop-at-preserved c =
    let within : c.loop-at.at < length c.args.lines.now.items = omega arith in
    place_next c.loop-at.lines.items c.args.lines.now.items c.loop-at.at c.index_mut-line.result.now within c.loop-at.invariant c.index_mut-line.ensures.value
