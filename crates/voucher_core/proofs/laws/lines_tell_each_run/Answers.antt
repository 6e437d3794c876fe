use Rattle.voucher_core.proofs.EachRun.{lines_tell_each_run}
use Rattle.voucher_core.proofs.laws.lines_tell_each_run.Goals as goal

pub returns : goal.returns
returns c = lines_tell_each_run
