use Rattle.tenancy_rules.proofs.Words.{is_before}
use Rattle.tenancy_rules.proofs.Ordered.{taken}
use Rattle.tenancy_rules.proofs.changed.all_before.Goals as goal

pub returns : goal.returns
returns c = taken (is_before c.args.day c.args.number) c.args.live.now c.how_many_before.result c.how_many_before.ensures.bound c.how_many_before.ensures.point
