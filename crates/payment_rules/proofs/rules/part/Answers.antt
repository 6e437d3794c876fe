use Rattle.std.proofs.Common.{arith}
use Rattle.share_rules.proofs.SharesAdd.{at_most}
use Rattle.payment_rules.proofs.rules.part.Goals as goal

pub returns-clause-within : goal.returns-clause-within
returns-clause-within c =
    rw (c.round_half_up.ensures, c.into.ensures, c.into-2.ensures)
    (at_most c.args.amount c.args.eligible c.args.size (omega (arith, c.requires.some, c.requires.among)) c.requires.among)
