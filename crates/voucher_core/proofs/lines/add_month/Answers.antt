use Rattle.voucher_core.proofs.Words.{[], records_of, month_lines, known_as_of}
use Rattle.voucher_core.proofs.Gathered.{pieces-more}
use Rattle.voucher_core.proofs.lines.add_month.Goals as goal

pub loop-household-preserved : goal.loop-household-preserved
loop-household-preserved c =
    pieces-more (λ h. month_lines c.args.closing.now h c.args.closing.now.closed [] (known_as_of (records_of c.args.history.now.households) c.args.closing.now.act h)) 1 c.loop-household.household c.args.lines.now.items
    c.loop-household.lines.items c.add_household.new.lines.items c.loop-household.auto.household c.loop-household.invariant c.in_ok-add_household.ensures
