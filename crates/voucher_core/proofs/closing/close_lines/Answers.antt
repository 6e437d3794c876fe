use Rattle.voucher_core.proofs.Words.{length, records_of}
use Rattle.voucher_core.proofs.{Few.few, Gathered.length-placed}
use Rattle.voucher_core.proofs.closing.close_lines.Goals as goal

pub number_lines-requires : goal.number_lines-requires
number_lines-requires c =
    rw c.in_ok-lines.ensures
    (few (records_of c.args.history.now.households) (length c.args.history.now.households) c.args.closing.now
    c.requires.households c.requires.first_month c.requires.month)

pub returns-clause-few : goal.returns-clause-few
returns-clause-few c =
    rw (c.number_lines.ensures, length-placed, c.in_ok-lines.ensures)
    (few (records_of c.args.history.now.households) (length c.args.history.now.households) c.args.closing.now
    c.requires.households c.requires.first_month c.requires.month)
