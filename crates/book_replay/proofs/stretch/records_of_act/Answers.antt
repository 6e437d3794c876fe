use Rattle.book_replay.proofs.Words.{◌-◌, length, drop, arith, length-drop, take_all, filter_stretch}
use Rattle.book_replay.proofs.stretch.records_of_act.Goals as goal

pub returns : goal.returns
returns c =
    let records = c.args.records.now in
    let i = c.first_record.result in
    let rest = take_all (length records - i) (drop i records) (omega (arith, length-drop i records)) in
    rw rest (filter_stretch (λ r. r.act) records c.args.n i c.records_up_to.result c.first_record.ensures.bound
    (rw rest at c.records_up_to.ensures.bound) c.first_record.ensures.point (rw rest at c.records_up_to.ensures.point))
