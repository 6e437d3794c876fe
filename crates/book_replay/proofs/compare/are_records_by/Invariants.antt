use Rattle.book_replay.proofs.Words.{◌≡◌, ◌≤◌, drop, length, pointwise, same_record, records_by}
use Rattle.book_replay.proofs.compare.are_records_by.Given as goal

abbrev pub invariant-loop-made : goal.invariant-loop-made
invariant-loop-made l =
    (l.seen ≤ length l.own)
    × (pointwise same_record (drop l.seen l.own) (records_by l.n (drop l.made-index l.records)) ≡ pointwise same_record l.own (records_by l.n l.records))
