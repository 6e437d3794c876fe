use Rattle.book_replay.proofs.Words.{◌≡◌, map, drop, stray}
use Rattle.book_replay.proofs.strays.stray_record.Given as goal

abbrev pub invariant-loop-made : goal.invariant-loop-made
invariant-loop-made l =
    stray l.count l.last (map (λ r. r.act) (drop l.made-index l.records)) ≡ stray l.count 0 (map (λ r. r.act) l.records)
