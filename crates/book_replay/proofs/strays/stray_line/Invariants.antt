use Rattle.book_replay.proofs.Words.{◌≡◌, map, drop, stray}
use Rattle.book_replay.proofs.strays.stray_line.Given as goal

abbrev pub invariant-loop-line : goal.invariant-loop-line
invariant-loop-line l =
    stray l.count l.last (map (λ line. line.act) (drop l.line-index l.lines)) ≡ stray l.count 0 (map (λ line. line.act) l.lines)
