use Rattle.book_replay.proofs.Words.{◌≡◌, ◌≤◌, drop, length, pointwise, same_line, lines_by}
use Rattle.book_replay.proofs.compare.are_lines_by.Given as goal

abbrev pub invariant-loop-line : goal.invariant-loop-line
invariant-loop-line l =
    (l.seen ≤ length l.own)
    × (pointwise same_line (drop l.seen l.own) (lines_by l.n (drop l.line-index l.lines)) ≡ pointwise same_line l.own (lines_by l.n l.lines))
