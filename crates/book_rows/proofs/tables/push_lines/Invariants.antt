use Rattle.std.proofs.Common.{◌≡◌, ◌+◌, ◌-◌, ◌++◌, take, vec_len, vec_capacity}
use Rattle.book_rows.proofs.tables.push_lines.Given as goal

abbrev pub invariant-loop-line : goal.invariant-loop-line
invariant-loop-line l = record {
  items : l.lines.items ≡ l.initial.lines.items ++ take l.line-index l.more;
  room : vec_capacity l.lines - vec_len l.lines + l.line-index ≡ vec_capacity l.initial.lines - vec_len l.initial.lines;
}
