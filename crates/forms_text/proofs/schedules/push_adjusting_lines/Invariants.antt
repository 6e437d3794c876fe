use Rattle.std.proofs.Common.{◌≡◌, ◌==◌, ◌++◌, not, take, filter}
use Rattle.std.specs.List.{flat_map}
use Rattle.forms_text.specs.Form.{adjusting_line}
use Rattle.forms_text.proofs.schedules.push_adjusting_lines.Given as goal

abbrev pub invariant-loop-line : goal.invariant-loop-line
invariant-loop-line l =
    l.text.items ≡ l.initial.text.items ++ flat_map adjusting_line (filter (λ line. not (line.for_month == l.month)) (take l.line-index l.lines))
