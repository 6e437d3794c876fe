use Rattle.std.proofs.Common.{◌≡◌, ◌==◌, ◌++◌, take, filter}
use Rattle.std.specs.List.{flat_map}
use Rattle.office_core.specs.Below.office_step.Known.{known_of}
use Rattle.forms_text.specs.Form.{own_line}
use Rattle.forms_text.proofs.schedules.push_own_lines.Given as goal

abbrev pub invariant-loop-line : goal.invariant-loop-line
invariant-loop-line l =
    l.text.items ≡ l.initial.text.items ++ flat_map (own_line (known_of l.office.book)) (filter (λ line. line.for_month == l.month) (take l.line-index l.lines))
