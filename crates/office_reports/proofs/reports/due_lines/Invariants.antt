use Rattle.std.proofs.Common.{◌≡◌, take}
use Rattle.std.specs.List.{flat_map}
use Rattle.office_reports.specs.Reports.{due_line}
use Rattle.office_reports.proofs.reports.due_lines.Given as goal

abbrev pub invariant-loop-due : goal.invariant-loop-due
invariant-loop-due l = l.text.items ≡ flat_map due_line (take l.due-index l.dues)
