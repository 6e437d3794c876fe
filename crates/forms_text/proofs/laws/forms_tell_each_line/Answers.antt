use Rattle.forms_text.proofs.Told.{columns_line_up, each_line_once, totals_are_sums}
use Rattle.forms_text.proofs.laws.forms_tell_each_line.Goals as goal

pub returns-clause-once : goal.returns-clause-once
returns-clause-once c = each_line_once

pub returns-clause-sums : goal.returns-clause-sums
returns-clause-sums c = totals_are_sums

pub returns-clause-lined_up : goal.returns-clause-lined_up
returns-clause-lined_up c = columns_line_up
