use Rattle.std.proofs.Common.{rules}
use Rattle.forms_text.specs.Form.{adjusting_line}
use Rattle.forms_text.proofs.schedules.push_adjusting_line.Goals as goal

pub returns : goal.returns
unfolding adjusting_line
returns c = search rules
