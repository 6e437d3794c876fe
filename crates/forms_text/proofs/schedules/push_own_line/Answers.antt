use Rattle.std.proofs.Common.{rules}
use Rattle.forms_text.specs.Form.{own_line}
use Rattle.forms_text.proofs.schedules.push_own_line.Goals as goal

pub returns : goal.returns
unfolding own_line
returns c = search rules
