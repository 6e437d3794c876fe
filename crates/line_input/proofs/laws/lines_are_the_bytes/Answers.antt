use Rattle.line_input.proofs.Whole.{lines_are_the_bytes}
use Rattle.line_input.proofs.laws.lines_are_the_bytes.Goals as goal

pub returns : goal.returns
returns c = lines_are_the_bytes
