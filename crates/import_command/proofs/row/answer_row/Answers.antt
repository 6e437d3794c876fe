use Rattle.import_command.proofs.SoFar.{unsaid}
use Rattle.import_command.proofs.row.answer_row.Goals as goal

pub returns-in-Err-clause-answered : goal.returns-in-Err-clause-answered
returns-in-Err-clause-answered g c = (c.today-today.result, c.today-today.ensures, unsaid _ _ _ _ c.in-Err.ending c.in-Err.ensures.told)
