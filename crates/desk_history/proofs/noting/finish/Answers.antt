use Rattle.std.proofs.Common.{rules}
use Rattle.desk_history.proofs.noting.finish.Goals as goal

pub returns-clause-start : goal.returns-clause-start
returns-clause-start g c = search rules

pub returns-clause-front : goal.returns-clause-front
returns-clause-front g c = search rules

pub returns-clause-own : goal.returns-clause-own
returns-clause-own g c = search rules

pub returns-clause-tried : goal.returns-clause-tried
returns-clause-tried g c = search rules

pub returns-clause-passes : goal.returns-clause-passes
returns-clause-passes g c = search rules
