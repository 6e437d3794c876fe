use Rattle.std.proofs.Common.{sym, ◌∙◌}
use Rattle.book_rows.proofs.SameRows.{act_equal}
use Rattle.book_rows.proofs.same.same_act.Goals as goal

pub returns-clause-equal : goal.returns-clause-equal
returns-clause-equal c = λ same. act_equal c.args.first.now c.args.other.now (sym c.is_same_act.ensures ∙ same)
