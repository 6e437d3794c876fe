use Rattle.std.proofs.Common.{sym, ◌∙◌}
use Rattle.book_rows.proofs.SameRows.{line_equal}
use Rattle.book_rows.proofs.same.same_line.Goals as goal

pub returns-clause-equal : goal.returns-clause-equal
returns-clause-equal c = λ same. line_equal c.args.first.now c.args.other.now (sym c.is_same_line.ensures ∙ same)
