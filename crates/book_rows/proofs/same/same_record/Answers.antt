use Rattle.std.proofs.Common.{sym, ◌∙◌}
use Rattle.book_rows.proofs.SameRows.{record_equal}
use Rattle.book_rows.proofs.same.same_record.Goals as goal

pub returns-clause-equal : goal.returns-clause-equal
returns-clause-equal c = λ same. record_equal c.args.first.now c.args.other.now (sym c.is_same_record.ensures ∙ same)
