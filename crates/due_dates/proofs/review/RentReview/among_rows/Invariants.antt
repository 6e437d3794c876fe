use Rattle.due_dates.proofs.Words.{◌≡◌, map, take, is_due_on, with_days}
use Rattle.due_dates.proofs.review.RentReview.among_rows.Given as goal

abbrev pub invariant-loop-row : goal.invariant-loop-row
invariant-loop-row l = l.least ≡ with_days (is_due_on l.self) l.fn.best (map (λ row. row.from) (take l.row-index l.rows))
