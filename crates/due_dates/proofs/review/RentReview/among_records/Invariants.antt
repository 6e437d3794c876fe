use Rattle.due_dates.proofs.Words.{◌≡◌, map, take, is_due_on, with_days}
use Rattle.due_dates.proofs.review.RentReview.among_records.Given as goal

abbrev pub invariant-loop-held : goal.invariant-loop-held
invariant-loop-held l = l.least ≡ with_days (is_due_on l.self) l.fn.best (map (λ r. r.from) (take l.held-index l.records))
