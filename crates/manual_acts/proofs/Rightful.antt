-- The rightful days of the manual's acts.
use Rattle.std.proofs.Common.{◌≡◌, ◌≢◌, ◌∙◌, ap, refl, ◌+◌, arith}
use Rattle.days_core.specs.Calendar.{first_of, month_of}
use Rattle.due_dates.specs.Rightful.{begins_from, first_start_from, next_month, has_anniversary_after, next_anniversary}
use Rattle.due_dates.proofs.MonthLemmas.{first_month_that-is, first_start-next, anniversary, wait_of}
use Rattle.manual_acts.proofs.Days.{first_1730, first_1731, first_1740, first_1743, month_52595, month_52635, month_52675, month_53039}

-- Ada Reed's anniversary after the first month: 2025-01-01
pub anniversary_2025 : next_anniversary 52595 52595 ≡ 52961
anniversary_2025 =
    ap first_of (first_month_that-is (has_anniversary_after 52595 52595) (month_of 52595 + 1 + wait_of 52595 52595) (anniversary 52595 52595 (omega arith)))
    ∙ rw (month_52595, first_1740) refl

-- the first month that begins at least thirty days after 2024-02-20 begins on 2024-04-01
pub start_april : first_start_from 52675 ≡ 52686
start_april =
    ap first_of (first_month_that-is (begins_from 52675) (month_of 52675 + 1) (first_start-next 52675 (omega arith) other))
    ∙ rw (month_52675, first_1731) refl
  where
    other : first_of (month_of 52675) ≢ 52675
    other = rw (month_52675, first_1730) (λ same. absurd (omega arith))

-- the month after 2025-03-20 begins on 2025-04-01
pub after_march : next_month 53039 ≡ 53051
after_march = rw (month_53039, first_1743) refl

-- and the month after 2024-02-10 on 2024-03-01
pub after_february : next_month 52635 ≡ 52655
after_february = rw (month_52635, first_1730) refl
