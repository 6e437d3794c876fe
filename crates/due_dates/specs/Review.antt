-- How the code looks for the least day among some days, one after another.
use Rattle.std.specs.Prelude.{ℕ, ◌&&◌, nat_lt, nat_le, if◌then◌else◌, Bool, Option, List, fold}
use Rattle.record_history.specs.Held.{records_of}
use Rattle.row_choice.specs.Latest.{later}
use Rattle.due_dates.specs.{declared.review.RentReview.RentReview, Stale.is_rent_stale_on}

-- the day lies in the span, and the household's rents are stale on it
abbrev pub is_due_on : RentReview → ℕ → Bool
is_due_on review day =
    (nat_le review.first day && nat_le day review.last)
    && is_rent_stale_on (records_of review.history.now.households review.household) review.table.now.units review.table.now.rents day

-- the least day so far once another has been looked at
abbrev pub with_day : (ℕ → Bool) → Option ℕ → ℕ → Option ℕ
with_day passes best day = if passes day then later (λ day other. nat_lt other day) best day else best

-- and once a list of them has been
abbrev pub with_days : (ℕ → Bool) → Option ℕ → List ℕ → Option ℕ
with_days passes best days = fold (with_day passes) best days
