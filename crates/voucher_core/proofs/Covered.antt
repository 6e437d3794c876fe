-- The changes of a month cover its days.
use Rattle.voucher_core.proofs.Words.{◌≡◌, ℕ, ◌+◌, ◌-◌, ◌<◌, ◌≤◌, List, [], length, get_or, refl, sym, subst, arith, nat_tests, All, Record, Stretch, Change, first_of, last_of, first_of-suc, days_in_bounds, change_on, is_same_change, stretches, changes, IsOfItsDays, of_their_days, stretches_cover, ChangesAreLongest, Decides}

pub exact_change : (a b : Change) → Decides (is_same_change a b) (a ≡ b)
exact_change a b = (λ same. grind (arith, nat_tests), λ same. grind (arith, nat_tests))

-- a month has a day
pub has_a_day : (month : ℕ) → first_of month ≤ last_of month + 1
has_a_day month = omega (arith, first_of-suc month, (days_in_bounds month).0)

pub month_covered : ChangesAreLongest
month_covered old new month = stretches_cover (change_on old new) is_same_change exact_change (last_of month + 1) (first_of month) (has_a_day month)

-- each change of a month lasts over days of it, and is that of each of them
pub changes_of_days : (old new : List Record) (month : ℕ) → All (IsOfItsDays (change_on old new) (first_of month) (last_of month + 1)) (changes old new month)
changes_of_days old new month = of_their_days (change_on old new) (first_of month) (last_of month + 1) (changes old new month) (month_covered old new month)

-- before the first day there is none
pub no_days : (old new : List Record) (first : ℕ) → stretches is_same_change (change_on old new) first first ≡ []
no_days old new first = let none : first - first ≡ 0 = omega arith in rw none refl

-- so does each of these runs
pub is_of_month : (old new : List Record) (month : ℕ) (runs : List (Stretch Change)) (k : ℕ) (d : Stretch Change) → runs ≡ changes old new month → k < length runs →
    IsOfItsDays (change_on old new) (first_of month) (last_of month + 1) (get_or runs k d)
is_of_month old new month runs k d is within =
    subst (All (IsOfItsDays (change_on old new) (first_of month) (last_of month + 1))) (sym is) (changes_of_days old new month) k d within
