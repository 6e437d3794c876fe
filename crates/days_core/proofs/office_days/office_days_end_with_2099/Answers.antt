use Rattle.std.proofs.Common.{◌≡◌, refl, arith, pos}
use Rattle.jiff_core.proofs.MarchLemmas.{day_count-early}
use Rattle.days_core.specs.Calendar.{days_in}
use Rattle.days_core.proofs.Bridge.{day_count-first_of, first_of-suc}
use Rattle.days_core.proofs.office_days.office_days_end_with_2099.Goals as goal

-- it is the day before 2100-01-01, which so many days are before
pub returns-clause-date : goal.returns-clause-date
returns-clause-date c =
    let long : days_in 2639 ≡ 31 = refl in
    omega (arith, day_count-first_of 2640, day_count-early (pos 2100) 12099 1 1 refl (omega arith) (omega arith) (omega arith), first_of-suc 2639, long)

-- it is as many days before that day as lie before 2000-01-01
pub returns-clause-first_day : goal.returns-clause-first_day
returns-clause-first_day c =
    let counted = day_count-early (pos 2000) 11999 1 1 refl (omega arith) (omega arith) (omega arith) in
    (refl, omega (arith, day_count-first_of 1440, counted))
