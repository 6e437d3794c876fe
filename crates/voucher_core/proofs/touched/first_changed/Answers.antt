use Rattle.voucher_core.proofs.Words.{◌≡◌, ◌<◌, ◌≤◌, arith}
use Rattle.days_core.specs.Calendar.{month_of}
use Rattle.voucher_core.proofs.{Gathered.unwrapped, Gathered.nothing_there, Newer.ends_before, Newer.ends_by_last}
use Rattle.voucher_core.proofs.touched.first_changed.Goals.{in-Some, in-None}
use Rattle.voucher_core.proofs.touched.first_changed.Goals as goal

pub returns-clause-untouched : goal.returns-clause-untouched
returns-clause-untouched c =
    λ month from to. λ k d within.
    let least = c.first_day.ensures k d within in
    record {
      after = elim c.match-from_number.branch [
        | in-Some w ↦
            let found : w.in-Some.day ≡ c.first_day.result = unwrapped c.from_number.result _ c.first_day.result w.in-Some.day c.from_number.ensures w.in-Some.is in
            let before : month < month_of w.in-Some.day = omega (arith, w.reached-is) in
            omega (arith, ends_before month w.in-Some.day before)
        | in-None w ↦
            let past : ¬ (c.first_day.result ≤ 116877) = nothing_there c.from_number.result _ c.first_day.result c.from_number.ensures w.in-None.is in
            omega (arith, w.reached-is, ends_by_last month c.first_day.result (omega (arith, w.reached-is)) (omega (arith, past)))
      ];
    }
