use Rattle.std.proofs.Common.{◌≡◌, to_z, of_z, unsigned_abs, arith, ◌∙◌}
use Rattle.std.specs.Int.{w16}
use Rattle.jiff_core.proofs.SignedLemmas.{signed_arith}
use Rattle.days_core.specs.Calendar.{year_of}
use Rattle.days_core.proofs.Bridge.{is_date-parts}
use Rattle.days_core.proofs.day.Day.civil.Goals as goal

pub returns-clause-is_date : goal.returns-clause-is_date
returns-clause-is_date c =
    let year : unsigned_abs (to_z w16 (of_z w16 c.to_date-date.result.year)) ≡ year_of c.args.self = omega (arith, signed_arith) in
    is_date-parts _ _ _ c.args.self year (c.into.ensures ∙ c.to_date-date.ensures.month) (c.into-2.ensures ∙ c.to_date-date.ensures.day) (omega arith)
