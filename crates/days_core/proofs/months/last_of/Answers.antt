use Rattle.std.proofs.Common.{◌∙◌}
use Rattle.days_core.proofs.Bridge.{last_of-day_number}
use Rattle.days_core.proofs.months.last_of.Goals as goal

pub returns : goal.returns
returns c =
    c.day_with.ensures ∙ last_of-day_number c.args.month _ _ _ c.civil-year.ensures.year c.civil-year.ensures.place c.days_in_month.ensures
