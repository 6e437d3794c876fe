use Rattle.std.proofs.Common.{◌≡◌, ap, sym, ◌∙◌}
use Rattle.std.specs.Result.{result_ok}
use Rattle.days_core.specs.DayText.{month_text, month_from}
use Rattle.days_core.proofs.DayTextLemmas.{month_from-is, month_from-month_text, is_written, no_other}
use Rattle.days_core.proofs.text.month_of_text.Goals as goal

read : (c : goal.After-ok_or) → result_ok c.ok_or.result ≡ month_from c.args.text.now
read c = sym c.ok_or.ensures.ok_part ∙ c.month_of_bytes.ensures ∙ ap month_from c.as_bytes.ensures.value

pub returns-clause-written : goal.returns-clause-written
returns-clause-written c = is_written month_text month_from 3839 month_from-is month_from-month_text c.ok_or.result c.args.text.now (read c)

pub returns-clause-refused : goal.returns-clause-refused
returns-clause-refused c = no_other month_text month_from 3839 month_from-is month_from-month_text c.ok_or.result c.args.text.now (read c)
