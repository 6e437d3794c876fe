use Rattle.std.proofs.Common.{◌≡◌, ap, sym, ◌∙◌}
use Rattle.std.specs.Result.{result_ok}
use Rattle.days_core.specs.DayText.{day_text, day_from}
use Rattle.days_core.proofs.DayTextLemmas.{day_from-is, day_from-day_text, is_written, no_other}
use Rattle.days_core.proofs.text.day_of_text.Goals as goal

read : (c : goal.After-ok_or) → result_ok c.ok_or.result ≡ day_from c.args.text.now
read c = sym c.ok_or.ensures.ok_part ∙ c.day_of_bytes.ensures ∙ ap day_from c.as_bytes.ensures.value

pub returns-clause-written : goal.returns-clause-written
returns-clause-written c = is_written day_text day_from 116877 (λ text day found. (day_from-is text day found).0) day_from-day_text c.ok_or.result c.args.text.now (read c)

pub returns-clause-refused : goal.returns-clause-refused
returns-clause-refused c = no_other day_text day_from 116877 (λ text day found. (day_from-is text day found).0) day_from-day_text c.ok_or.result c.args.text.now (read c)
