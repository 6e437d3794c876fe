use Rattle.days_core.proofs.DayTextLemmas.{day_from-day_text, month_from-month_text}
use Rattle.days_core.proofs.text.texts_read_back.Goals as goal

pub returns-clause-days : goal.returns-clause-days
returns-clause-days c = day_from-day_text

pub returns-clause-months : goal.returns-clause-months
returns-clause-months c = month_from-month_text
