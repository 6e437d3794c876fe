use Rattle.std.proofs.Common.{rules}
use Rattle.reply_text.proofs.refusal.members_of.Goals as goal

pub returns-in-Ineligible : goal.returns-in-Ineligible
returns-in-Ineligible c = search rules
