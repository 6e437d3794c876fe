use Rattle.std.proofs.Common.{rules}
use Rattle.reply_text.proofs.reply.text_of_bad_form.Goals as goal

pub returns : goal.returns
returns c = search rules
