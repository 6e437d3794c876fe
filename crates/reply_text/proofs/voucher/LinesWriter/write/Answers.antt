use Rattle.std.proofs.Common.{rules}
use Rattle.reply_text.proofs.voucher.LinesWriter.write.Goals as goal

pub returns : goal.returns
returns c = search rules
