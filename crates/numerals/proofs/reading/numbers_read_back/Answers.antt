use Rattle.numerals.proofs.Digits.{reads_decimal, reads_plain}
use Rattle.numerals.proofs.reading.numbers_read_back.Goals as goal

pub returns-clause-any : goal.returns-clause-any
returns-clause-any c = reads_decimal

pub returns-clause-plain : goal.returns-clause-plain
returns-clause-plain c = reads_plain
