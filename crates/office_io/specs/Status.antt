-- The number that tells how a run ended.
use Rattle.std.specs.Prelude.{ℕ}
use Rattle.office_io.specs.declared.status.ExitStatus.{ExitStatus}

abbrev pub number_of : ExitStatus → ℕ
number_of ExitStatus.Done = 0
number_of ExitStatus.BadWords = 2
number_of ExitStatus.ReadFault = 3
number_of ExitStatus.WriteFault = 4
number_of ExitStatus.StoreFault = 5
number_of ExitStatus.BadBook = 6
number_of ExitStatus.NoMemory = 7
number_of ExitStatus.Refused = 8
number_of ExitStatus.TooLong = 9
