-- What the program answers to its words and its input.
use Rattle.std.specs.Prelude.{ℕ, nat_le, if◌then◌else◌, List, [], length, codes}
use Rattle.office_io.specs.declared.status.ExitStatus.{ExitStatus}
use Rattle.assess_command.specs.{declared.answer.Assessed.Assessed, Assess.assessed}
use Rattle.generator.specs.Lines.{made_text}
use Rattle.simulation.specs.Trial.{trial_text}
use Rattle.program_answers.specs.{Answer.Answer, Opening.largest}

-- other words are answered with how the program is used
abbrev pub usage : Answer
usage = record { status = ExitStatus.BadWords; text = codes "usage: office [--book PATH] assess|batch|voucher MONTH|export|import CLERK|due DAY|targets DAY|make N|trial N|serve PORT WORKERS CONNECTIONS\n" }

-- an assess object has at most 16,384 bytes
abbrev pub input_limit : ℕ
input_limit = 16384

abbrev pub answer_of : Assessed → Answer
answer_of (Assessed.Paid text) = record { status = ExitStatus.Done; text = text }
answer_of (Assessed.Refused text) = record { status = ExitStatus.Refused; text = text }

-- what `assess` answers to its input
abbrev pub assess_answer : List ℕ → Answer
assess_answer input =
    if nat_le (length input) input_limit then answer_of (assessed input) else record { status = ExitStatus.TooLong; text = [] }

-- what `make` writes
abbrev pub made_answer : ℕ → Answer
made_answer households = record { status = ExitStatus.Done; text = made_text households }

-- what `trial` writes
abbrev pub trial_answer : ℕ → Answer
trial_answer households = record { status = ExitStatus.Done; text = trial_text largest households }
