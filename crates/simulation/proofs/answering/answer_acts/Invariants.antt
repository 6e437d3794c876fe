use Rattle.std.proofs.Common.{◌≡◌, take}
use Rattle.batch_command.specs.Output.{batch_output}
use Rattle.simulation.specs.Trial.{given_acts}
use Rattle.simulation.proofs.answering.answer_acts.Given as goal

abbrev pub invariant-loop-place : goal.invariant-loop-place
invariant-loop-place l = record {
  book : l.office.book ≡ (batch_output l.fn.office.capacity l.fn.office.book (given_acts (take l.place l.acts))).book;
  capacity : l.office.capacity ≡ l.fn.office.capacity;
  kept : l.keeper ≡ l.office.book;
}
