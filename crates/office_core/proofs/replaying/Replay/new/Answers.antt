use Rattle.std.proofs.Common.{refl}
use Rattle.std.proofs.lemmas.List.Elements.{All-nil}
use Rattle.record_history.specs.Held.{IsWithin}
use Rattle.office_answers.specs.Below.office_step.Step.{reached_empty}
use Rattle.office_core.proofs.replaying.Replay.new.Goals as goal

pub returns-clause-known : goal.returns-clause-known
returns-clause-known c = record {
  acts = c.requires.acts;
  lines = c.requires.lines;
  reached = reached_empty;
  known = c.in_ok-new.ensures;
  requests = c.new-2.ensures;
  records = All-nil IsWithin;
  held = refl;
}
