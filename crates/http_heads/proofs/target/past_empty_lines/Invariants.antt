use Rattle.std.proofs.Common.{◌≡◌, ◌≤◌, length}
use Rattle.http_heads.specs.Heads.{after_empty_lines}
use Rattle.http_heads.proofs.target.past_empty_lines.Given as goal

abbrev pub invariant-loop-rest : goal.invariant-loop-rest
invariant-loop-rest l = record { same : after_empty_lines l.rest ≡ after_empty_lines l.bytes; shorter : length l.rest ≤ length l.bytes }

abbrev pub decreases-loop-rest : goal.decreases-loop-rest
decreases-loop-rest l = length l.rest
