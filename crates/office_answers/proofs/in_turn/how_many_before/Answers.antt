use Rattle.std.proofs.Common.{rules}
use Rattle.std.proofs.lemmas.List.Sorted.{IsPartitionPoint-from_clause}
use Rattle.voucher_core.specs.declared.line.Line.{Line}
use Rattle.office_answers.specs.InTurn.{is_before}
use Rattle.office_answers.proofs.Turns.{turns_parted}
use Rattle.office_answers.proofs.in_turn.how_many_before.Goals as goal

pub returns-clause-point : goal.returns-clause-point
returns-clause-point c =
    IsPartitionPoint-from_clause (λ (l : Line). is_before c.args.closed c.args.turn l) _ _ c.partition_point.ensures.partitioned
    (turns_parted c.args.lines.now c.args.closed c.args.turn c.requires) (λ a r f called. search rules)
