use Rattle.wait_list.proofs.{Words.arith, Words.common_steps, Words.filter_map-append, RankLemmas.reduce_min-push, rank.best_rank.Goals.in-Some, rank.best_rank.Goals.in_default}
use Rattle.wait_list.proofs.rank.best_rank.Goals as goal

pub loop-code-preserved : goal.loop-code-preserved
loop-code-preserved c =
    elim c.match-rank_of.branch [
      | in-Some w ↦ grind (arith, common_steps, filter_map-append, reduce_min-push)
      | in_default w ↦ grind (arith, common_steps, filter_map-append)
    ]
