use Rattle.wait_list.proofs.Words.{◌≡◌, take, min, filter_map, reduce, rank_of}
use Rattle.wait_list.proofs.rank.best_rank.Given as goal

abbrev pub invariant-loop-code : goal.invariant-loop-code
invariant-loop-code l = l.best ≡ reduce min (filter_map (rank_of l.ranks) (take l.code-index l.preferences))
