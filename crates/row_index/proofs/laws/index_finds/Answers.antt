use Rattle.row_index.proofs.Rows.{index-finds}
use Rattle.row_index.proofs.laws.index_finds.Goals as goal

pub returns : goal.returns
returns g c = index-finds
