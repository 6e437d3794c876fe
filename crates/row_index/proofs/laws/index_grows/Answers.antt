use Rattle.row_index.proofs.Rows.{index-grows}
use Rattle.row_index.proofs.laws.index_grows.Goals as goal

pub returns : goal.returns
returns g c = index-grows
