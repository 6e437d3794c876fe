use Rattle.http_front.proofs.Together.{sessions_share_a_history}
use Rattle.http_front.proofs.laws.sessions_share_a_history.Goals as goal

pub returns : goal.returns
returns g c = record { share = sessions_share_a_history g.C.Clock.may_show c.histories_go_on.ensures.were }
