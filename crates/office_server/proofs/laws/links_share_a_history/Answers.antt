use Rattle.office_server.proofs.Together.{links_share_a_history}
use Rattle.office_server.proofs.laws.links_share_a_history.Goals as goal

pub returns : goal.returns
returns g c = record { share = links_share_a_history g.C.Clock.may_show g.K.Keeper.holds g.K.Keeper.leaves g.K.Keeper.tells_crash c.sessions_share_a_history.ensures.share }
