use Rattle.http_routes.proofs.OneRoute.{one_route}
use Rattle.http_routes.proofs.routes.one_route_fits.Goals as goal

pub returns : goal.returns
returns c = one_route
