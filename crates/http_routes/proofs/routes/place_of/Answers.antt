use Rattle.std.proofs.Common.{arith}
use Rattle.http_routes.proofs.Rows.{no_place_fits, place_fits}
use Rattle.http_routes.proofs.routes.place_of.Goals as goal

pub returns-in-Ok-clause-some : goal.returns-in-Ok-clause-some
returns-in-Ok-clause-some c = place_fits c.args.router.now c.args.path.now _ c.requires (λ i. omega (arith, c.type_inv.path i)) c.in-Ok.ensures.found

pub returns-in-Err-clause-none : goal.returns-in-Err-clause-none
returns-in-Err-clause-none c = λ _. no_place_fits c.args.router.now c.args.path.now c.requires (λ i. omega (arith, c.type_inv.path i)) c.in-Err.ensures.missing
