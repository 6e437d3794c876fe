use Rattle.keeper_core.specs.Keeping.{LeavesTold}
use Rattle.office_server.proofs.server.run_serve.Given as goal

abbrev pub ghosts-serve_on : goal.ghosts-serve_on
ghosts-serve_on g a = record {
  table = a.history.table.shared.table_id;
  told = g.K.Keeper.holds a.keeper;
  sound = g.K.Keeper.tells_crash a.keeper → LeavesTold (g.K.Keeper.holds a.keeper) (g.K.Keeper.leaves a.keeper);
}
