use Rattle.std.proofs.Common.{sym, map, ◌∙◌, rules}
use Rattle.store_sql.specs.Tables.{cells, fits}
use Rattle.store_decode.proofs.Fitting.{unfit_is, none_unfit}
use Rattle.store_decode.proofs.read.ReadRows.finish.Goals as goal

pub returns-in-Some : goal.returns-in-Some
returns-in-Some g c =
    let first = unfit_is (fits g.T.StoredRow.table) (map (cells g.T.StoredRow.table) c.self.inside.fitting.items) c.self.inside.rest.items _ c.in-Some.row c.self.invariant (sym c.into_iter.ensures.rest ∙ c.in-Some.ensures.items) in
    search rules

pub returns-in-None : goal.returns-in-None
returns-in-None g c =
    let none = none_unfit (fits g.T.StoredRow.table) (map (cells g.T.StoredRow.table) c.self.inside.fitting.items) c.self.inside.rest.items c.self.invariant (search rules) in
    search rules
