use Rattle.std.proofs.lemmas.{Bool.both_ways, Result.err_from_is_err_and}
use Rattle.sqlite.specs.Held.{state}
use Rattle.keeper_sqlite.proofs.Unloaded.{unloaded_beside}
use Rattle.keeper_sqlite.proofs.loading.load_or_make.Goals as goal

pub returns-in_err-make-clause-tells : goal.returns-in_err-make-clause-tells
returns-in_err-make-clause-tells g c = c.make.ensures.tells c.args.is_beside

pub returns-in_err-make-clause-goes_on : goal.returns-in_err-make-clause-goes_on
returns-in_err-make-clause-goes_on g c = c.make.ensures.goes_on c.args.is_beside

pub returns-in_err-make-clause-left : goal.returns-in_err-make-clause-left
returns-in_err-make-clause-left g c = c.make.ensures.left c.args.is_beside

pub returns-then-is_empty-clause-tells : goal.returns-then-is_empty-clause-tells
returns-then-is_empty-clause-tells g c = c.make.ensures.tells c.args.is_beside

pub returns-then-is_empty-clause-goes_on : goal.returns-then-is_empty-clause-goes_on
returns-then-is_empty-clause-goes_on g c = c.make.ensures.goes_on c.args.is_beside

pub returns-then-is_empty-clause-left : goal.returns-then-is_empty-clause-left
returns-then-is_empty-clause-left g c = c.make.ensures.left c.args.is_beside

pub returns-then-is_empty-clause-gives : goal.returns-then-is_empty-clause-gives
returns-then-is_empty-clause-gives g c = c.in_ok-make.ensures.gives c.args.is_beside c.new.result c.new.ensures

pub returns-in-Ok-clause-gives : goal.returns-in-Ok-clause-gives
returns-in-Ok-clause-gives g c = c.in-Ok.ensures.gives c.args.is_beside

pub returns-in-Ok-clause-tells : goal.returns-in-Ok-clause-tells
returns-in-Ok-clause-tells g c = c.load_rows.ensures.tells c.args.is_beside

pub returns-in-Ok-clause-goes_on : goal.returns-in-Ok-clause-goes_on
returns-in-Ok-clause-goes_on g c = c.load_rows.ensures.goes_on c.args.is_beside

pub returns-in-Err-Acts-clause-tells : goal.returns-in-Err-Acts-clause-tells
returns-in-Err-Acts-clause-tells g c = c.load_rows.ensures.tells c.args.is_beside

pub returns-in-Err-Acts-clause-goes_on : goal.returns-in-Err-Acts-clause-goes_on
returns-in-Err-Acts-clause-goes_on g c = c.load_rows.ensures.goes_on c.args.is_beside

pub returns-in-Err-Others-clause-tells : goal.returns-in-Err-Others-clause-tells
returns-in-Err-Others-clause-tells g c = c.load_rows.ensures.tells c.args.is_beside

pub returns-in-Err-Others-clause-goes_on : goal.returns-in-Err-Others-clause-goes_on
returns-in-Err-Others-clause-goes_on g c = c.load_rows.ensures.goes_on c.args.is_beside

pub returns-then-is_beside-clause-cause : goal.returns-then-is_beside-clause-cause
returns-then-is_beside-clause-cause g c = unloaded_beside (state g.S.Store c.args.conn.now) (state g.S.Store c.load_beside.new.conn) c.args.is_beside c.load_beside.result c.if-is_beside.true

pub returns-in_err-make-clause-cause : goal.returns-in_err-make-clause-cause
returns-in_err-make-clause-cause g c =
    let p = err_from_is_err_and c.from_residual.result c.from_residual.ensures.1 in
    rw (p.1, p.2) (c.in_err-make.ensures.cause c.args.is_beside)

pub returns-in-Err-Acts-clause-cause : goal.returns-in-Err-Acts-clause-cause
returns-in-Err-Acts-clause-cause g c =
    rw c.in-Err-Acts.field-0-is at (c.in-Err-Acts.ensures.cause c.args.is_beside (λ none. both_ways _ c.if-is_empty.false (c.is_empty.ensures.1 none)))

pub returns-in-Err-Others-clause-cause : goal.returns-in-Err-Others-clause-cause
returns-in-Err-Others-clause-cause g c =
    rw c.in-Err-Others.field-0-is at (c.in-Err-Others.ensures.cause c.args.is_beside (λ none. both_ways _ c.if-is_empty.false (c.is_empty.ensures.1 none)))
