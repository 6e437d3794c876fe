use Rattle.std.proofs.Common.{sym, subst}
use Rattle.atomic_table.specs.Table.{Me}
use Rattle.desk_history.specs.declared.views.View.{View}
use Rattle.desk_history.specs.Seen.{holding_of}
use Rattle.desk_history.specs.Rule.{IsHeld}
use Rattle.desk_history.proofs.Steps.{held_unkept}
use Rattle.desk_history.proofs.holding.write_try.Goals as goal

pub returns-clause-held : goal.returns-clause-held
returns-clause-held g c =
    subst (λ (me : Me (Unit {0}) View). IsHeld (holding_of me.0)) (sym c.write_try_as.ensures.view)
    (held_unkept (holding_of c.args.book.now.me.0) c.args.rows.now (g.K.Keeper.faults c.args.keeper.now) c.requires.own c.requires.rose c.write_try_as.ensures.before)
