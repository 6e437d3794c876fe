use Rattle.std.proofs.Common.{sym, subst}
use Rattle.atomic_table.specs.Table.{Me}
use Rattle.desk_history.specs.declared.views.View.{View}
use Rattle.desk_history.specs.Seen.{holding_of}
use Rattle.desk_history.specs.Rule.{IsHeld}
use Rattle.desk_history.proofs.Steps.{held_booked}
use Rattle.desk_history.proofs.holding.append.Goals as goal

pub returns-clause-held : goal.returns-clause-held
returns-clause-held c =
    subst (λ (me : Me (Unit {0}) View). IsHeld (holding_of me.0)) (sym c.append_as.ensures.view)
    (held_booked (holding_of c.args.book.now.me.0) c.args.row.now c.requires.own c.append_as.ensures.before)
