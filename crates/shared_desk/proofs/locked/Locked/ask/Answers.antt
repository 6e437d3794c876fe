use Rattle.std.proofs.Common.{◌∙◌, ap}
use Rattle.atomic_table.specs.Table.{Me}
use Rattle.desk_history.specs.declared.views.View.{View}
use Rattle.desk_history.specs.Seen.{holding_of, book_of, pass_in}
use Rattle.shared_desk.proofs.Ends.{answered_as}
use Rattle.shared_desk.proofs.locked.Locked.ask.Goals as goal

pub returns-clause-answered : goal.returns-clause-answered
returns-clause-answered g c =
    answered_as (book_of c.self.inside.book.me.0) (holding_of c.look.new.book.me.0) (pass_in c.go_back.result.views)
    (ap (λ (me : Me (Unit {0}) View). (holding_of me.0).book.start) c.look.ensures.view ∙ ap (λ (me : Me (Unit {0}) View). (holding_of me.0).book.start) c.come_in.ensures.view)
    (ap (λ (me : Me (Unit {0}) View). (holding_of me.0).book.list) c.look.ensures.view ∙ ap (λ (me : Me (Unit {0}) View). (holding_of me.0).book.list) c.come_in.ensures.view)
    (ap pass_in c.go_back.ensures.pass) c.look.ensures.held
    c.self.inside.office.book c.args.question.now c.ask.result c.self.invariant.2.tables c.ask.ensures
