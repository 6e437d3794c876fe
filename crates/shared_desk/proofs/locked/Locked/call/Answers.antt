use Rattle.std.proofs.Common.{rules, ap, sym, ◌∙◌}
use Rattle.atomic_table.specs.Table.{Me}
use Rattle.desk_history.specs.declared.views.View.{View}
use Rattle.desk_history.specs.Seen.{holding_of, book_of, pass_in}
use Rattle.shared_desk.proofs.Ends.{called_as}
use Rattle.shared_desk.proofs.locked.Locked.call.Goals as goal

pub returns-clause-called : goal.returns-clause-called
returns-clause-called g c =
    called_as c.passes_go_on.ensures c.acts_give_the_book.ensures.session c.histories_are_reached.ensures.reached
    (book_of c.self.inside.book.me.0) (pass_in c.pass.inside.badge.views) c.args.pass.now
    (holding_of c.come_in.new.book.me.0) (holding_of c.decide-reply.new.book.me.0) (pass_in c.go_back.result.views)
    (ap (λ (me : Me (Unit {0}) View). holding_of me.0) c.come_in.ensures.view) (sym c.pass.view_is) (ap pass_in c.go_back.ensures.pass)
    c.decide-reply.ensures.held c.decide-reply.ensures.holds_on
    c.self.inside.office.capacity c.self.inside.office.book _ c.args.clock c.args.call c.decide-reply.result c.decide-reply.ensures.decides
    c.pass.invariant.2 c.self.invariant.2.tables c.self.invariant.2.capacity_is c.self.invariant.2.legal

pub returns-clause-point : goal.returns-clause-point
returns-clause-point g c = search rules

pub decide-reply-requires-clause-number : goal.decide-reply-requires-clause-number
decide-reply-requires-clause-number g c =
    c.pass.invariant.2 ∙ sym (ap (λ (me : Me (Unit {0}) View). (holding_of me.0).pass.number) c.come_in.ensures.view)
