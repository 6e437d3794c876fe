use Rattle.std.proofs.Common.{List, ℕ, sym, subst, arith, rules}
use Rattle.http_session.proofs.{Behind.Behind, Behind.behind_more, Behind.behind_none, Behind.behind_taken, Endings.ends_between, Endings.ends_closed, Endings.ends_failed, Endings.ends_inside, Endings.ends_refused, Endings.ends_spent, Endings.ends_unanswered, Endings.ends_uncopied, Endings.ends_unwritten}
use Rattle.http_session.proofs.session.serve_all.Goals as goal

pub loop-count-init : goal.loop-count-init
loop-count-init g c = record {
  behind = subst (λ (l : List ℕ). Behind g.D.Desk.answers c.args.desk.now c.args.desk.now (g.S.Source.left c.args.source.now) (g.S.Source.left c.args.source.now)
      (g.W.Sink.held c.args.sink.now) (g.W.Sink.held c.args.sink.now) l 0) (sym c.requires.empty) (behind_none g.D.Desk.answers _ _ _);
  in_order = search rules;
  follows = g.met.D.Desk.stays c.args.desk.now;
  reads = search rules;
  writes = search rules;
}

pub loop-count-preserved : goal.loop-count-preserved
loop-count-preserved g c =
    let read = c.in-Message.ensures.comes in let reply = c.in-Open.ensures.serves in
    record {
      behind = behind_more g.D.Desk.answers _ _ _ _ _ _ _ _ _ c.next_message.new.self c.loop-count.count c.in-Message.message reply.0
          (behind_taken g.D.Desk.answers _ _ _ _ _ _ _ c.loop-count.inbox c.loop-count.count read.0 c.loop-count.invariant.behind read.1)
          read.2 reply.1 reply.2 reply.3;
      in_order = search rules;
      follows = g.met.D.Desk.joins _ _ _ c.loop-count.invariant.follows c.serve.ensures.follows;
      reads = search rules;
      writes = search rules;
    }

pub returns-in-Closed-clause-ends : goal.returns-in-Closed-clause-ends
returns-in-Closed-clause-ends g c =
    ends_closed g.D.Desk.answers g.D.Desk.gives_up g.D.Desk.point _ _ c.serve.new.desk _ _ (g.S.Source.left c.next_message.new.source) _ _
    (g.W.Sink.held c.serve.new.sink) c.loop-count.inbox c.next_message.new.self c.loop-count.count c.in-Message.message c.loop-count.invariant.behind
    c.loop-count-test.true c.in-Message.ensures.comes c.in-Closed.ensures.serves

pub returns-in-Unwritten-clause-ends : goal.returns-in-Unwritten-clause-ends
returns-in-Unwritten-clause-ends g c =
    ends_unwritten g.D.Desk.answers g.D.Desk.gives_up g.D.Desk.point _ _ c.serve.new.desk _ _ (g.S.Source.left c.next_message.new.source) _ _
    (g.W.Sink.held c.serve.new.sink) c.loop-count.inbox c.next_message.new.self c.loop-count.count c.in-Message.message c.loop-count.invariant.behind
    c.loop-count-test.true c.in-Message.ensures.comes c.in-Unwritten.ensures.serves

pub returns-in-NoMemory-serve-clause-ends : goal.returns-in-NoMemory-serve-clause-ends
returns-in-NoMemory-serve-clause-ends g c =
    ends_unanswered g.D.Desk.answers g.D.Desk.gives_up g.D.Desk.point _ _ c.serve.new.desk _ _ (g.S.Source.left c.next_message.new.source) _ _
    (g.W.Sink.held c.serve.new.sink) c.loop-count.inbox c.next_message.new.self c.loop-count.count c.in-Message.message c.loop-count.invariant.behind
    c.loop-count-test.true c.in-Message.ensures.comes c.in-NoMemory-serve.ensures.serves

pub returns-in-End-clause-ends : goal.returns-in-End-clause-ends
returns-in-End-clause-ends g c =
    ends_between g.D.Desk.answers g.D.Desk.gives_up g.D.Desk.point _ _ _ _ (g.S.Source.left c.next_message.new.source) _ _ c.loop-count.inbox
    c.next_message.new.self c.loop-count.count c.loop-count.invariant.behind c.loop-count-test.true c.in-End.ensures.comes

pub returns-in-Cut-clause-ends : goal.returns-in-Cut-clause-ends
returns-in-Cut-clause-ends g c =
    ends_inside g.D.Desk.answers g.D.Desk.gives_up g.D.Desk.point _ _ _ _ (g.S.Source.left c.next_message.new.source) _ _ c.loop-count.inbox
    c.next_message.new.self c.loop-count.count c.loop-count.invariant.behind c.loop-count-test.true c.in-Cut.ensures.comes

pub returns-in-Refused-clause-ends : goal.returns-in-Refused-clause-ends
returns-in-Refused-clause-ends g c =
    ends_refused g.D.Desk.answers g.D.Desk.gives_up g.D.Desk.point _ _ _ _ (g.S.Source.left c.next_message.new.source) _ _
    (g.W.Sink.held c.refuse.new.sink) c.loop-count.inbox c.next_message.new.self c.loop-count.count c.in-Refused.fault c.seen.result c.refuse.result
    c.loop-count.invariant.behind c.loop-count-test.true c.in-Refused.ensures.comes c.seen.ensures c.refuse.ensures.refuses

pub returns-in-Failed-clause-ends : goal.returns-in-Failed-clause-ends
returns-in-Failed-clause-ends g c =
    ends_failed g.D.Desk.answers g.D.Desk.gives_up g.D.Desk.point _ _ _ _ (g.S.Source.left c.next_message.new.source) _ _ c.loop-count.inbox
    c.next_message.new.self c.loop-count.count c.loop-count.invariant.behind c.loop-count-test.true c.in-Failed.ensures.comes

pub returns-in-NoMemory-clause-ends : goal.returns-in-NoMemory-clause-ends
returns-in-NoMemory-clause-ends g c =
    ends_uncopied g.D.Desk.answers g.D.Desk.gives_up g.D.Desk.point _ _ _ _ (g.S.Source.left c.next_message.new.source) _ _ c.loop-count.inbox
    c.next_message.new.self c.loop-count.count c.loop-count.invariant.behind c.loop-count-test.true c.in-NoMemory.ensures.comes

pub returns-clause-ends : goal.returns-clause-ends
returns-clause-ends g c =
    ends_spent g.D.Desk.answers g.D.Desk.gives_up g.D.Desk.point _ _ _ _ _ _ c.loop-count.inbox c.loop-count.count c.loop-count.invariant.behind
    (omega (arith, c.loop-count-test.false, c.loop-count.auto.count-end))

pub returns-in-Closed-clause-follows : goal.returns-in-Closed-clause-follows
returns-in-Closed-clause-follows g c = g.met.D.Desk.joins _ _ _ c.loop-count.invariant.follows c.serve.ensures.follows

pub returns-in-Unwritten-clause-follows : goal.returns-in-Unwritten-clause-follows
returns-in-Unwritten-clause-follows g c = g.met.D.Desk.joins _ _ _ c.loop-count.invariant.follows c.serve.ensures.follows

pub returns-in-NoMemory-serve-clause-follows : goal.returns-in-NoMemory-serve-clause-follows
returns-in-NoMemory-serve-clause-follows g c = g.met.D.Desk.joins _ _ _ c.loop-count.invariant.follows c.serve.ensures.follows
