use Rattle.std.proofs.Common.{Bool, subst}
use Rattle.std.specs.Io.KnownBytes.{Appends}
use Rattle.office_io.specs.Transfer.{AppendsPart}
use Rattle.http_responses.specs.Responses.{response_text}
use Rattle.http_session.proofs.serve.serve.Goals as goal

pub returns-clause-serves : goal.returns-clause-serves
returns-clause-serves g c = (
  c.in-Some.reply,
  (c.in-Some.ensures.answers, c.in-Some.ensures.taken),
  subst (λ (last : Bool). Appends (g.W.Sink.held c.args.sink.now) (g.W.Sink.held c.write_response.new.sink) (response_text c.in-Some.reply last))
      c.is_last.ensures (c.write_response.ensures.whole c.if-not-write_response.false),
  c.if-message.false,
)

pub returns-then-message-clause-serves : goal.returns-then-message-clause-serves
returns-then-message-clause-serves g c = (
  c.in-Some.reply,
  (c.in-Some.ensures.answers, c.in-Some.ensures.taken),
  subst (λ (last : Bool). Appends (g.W.Sink.held c.args.sink.now) (g.W.Sink.held c.write_response.new.sink) (response_text c.in-Some.reply last))
      c.is_last.ensures (c.write_response.ensures.whole c.if-not-write_response.false),
  c.if-message.true,
)

pub returns-then-not-write_response-clause-serves : goal.returns-then-not-write_response-clause-serves
returns-then-not-write_response-clause-serves g c = (
  c.in-Some.reply,
  (c.in-Some.ensures.answers, c.in-Some.ensures.taken),
  subst (λ (last : Bool). AppendsPart (g.W.Sink.held c.args.sink.now) (g.W.Sink.held c.write_response.new.sink) (response_text c.in-Some.reply last))
      c.is_last.ensures (c.write_response.ensures.part c.if-not-write_response.true),
)
