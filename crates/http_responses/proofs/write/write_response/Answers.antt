use Rattle.std.proofs.Common.{◌≡◌, ◌++◌, ◌∙◌, ℕ, List, length, ap, refl, subst}
use Rattle.office_io.specs.Transfer.{AppendsPart}
use Rattle.http_responses.specs.Responses.{head_text, response_text}
use Rattle.http_responses.proofs.Parts.{part_of_second}
use Rattle.http_responses.proofs.write.write_response.Goals as goal

pub returns-then-write_whole-clause-part : goal.returns-then-write_whole-clause-part
unfolding response_text
returns-then-write_whole-clause-part g c = λ failed.
    let front : c.as_slice.result.now ≡ head_text c.args.reply.now.status c.args.reply.now.point (length c.as_bytes-body.result.now) c.args.is_last =
    c.as_slice.ensures.value ∙ c.put_head.ensures.is ∙ ap (λ (l : List ℕ). l ++ head_text c.args.reply.now.status c.args.reply.now.point (length c.as_bytes-body.result.now) c.args.is_last) c.new-packet.ensures in
    let whole : c.as_slice.result.now ++ c.as_bytes-body.result.now ≡ response_text c.args.reply.now c.args.is_last =
    ap (λ (l : List ℕ). l ++ c.as_bytes-body.result.now) front
    ∙ ap (λ (l : List ℕ). head_text c.args.reply.now.status c.args.reply.now.point (length l) c.args.is_last ++ l) c.as_bytes-body.ensures in
    subst (AppendsPart (g.W.Sink.held c.args.sink.now) (g.W.Sink.held c.write_whole-then-write_whole.new.sink)) whole
    (part_of_second _ _ _ c.as_slice.result.now c.as_bytes-body.result.now (c.if-write_whole.ensures.whole refl) (c.write_whole-then-write_whole.ensures.part failed))
