use Rattle.std.proofs.Common.{List, ℕ, sym, ap, ◌∙◌, ◌&&◌}
use Rattle.std.specs.Prelude.{codes}
use Rattle.std.proofs.lemmas.Bool.{and_from}
use Rattle.httparse.specs.Spans.{header_bytes}
use Rattle.http_heads.specs.Headers.{Header, is_in_any_case}
use Rattle.http_heads.proofs.HeaderLoops.{any_here, no_header}
use Rattle.http_heads.proofs.headers.is_closing.Goals as goal

pub returns-then-is_in_any_case-2 : goal.returns-then-is_in_any_case-2
returns-then-is_in_any_case-2 c =
    sym (any_here (λ (header : Header). is_in_any_case (codes "connection") header.0 && is_in_any_case (codes "close") header.1)
    (header_bytes c.args.bytes.now) c.args.headers.now c.loop-header.header-index no_header c.loop-header-test.true
    (and_from _ _
    (ap (λ (l : List ℕ). is_in_any_case (codes "connection") l) (sym c.of.ensures) ∙ sym c.is_in_any_case.ensures ∙ c.if-is_in_any_case.true)
    (ap (λ (l : List ℕ). is_in_any_case (codes "close") l) (sym c.of-then-is_in_any_case.ensures)
    ∙ sym c.is_in_any_case-then-is_in_any_case.ensures ∙ c.if-is_in_any_case-2.true)))
