use Rattle.std.proofs.Common.{List, ℕ, sym, ap, ◌∙◌}
use Rattle.httparse.specs.Spans.{header_bytes}
use Rattle.http_heads.specs.Headers.{Header, is_in_any_case}
use Rattle.http_heads.proofs.HeaderLoops.{any_here, no_header}
use Rattle.http_heads.proofs.headers.has_header.Goals as goal

pub returns-then-is_in_any_case : goal.returns-then-is_in_any_case
returns-then-is_in_any_case c =
    sym (any_here (λ (header : Header). is_in_any_case c.args.name.now header.0) (header_bytes c.args.bytes.now) c.args.headers.now
    c.loop-header.header-index no_header c.loop-header-test.true
    (ap (λ (l : List ℕ). is_in_any_case c.args.name.now l) (sym c.of.ensures) ∙ sym c.is_in_any_case.ensures ∙ c.if-is_in_any_case.true))
