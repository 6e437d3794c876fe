use Rattle.std.proofs.Common.{List, ℕ, [], ◌∷◌, sym, ap, ◌∙◌}
use Rattle.std.specs.Prelude.{codes}
use Rattle.httparse.specs.Spans.{header_bytes}
use Rattle.http_heads.specs.Headers.{is_in_any_case}
use Rattle.http_heads.proofs.HeaderLoops.{kept_values, values_first, values_second}
use Rattle.http_heads.proofs.headers.length_of.Goals as goal
use Rattle.http_heads.proofs.headers.length_of.Goals.{then-is_in_any_case+in-None, else-is_in_any_case}

pub returns-in-Some : goal.returns-in-Some
returns-in-Some c =
    values_second (header_bytes c.args.bytes.now) c.args.headers.now c.loop-header.header-index c.loop-header-test.true _
    (ap (λ (l : List ℕ). is_in_any_case (codes "content-length") l) (sym c.of.ensures) ∙ sym c.is_in_any_case.ensures ∙ c.if-is_in_any_case.true)
    (rw c.in-Some.is at c.loop-header.invariant)

pub loop-header-preserved : goal.loop-header-preserved
loop-header-preserved c =
    elim c.if-is_in_any_case.branch [
      | then-is_in_any_case+in-None w ↦
          rw (w.found-is)
          (values_first (header_bytes c.args.bytes.now) c.args.headers.now c.loop-header.header-index c.loop-header-test.true
          (ap (λ (l : List ℕ). is_in_any_case (codes "content-length") l) (sym c.of.ensures) ∙ sym c.is_in_any_case.ensures ∙ w.if-is_in_any_case.true)
          (rw w.in-None.is at c.loop-header.invariant)
          ∙ ap (λ (l : List ℕ). l ∷ []) (sym w.of-in-None.ensures))
      | else-is_in_any_case w ↦
          rw (w.found-is)
          (kept_values (header_bytes c.args.bytes.now) c.args.headers.now c.loop-header.header-index c.loop-header-test.true c.loop-header.found
          (ap (λ (l : List ℕ). is_in_any_case (codes "content-length") l) (sym c.of.ensures) ∙ sym c.is_in_any_case.ensures ∙ w.if-is_in_any_case.false)
          c.loop-header.invariant)
    ]
