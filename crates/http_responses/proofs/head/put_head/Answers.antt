use Rattle.std.proofs.Common.{◌≡◌, ◌++◌, ◌∙◌, ℕ, List, ap, append_assoc, rules}
use Rattle.http_responses.specs.Responses.{connection, head_text, header, status_line}
use Rattle.std.specs.Prelude.{codes, decimal}
use Rattle.http_responses.proofs.head.put_head.Goals as goal

pub returns-clause-is : goal.returns-clause-is
unfolding head_text
returns-clause-is c =
    let into_is : c.into.result ≡ c.args.point = search rules in
    let all = c.put.ensures.is ∙ ap (λ (l : List ℕ). l ++ codes "content-type: application/json\r\n\r\n")
    (c.put_number-2.ensures.is ∙ ap (λ (l : List ℕ). l ++ header (codes "content-length") (decimal c.args.size))
    (c.put_connection.ensures.is ∙ ap (λ (l : List ℕ). l ++ connection c.args.is_last)
    (c.put_number.ensures.is ∙ ap (λ (l : List ℕ). l ++ header (codes "book") (decimal c.into.result)) c.put_status_line.ensures.is))) in
    all ∙ regroup c.args.packet.now.items (status_line c.args.status) (header (codes "book") (decimal c.into.result)) (connection c.args.is_last)
    (header (codes "content-length") (decimal c.args.size)) (header (codes "content-type") (codes "application/json")) (codes "\r\n")
    ∙ ap (λ (n : ℕ). c.args.packet.now.items ++ head_text c.args.status n c.args.size c.args.is_last) into_is
  where
    regroup : (p a b k d e f : List ℕ) → ((((p ++ a) ++ b) ++ k) ++ d) ++ (e ++ f) ≡ p ++ (((((a ++ b) ++ k) ++ d) ++ e) ++ f)
    regroup p a b k d e f = simp append_assoc
