use Rattle.std.proofs.Common.{◌≡◌, ◌∙◌, ◌-◌, ap, arith, get_or, length, rules, ◌++◌, ◌∷◌, []}
use Rattle.std.proofs.lemmas.List.{get_or_push, length_push}
use Rattle.book_rows.specs.Book.{Book}
use Rattle.shared_desk.proofs.deciding.last_act.Goals as goal

pub returns-clause-last : goal.returns-clause-last
returns-clause-last c = λ earlier row are.
    let there : c.tables.result.now.acts.items ≡ earlier ++ row ∷ [] = ap (λ (book : Book). book.acts) c.tables.ensures.book ∙ are in
    let long = ap length there ∙ length_push earlier row in
    let count : c.len.result ≡ length c.tables.result.now.acts.items = search rules in
    c.index.ensures ∙ ap (λ acts. get_or acts (c.len.result - 1) c.index.result.now) there
    ∙ get_or_push earlier row c.index.result.now (c.len.result - 1) (omega (arith, long, count))
