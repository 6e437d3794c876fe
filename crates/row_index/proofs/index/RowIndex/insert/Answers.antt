use Rattle.row_index.proofs.Words.{◌≡◌, ◌<◌, ◌∙◌, ap, rules, IsOk, vec_len, vec_capacity, insert, with_entry}
use Rattle.row_index.proofs.Ordered.{with_entry-insert}
use Rattle.row_index.proofs.index.RowIndex.insert.Goals as goal

pub returns-clause-entries : goal.returns-clause-entries
returns-clause-entries c =
    let fits : vec_len c.self.inside.entries < vec_capacity c.self.inside.entries = search rules in
    let done : IsOk c.insert.result = c.insert.ensures.succeeds fits in
    let entries = c.self.inside.entries.items in
    let placed : c.insert.new.self.items ≡ insert entries c.first_above-at.result (record { key = c.args.key; place = c.args.place }) = rw done at c.insert.ensures.items in
    placed
    ∙ with_entry-insert (record { key = c.args.key; place = c.args.place }) entries c.first_above-at.result (rw c.deref.ensures.value at c.first_above-at.ensures.bound)
    (rw c.deref.ensures.value at c.first_above-at.ensures.point)
    ∙ ap (λ index. with_entry index.entries (record { key = c.args.key; place = c.args.place })) c.self.view_is
