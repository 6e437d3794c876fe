use Rattle.std.proofs.Common.{◌∙◌, ap, sym}
use Rattle.book_rows.specs.Book.{book_of as rows_of}
use Rattle.desk_history.specs.Seen.{book_of, start_on}
use Rattle.shared_desk.proofs.Beginning.{book_opened, legal_first, settled_first}
use Rattle.shared_desk.proofs.opened.desk_of.Goals as goal

pub invariant_of-locked : goal.invariant_of-locked
invariant_of-locked g c =
    let passes = c.all_passes-waiting.ensures in
    let limits = c.capacity-capacity.ensures in
    let rows = c.tables-tables.ensures.book in
    let opened = book_opened c.open_book.new.book.me (rows_of c.tables-tables.result.now) c.capacity-capacity.result.acts c.capacity-capacity.result.lines
    (g.K.Keeper.faults c.args.keeper) c.open_book.ensures.view in (
      passes.table ∙ (c.open_book.ensures.same ∙ c.requires.table.1),
      passes.free,
      settled_first g.B.Naming g.K.Keeper c.args.office c.args.keeper (book_of c.all_passes-waiting.new.book.me.0)
          (passes.start ∙ (opened.start ∙ (λ i. start_on (rows i) (limits i).acts (limits i).lines)))
          passes.list (sym (passes.faults ∙ opened.faults)) c.tables-tables.ensures.reached c.requires.kept c.requires.told c.requires.on c.requires.sound,
      c.requires.table.2,
      passes.next,
    )

pub returns-clause-legal : goal.returns-clause-legal
returns-clause-legal g c =
    let limits = c.capacity-capacity.ensures in
    let rows = ap rows_of c.of-opening.ensures ∙ c.tables-tables.ensures.book in
    legal_first c.args.office.capacity c.args.office.book
    (start_on (rows_of c.of-opening.result.value) c.capacity-capacity.result.acts c.capacity-capacity.result.lines)
    (λ i. start_on (rows i) (limits i).acts (limits i).lines) c.tables-tables.ensures.reached
