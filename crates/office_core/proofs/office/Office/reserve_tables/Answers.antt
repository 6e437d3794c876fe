use Rattle.std.proofs.Common.{◌∙◌, sym, ap, subst}
use Rattle.std.specs.Prelude.{All}
use Rattle.record_history.specs.Held.{IsWithin}
use Rattle.book_rows.specs.Book.{Book}
use Rattle.row_index.specs.Index.{index_of}
use Rattle.book_replay.specs.Below.book_search.Requests.{act_key}
use Rattle.office_answers.specs.Below.office_step.{Known.known_of, Step.IsReached}
use Rattle.office_core.proofs.office.Office.reserve_tables.Goals as goal

pub invariant_of-self : goal.invariant_of-self
invariant_of-self c =
    let same = sym c.reserve.ensures.book in
    record {
      acts = c.self.invariant.acts;
      lines = c.self.invariant.lines;
      reached = subst (λ (b : Book). IsReached c.self.inside.capacity b) same c.self.invariant.reached;
      known = c.self.invariant.known ∙ ap known_of same;
      requests = c.self.invariant.requests ∙ ap (λ (b : Book). index_of act_key b.acts) same;
      records = subst (λ (b : Book). All IsWithin b.records) same c.self.invariant.records;
    }
