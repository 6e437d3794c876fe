use Rattle.std.proofs.Common.{◌∙◌, sym, ap, subst}
use Rattle.std.specs.Prelude.{All}
use Rattle.std.proofs.lemmas.List.Elements.{All-nil}
use Rattle.record_history.specs.Held.{IsWithin}
use Rattle.book_rows.specs.Book.{Book}
use Rattle.row_index.specs.Index.{index_of}
use Rattle.book_replay.specs.Below.book_search.Requests.{act_key}
use Rattle.office_answers.specs.Below.office_step.{Known.known_of, Step.reached_empty}
use Rattle.office_core.proofs.office.Office.new.Goals as goal

pub invariant_of-result : goal.invariant_of-result
invariant_of-result c = record {
  acts = c.requires.acts;
  lines = c.requires.lines;
  reached = rw c.new.ensures reached_empty;
  known = c.in_ok-new.ensures ∙ ap known_of (sym c.new.ensures);
  records = subst (λ (b : Book). All IsWithin b.records) (sym c.new.ensures) (All-nil IsWithin);
  requests = c.new-3.ensures ∙ sym (ap (λ (b : Book). index_of act_key b.acts) c.new.ensures);
}
