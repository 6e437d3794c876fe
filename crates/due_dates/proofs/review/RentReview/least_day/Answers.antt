use Rattle.due_dates.proofs.Words.{◌∙◌, ap, arith, ℕ, List, Option, map, is_rent_stale_on, is_due_on, with_days}
use Rattle.std.proofs.lemmas.List.{take_rest}
use Rattle.due_dates.proofs.{StaleLemmas.changes_at_beginnings, ReviewLemmas.with_days-least, ReviewLemmas.from_span}
use Rattle.record_history.specs.{declared.records.Record.Record, Held.records_of}
use Rattle.due_dates.proofs.review.RentReview.least_day.Goals as goal

pub returns : goal.returns
returns c =
    let review = c.args.self.now in
    let records = records_of review.history.now.households review.household in
    let live = c.live_records-live.result.now in
    let passes = is_rent_stale_on records review.table.now.units review.table.now.rents in
    let rows = map (λ row. row.from) review.table.now.rents in
    let among = λ (best : Option ℕ) (those : List Record). with_days (is_due_on review) best (map (λ r. r.from) those) in
    let rest = take_rest live c.how_many_before-early.result in
    let skipped = ap (among c.earlier-at_once.result) rest ∙ from_span passes review.first review.last live c.how_many_before-early.result c.earlier-at_once.result
    (λ k d low. c.how_many_before-early.ensures.point.0 k d (omega arith) low) c.how_many_before-early.ensures.bound in
    let found = with_days-least passes review.first review.last (map (λ r. r.from) live) rows
    (changes_at_beginnings records live review.table.now.units review.table.now.rents c.live_records-live.ensures.order) in
    c.among_rows.ensures
    ∙ ap (λ (best : Option ℕ). with_days (is_due_on review) best rows) (c.among_records.ensures ∙ skipped ∙ ap (λ (best : Option ℕ). among best live) c.earlier-at_once.ensures)
    ∙ found
