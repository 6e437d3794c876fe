use Rattle.record_history.proofs.Words.{◌≡◌, ◌∙◌, ◌<◌, ◌≤◌, sym, ap, rules, Bool, List, length, get_or, take, nat_le, as_of, is_live, option_copied, Record}
use Rattle.std.specs.Prelude.{◌&&◌}
use Rattle.record_history.proofs.CorrectedLemmas.{latest_then, latest_else, in_force_filter, take_past}
use Rattle.record_history.proofs.force.in_force_earlier.Goals.{then-counts_on, else-counts_on}
use Rattle.record_history.proofs.force.in_force_earlier.Goals as goal

pub loop-held-preserved : goal.loop-held-preserved
loop-held-preserved c =
    let records : List Record = c.args.own.now.records.items in
    let passes : Record → Bool = λ r. (nat_le r.act c.args.act && is_live (as_of c.args.act records) r) && nat_le r.from c.args.day in
    let within : c.loop-held.held-index < length c.args.own.now.records.items = search rules in
    let at : get_or c.args.own.now.records.items c.loop-held.held-index c.held-item.result ≡ c.held-item.result = search rules in
    elim c.if-counts_on.branch [
      | then-counts_on w ↦
          latest_then passes records c.loop-held.held-index c.held-item.result (option_copied c.loop-held.latest) (option_copied c.if-counts_on.latest) within at
          c.loop-held.invariant (sym c.counts_on.ensures ∙ w.if-counts_on.true) (ap option_copied w.latest-is ∙ w.later-latest.ensures)
      | else-counts_on w ↦
          latest_else passes records c.loop-held.held-index c.held-item.result (option_copied c.loop-held.latest) (option_copied c.if-counts_on.latest) within at
          c.loop-held.invariant (sym c.counts_on.ensures ∙ w.if-counts_on.false) (ap option_copied w.latest-is)
    ]

pub returns : goal.returns
returns c =
    let past : length c.args.own.now.records.items ≤ c.loop-held.held-index = search rules in
    let all : take c.loop-held.held-index c.args.own.now.records.items ≡ c.args.own.now.records.items =
    take_past c.args.own.now.records.items c.loop-held.held-index past in
    rw all at c.loop-held.invariant ∙ in_force_filter c.args.own.now.records.items c.args.act c.args.day
