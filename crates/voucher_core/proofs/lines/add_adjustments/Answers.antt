use Rattle.voucher_core.proofs.Words.{◌≡◌, ◌++◌, ◌∙◌, ap, arith, length, ℕ, List, map, flat_map, records_of, Line, month_lines, known_as_of, lines_for, touched_household}
use Rattle.voucher_core.proofs.{Gathered.pieces-none, Gathered.pieces-more, Gathered.adjustments-all, Gathered.unwrapped, Unchanged.all_of_changed, Untouched.month_untouched}
use Rattle.voucher_core.proofs.lines.add_adjustments.Goals as goal

pub loop-month-init : goal.loop-month-init
loop-month-init c = record {
  lines =
      pieces-none (lines_for (known_as_of (records_of c.args.history.now.households) c.args.closing.now.last_close) (known_as_of (records_of c.args.history.now.households) c.args.closing.now.act) (length c.args.history.now.households) c.args.closing.now)
      c.args.closing.now.first_month c.first_changed-month.result c.args.lines.now.items c.first_changed-month.ensures.from
      (λ month from to.
      month_untouched (records_of c.args.history.now.households) (length c.args.history.now.households) c.args.closing.now c.in_ok-changed.changed.items
      c.requires.last_close c.in_ok-changed.ensures.households c.in_ok-changed.ensures.untouched month
      (rw c.deref.ensures.value at (c.first_changed-month.ensures.untouched month from to)));
  within = omega arith;
}

pub loop-month-preserved : goal.loop-month-preserved
loop-month-preserved c =
    let found : c.unwrap-month.result ≡ c.loop-month.month = unwrapped c.from_number.result _ c.loop-month.month c.unwrap-month.result c.from_number.ensures c.unwrap-month.ensures in
    record {
      lines =
          pieces-more (lines_for (known_as_of (records_of c.args.history.now.households) c.args.closing.now.last_close) (known_as_of (records_of c.args.history.now.households) c.args.closing.now.act) (length c.args.history.now.households) c.args.closing.now)
          c.args.closing.now.first_month c.loop-month.month c.args.lines.now.items c.loop-month.lines.items c.add_changed.new.lines.items (omega arith) c.loop-month.invariant.lines
          (c.in_ok-add_changed.ensures
          ∙ ap (λ (m : ℕ). c.loop-month.lines.items
          ++ flat_map (λ h. month_lines c.args.closing.now h m (known_as_of (records_of c.args.history.now.households) c.args.closing.now.last_close h) (known_as_of (records_of c.args.history.now.households) c.args.closing.now.act h)) (map touched_household c.deref-in-loop-month.result.now)) found
          ∙ ap (λ (hs : List ℕ). c.loop-month.lines.items
          ++ flat_map (λ h. month_lines c.args.closing.now h c.loop-month.month (known_as_of (records_of c.args.history.now.households) c.args.closing.now.last_close h) (known_as_of (records_of c.args.history.now.households) c.args.closing.now.act h)) hs)
          (ap (map touched_household) c.deref-in-loop-month.ensures.value ∙ c.in_ok-changed.ensures.households)
          ∙ ap (λ (more : List Line). c.loop-month.lines.items ++ more)
          (all_of_changed (records_of c.args.history.now.households) (length c.args.history.now.households) c.args.closing.now c.loop-month.month c.requires.last_close));
      within = omega arith;
    }

pub returns : goal.returns
returns c =
    adjustments-all (records_of c.args.history.now.households) (length c.args.history.now.households) c.args.closing.now
    c.loop-month.month c.args.lines.now.items c.loop-month.lines.items c.if-closing-eq0.false (omega arith) (omega arith) c.loop-month.invariant.within c.loop-month.invariant.lines
