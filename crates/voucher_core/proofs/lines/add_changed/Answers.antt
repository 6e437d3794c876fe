use Rattle.voucher_core.proofs.Words.{◌≡◌, ◌∙◌, ap, get_or, last_of, vec_items, records_of, month_lines, known_as_of, touched_household, Touched}
use Rattle.voucher_core.proofs.{Gathered.some-more, Gathered.none-more, Untouched.none_before}
use Rattle.voucher_core.proofs.lines.add_changed.Goals.{then-touched-last+in_ok-add_household, else-touched-last}
use Rattle.voucher_core.proofs.lines.add_changed.Goals as goal

pub loop-touched-preserved : goal.loop-touched-preserved
loop-touched-preserved c =
    let touched : Touched = get_or c.args.changed.now c.loop-touched.touched-index (record { household = 0; first = 0 }) in
    some-more (λ h. month_lines c.args.closing.now h c.args.month (known_as_of (records_of c.args.history.now.households) c.args.closing.now.last_close h) (known_as_of (records_of c.args.history.now.households) c.args.closing.now.act h)) touched_household
    c.args.changed.now c.loop-touched.touched-index (record { household = 0; first = 0 }) c.args.lines.now.items c.loop-touched.lines.items c.if-touched-last.lines.items
    c.loop-touched-test.true c.loop-touched.invariant
    (elim c.if-touched-last.branch [
      | then-touched-last+in_ok-add_household w ↦ ap vec_items w.lines-is ∙ w.in_ok-add_household.ensures
      | else-touched-last w ↦
          none-more c.loop-touched.lines.items c.if-touched-last.lines.items _ (ap vec_items w.lines-is)
          (none_before (records_of c.args.history.now.households) c.args.closing.now c.requires.last_close touched.household c.args.month touched.first
          (c.requires.untouched c.loop-touched.touched-index (record { household = 0; first = 0 }) c.loop-touched-test.true)
          (let last : c.number-last.result ≡ last_of c.args.month = c.number-last.ensures.value ∙ c.last_of.ensures in rw last at w.if-touched-last.false))
    ])
