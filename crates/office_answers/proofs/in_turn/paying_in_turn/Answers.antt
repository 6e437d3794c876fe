use Rattle.std.proofs.Common.{◌≡◌, ◌∙◌, sym, ap, get_or, rules}
use Rattle.std.specs.Prelude.{vec_items}
use Rattle.voucher_core.specs.{declared.line.Line.Line, Lines.is_for}
use Rattle.office_answers.proofs.Turns.{kept_more, kept_same}
use Rattle.office_answers.proofs.in_turn.paying_in_turn.Goals.{then-is_for+in_ok-push, else-is_for}
use Rattle.office_answers.proofs.in_turn.paying_in_turn.Goals as goal

pub loop-at-preserved : goal.loop-at-preserved
loop-at-preserved c =
    let line : Line = c.index-lines-at.result in
    let at : get_or c.args.lines.now c.loop-at.at line ≡ line = search rules in
    record {
      within = c.next_place-at.ensures.within;
      kept = elim c.if-is_for.branch [
        | then-is_for+in_ok-push w ↦
            kept_more (is_for c.args.household c.args.month) c.args.lines.now c.loop-at.at c.next_place-at.result line c.loop-at.paying.items c.if-is_for.paying.items
            c.loop-at-test.true at c.next_place-at.ensures.after c.next_place-at.ensures.within c.next_place-at.ensures.passed c.loop-at.invariant.kept
            (sym c.is_for.ensures ∙ w.if-is_for.true) (ap vec_items w.paying-is ∙ w.in_ok-push.ensures.items)
        | else-is_for w ↦
            kept_same (is_for c.args.household c.args.month) c.args.lines.now c.loop-at.at c.next_place-at.result line c.loop-at.paying.items c.if-is_for.paying.items
            c.loop-at-test.true at c.next_place-at.ensures.after c.next_place-at.ensures.within c.next_place-at.ensures.passed c.loop-at.invariant.kept
            (sym c.is_for.ensures ∙ w.if-is_for.false) (ap vec_items w.paying-is)
      ];
    }
