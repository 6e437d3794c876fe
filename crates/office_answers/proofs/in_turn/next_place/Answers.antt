use Rattle.std.proofs.Common.{◌≡◌, ◌∙◌, sym, ◌<◌, arith, get_or}
use Rattle.std.proofs.lemmas.List.{get_or_default}
use Rattle.voucher_core.specs.declared.line.Line.{Line}
use Rattle.office_answers.specs.InTurn.{turn_of, ComesNoLater}
use Rattle.office_answers.proofs.Turns.{GoesOnAt, passed_over}
use Rattle.office_answers.proofs.in_turn.next_place.Goals.{then-turn_of-wanted, else-turn_of-wanted}
use Rattle.office_answers.proofs.in_turn.next_place.Goals as goal

pub returns-clause-passed : goal.returns-clause-passed
returns-clause-passed c =
    let line : Line = c.index-lines-at.result in
    let goes_on : GoesOnAt line (turn_of c.args.month c.args.household) c.if-turn_of-wanted.closing =
    elim c.if-turn_of-wanted.branch [
      | then-turn_of-wanted w ↦ record {
        same = λ order. w.closing-is ∙ w.number-closing.ensures.value;
        next = λ later. absurd (omega (arith, later, w.if-turn_of-wanted.true, c.turn_of.ensures, c.turn_of-wanted.ensures));
      }
      | else-turn_of-wanted w ↦ record {
        same = λ order. absurd (omega (arith, order, w.if-turn_of-wanted.false, c.turn_of.ensures, c.turn_of-wanted.ensures));
        next = λ later. omega (arith, w.closing-is, w.number.ensures.value);
      }
    ] in
    λ k d low high.
    let before : k < c.how_many_before.result = omega arith in
    let at : get_or c.args.lines.now c.args.at d ≡ line = get_or_default c.args.lines.now c.args.at d line c.requires.at ∙ sym c.index-lines-at.is in
    let follows : ComesNoLater line (get_or c.args.lines.now k d) = rw at at (c.requires.in_turn c.args.at k d low (omega arith)) in
    passed_over line (get_or c.args.lines.now k d) c.args.household c.args.month c.if-turn_of-wanted.closing goes_on follows
    (rw c.turn_of-wanted.ensures at (c.how_many_before.ensures.point.0 k d (omega arith) before))
