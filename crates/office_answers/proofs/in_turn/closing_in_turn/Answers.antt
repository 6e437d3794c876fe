use Rattle.std.proofs.Common.{◌-◌, length, drop, arith, length-drop}
use Rattle.std.proofs.lemmas.List.{take_all}
use Rattle.office_answers.proofs.Turns.{one_closing}
use Rattle.office_answers.proofs.in_turn.closing_in_turn.Goals as goal

pub returns : goal.returns
returns c =
    let lines = c.args.lines.now in
    let i = c.how_many_before.result in
    let rest = take_all (length lines - i) (drop i lines) (omega (arith, length-drop i lines)) in
    rw rest (one_closing lines c.args.month i c.how_many_before-2.result c.how_many_before.ensures.bound
    (rw rest at c.how_many_before-2.ensures.bound) (rw c.number.ensures.value at c.how_many_before.ensures.point)
    (rw (rest, c.number-2.ensures.value) at c.how_many_before-2.ensures.point))
