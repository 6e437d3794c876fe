use Rattle.std.proofs.Common.{◌-◌, length, drop, arith, length-drop}
use Rattle.std.proofs.lemmas.List.{take_all}
use Rattle.book_search.proofs.Stretch.{filter_stretch}
use Rattle.book_search.proofs.by_act.lines_of_act.Goals as goal

pub returns : goal.returns
returns c =
    let lines = c.args.lines.now in
    let i = c.first_line.result in
    let rest = take_all (length lines - i) (drop i lines) (omega (arith, length-drop i lines)) in
    rw rest (filter_stretch (λ line. line.act) lines c.args.n i c.lines_up_to.result c.first_line.ensures.bound
    (rw rest at c.lines_up_to.ensures.bound) c.first_line.ensures.point (rw rest at c.lines_up_to.ensures.point))
