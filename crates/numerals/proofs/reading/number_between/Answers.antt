use Rattle.std.proofs.Common.{◌≡◌, ◌∙◌, sym, true, rules, drop, get_or, ◌<◌, ◌+◌, ◌*◌, ◌-◌}
use Rattle.std.specs.Char.{is_ascii_digit}
use Rattle.numerals.proofs.Digits.{from_start, next_digit, too_large}
use Rattle.numerals.proofs.reading.number_between.Goals as goal

pub returns-then-number-from-clause-exact : goal.returns-then-number-from-clause-exact
returns-then-number-from-clause-exact c =
    let text = c.args.text.now in
    let at = c.loop-byte.byte-index in
    let number = c.loop-byte.number in
    let digit : is_ascii_digit (get_or text at 0) ≡ true = search rules in
    let above : c.args.most < 10 * number + (get_or text at 0 - 48) = search rules in
    sym (from_start c.args.least c.args.most text (sym c.is_empty.ensures ∙ c.if-is_empty.false) ∙ sym c.loop-byte.invariant.rest
    ∙ next_digit c.args.least c.args.most number text at 0 c.loop-byte-test.true digit ∙ too_large c.args.least c.args.most _ (drop (at + 1) text) above)
