use Rattle.std.proofs.Common.{◌≡◌, ℕ, ◌^◌, ◌<◌, ◌≤◌, List, Option, Some, None, IfSome, decimal, rules, arith, sym}
use Rattle.numerals.specs.Numerals.{plain_number_between}
use Rattle.numerals.proofs.Digits.{written_plain}
use Rattle.numerals.proofs.reading.plain_number_between.Goals as goal

if_written : (least most : ℕ) (text : List ℕ) (r : Option ℕ) → r ≡ plain_number_between least most text → most < 2 ^ 32 → IfSome r (λ n. n ≤ most) → IfSome r (λ number. text ≡ decimal number)
if_written least most text None is fits small = tt
if_written least most text (Some number) is fits small = written_plain least most number text (sym is) (omega arith)

pub returns-in_default-clause-written : goal.returns-in_default-clause-written
unfolding plain_number_between
returns-in_default-clause-written c =
    let exact : c.number_between.result ≡ plain_number_between c.args.least c.args.most c.args.text.now = search rules in
    if_written c.args.least c.args.most c.args.text.now c.number_between.result exact c.ranges.most.fits c.number_between.ensures.most
