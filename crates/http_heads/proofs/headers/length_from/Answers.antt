use Rattle.std.proofs.Common.{◌∙◌, arith, rules}
use Rattle.std.specs.Char.{is_ascii_digit}
use Rattle.std.proofs.lemmas.{Bool.and_from, List.Folds.list_all_more}
use Rattle.http_heads.proofs.Numbers.{bad_digit, good_length, long_length, no_digit, next_digit}
use Rattle.http_heads.proofs.headers.length_from.Goals as goal

pub returns-then-is_empty : goal.returns-then-is_empty
returns-then-is_empty c = no_digit c.args.digits.now (search rules)

pub returns-then-not-is_ascii_digit : goal.returns-then-not-is_ascii_digit
returns-then-not-is_ascii_digit c = bad_digit c.args.digits.now c.loop-digit.digit-index c.loop-digit-test.true (search rules)

pub loop-digit-preserved : goal.loop-digit-preserved
loop-digit-preserved c = record {
  digits = list_all_more is_ascii_digit c.args.digits.now c.loop-digit.digit-index 0 c.loop-digit-test.true ∙ and_from _ _ c.loop-digit.invariant.digits (search rules);
  small = omega arith;
  value = next_digit c.args.digits.now c.loop-digit.count c.loop-digit.digit-index c.min-count.result c.loop-digit-test.true (search rules) (search rules) c.loop-digit.invariant.value;
}

pub returns-then-count-gt-BODY_LIMIT : goal.returns-then-count-gt-BODY_LIMIT
returns-then-count-gt-BODY_LIMIT c =
    long_length c.args.digits.now c.loop-digit.count c.loop-digit.digit-index (search rules) c.loop-digit-test.false c.loop-digit.invariant.digits c.loop-digit.invariant.value (omega arith)

pub returns-else-count-gt-BODY_LIMIT : goal.returns-else-count-gt-BODY_LIMIT
returns-else-count-gt-BODY_LIMIT c =
    good_length c.args.digits.now c.loop-digit.count c.loop-digit.digit-index (search rules) c.loop-digit-test.false c.loop-digit.invariant.digits c.loop-digit.invariant.value (omega arith)
