use Rattle.std.proofs.Common.{◌∙◌, sym, rules}
use Rattle.http_routes.proofs.Numbers.{empty_number, no_number, not_empty, number_parsed}
use Rattle.http_routes.proofs.parts.number.Goals as goal

pub returns-then-is_empty : goal.returns-then-is_empty
returns-then-is_empty c = empty_number c.args.text.now (search rules)

pub returns-then-not-are_digits : goal.returns-then-not-are_digits
returns-then-not-are_digits c = no_number c.args.text.now (search rules)

pub returns : goal.returns
returns c = c.ok.ensures.value ∙ number_parsed c.args.text.now _ c.parse.ensures.value.0 (search rules) (not_empty c.args.text.now (sym c.is_empty.ensures ∙ c.if-is_empty.false))
