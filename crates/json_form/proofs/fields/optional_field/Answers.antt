use Rattle.std.proofs.Common.{rules}
use Rattle.json_form.specs.Form.{optional_field}
use Rattle.json_form.proofs.fields.optional_field.Goals as goal

pub returns-in-None : goal.returns-in-None
unfolding optional_field
returns-in-None g c = search rules
