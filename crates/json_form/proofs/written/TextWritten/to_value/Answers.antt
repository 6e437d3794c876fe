use Rattle.std.proofs.Common.{sym, ◌∙◌, subst}
use Rattle.std.specs.Str.{IsUtf8}
use Rattle.json_form.proofs.Texts.{text_data-text, text_data-other}
use Rattle.json_form.proofs.written.TextWritten.to_value.Goals as goal

pub returns-in-Ok : goal.returns-in-Ok
returns-in-Ok c =
    let text = c.in-Ok.ensures.cases.0 ∙ c.as_bytes.ensures in
    let valid = subst IsUtf8 c.as_bytes.ensures c.in-Ok.ensures.cases.1 in
    rw (text_data-text c.args.self.now valid) (rw (← text) c.to_value.ensures)

pub returns-in-Err : goal.returns-in-Err
returns-in-Err c = c.null.ensures ∙ sym (text_data-other c.args.self.now (λ valid. c.in-Err.ensures.cases.0 (subst IsUtf8 (sym c.as_bytes.ensures) valid)))
