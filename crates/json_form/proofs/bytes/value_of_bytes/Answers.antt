use Rattle.std.proofs.{Common.ap, lemmas.Bool.false≢true}
use Rattle.serde_json.specs.View.{view}
use Rattle.json_form.specs.Form.{fit}
use Rattle.json_form.proofs.Texts.{data_from_text, data_from_other}
use Rattle.json_form.proofs.bytes.value_of_bytes.Goals as goal

pub returns-in-Ok : goal.returns-in-Ok
returns-in-Ok c = ap fit (data_from_text c.args.bytes.now (view c.in-Ok.value) c.in-Ok.ensures.ok.0 c.in-Ok.ensures.ok.1)

pub returns-in-Err-2 : goal.returns-in-Err-2
returns-in-Err-2 c =
    let refused = data_from_other c.args.bytes.now (c.in-Err.ensures.err (λ m. false≢true (c.if-is_memory.ensures.1 m))) in
    rw c.here.ensures (ap fit refused)
