use Rattle.std.proofs.Common.{◌≡◌, ◌∙◌, ap, decimal, rules}
use Rattle.std.specs.Fmt.{signed_decimal}
use Rattle.std.proofs.lemmas.Result.{on_ok_weaker}
use Rattle.forms_text.proofs.Headed.{headed}
use Rattle.forms_text.proofs.form.push_heading.Goals as goal

pub returns : goal.returns
returns c =
    let requested : c.as_bytes-3.result.now ≡ signed_decimal c.args.voucher.now.requested = search rules in
    let adjustments : c.as_bytes-4.result.now ≡ signed_decimal c.args.voucher.now.adjustments = search rules in
    let sum : c.as_bytes-5.result.now ≡ signed_decimal c.args.voucher.now.total = search rules in
    on_ok_weaker c.push_labelled-5.result
    (headed c.args.voucher.now c.args.text.now.items _ _ _ _ _ _ _ _ _ _ _
    (c.as_bytes.ensures ∙ c.in_ok-month.ensures)
    (c.as_bytes-2.ensures.value ∙ c.in_ok-households.ensures ∙ ap decimal c.in_ok-count_households.ensures)
    requested adjustments sum
    c.in_ok-push.ensures c.in_ok-push_labelled.ensures c.in_ok-push_labelled-2.ensures
    c.in_ok-push_labelled-3.ensures c.in_ok-push_labelled-4.ensures)
    c.push_labelled-5.ensures
