-- From the office's answers to the texts.
use Rattle.std.proofs.Common.{◌≡◌, ℕ, Bool, cond, true, false, refl, sym, ap, Some, None}
use Rattle.std.proofs.lemmas.Option.{none-some, same_Some}
use Rattle.office_core.specs.Below.office_step.{Known.Known}
use Rattle.office_core.specs.Below.office_answers.{declared.answer.Voucher.Voucher}
use Rattle.forms_text.specs.{Form.form_text, Form.not_closed}

pub closed_form : (closed : Bool) (v w : Voucher) (known : Known) (month : ℕ) → cond closed (Some v) None ≡ Some w
    → form_text known w ≡ cond closed (form_text known v) (not_closed month)
closed_form true v w known month e = ap (form_text known) (sym (same_Some v w e))
closed_form false v w known month e = absurd (none-some w e)

pub open_form : (closed : Bool) (v : Voucher) (known : Known) (month : ℕ) → cond closed (Some v) None ≡ None
    → not_closed month ≡ cond closed (form_text known v) (not_closed month)
open_form true v known month e = absurd (none-some v (sym e))
open_form false v known month e = refl
