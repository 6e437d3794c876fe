use Rattle.std.proofs.Common.{◌∙◌, ap, codes}
use Rattle.std.proofs.lemmas.Result.{IfOk-weaker}
use Rattle.command_words.specs.Command.{with_alone, with_valued}
use Rattle.command_words.proofs.command.office_command.Goals as goal

pub returns : goal.returns
returns c =
    let before = c.program.ensures in
    let after_assess = c.in_ok-office.ensures ∙ ap (with_alone (codes "assess")) before in
    let after_batch = c.in_ok-office-2.ensures ∙ ap (with_alone (codes "batch")) after_assess in
    let after_voucher = c.in_ok-office-3.ensures ∙ ap (with_valued (codes "voucher")) after_batch in
    let after_export = c.in_ok-office-4.ensures ∙ ap (with_alone (codes "export")) after_voucher in
    let after_import = c.in_ok-office-5.ensures ∙ ap (with_valued (codes "import")) after_export in
    let after_due = c.in_ok-office-6.ensures ∙ ap (with_valued (codes "due")) after_import in
    let after_targets = c.in_ok-office-7.ensures ∙ ap (with_valued (codes "targets")) after_due in
    let after_make = c.in_ok-office-8.ensures ∙ ap (with_valued (codes "make")) after_targets in
    IfOk-weaker c.with_valued-6.result _ _ (λ command last. last ∙ ap (with_valued (codes "trial")) after_make) c.with_valued-6.ensures
