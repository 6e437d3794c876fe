use Rattle.std.proofs.Common.{◌∙◌, ◌==◌, ◌++◌, ap, codes, filter}
use Rattle.std.specs.List.{flat_map}
use Rattle.std.proofs.lemmas.Result.{on_ok_weaker}
use Rattle.office_core.specs.Below.office_step.Known.{known_of}
use Rattle.forms_text.specs.Form.{own_header, own_line, own_schedule}
use Rattle.forms_text.proofs.Parts.{three}
use Rattle.forms_text.proofs.schedules.push_own_schedule.Goals as goal

pub returns : goal.returns
unfolding own_schedule
returns c =
    let old = c.args.text.now.items in
    let title = codes "SCHEDULE OF TENANT ASSISTANCE PAYMENTS DUE\n" in
    let row = own_line (known_of c.args.office.now.book) in
    on_ok_weaker c.push_own_lines.result
    (λ lines. three old _ _ _ _ _ _ c.in_ok-push.ensures c.in_ok-push_own_header.ensures lines
    ∙ ap (λ lines. old ++ (title ++ own_header ++ flat_map row (filter (λ line. line.for_month == c.args.voucher.now.month) lines))) c.as_slice.ensures)
    c.push_own_lines.ensures
