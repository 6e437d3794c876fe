use Rattle.std.proofs.Common.{◌∙◌, ◌==◌, ◌++◌, ap, codes, filter, not}
use Rattle.std.specs.List.{flat_map}
use Rattle.std.proofs.lemmas.Result.{on_ok_weaker}
use Rattle.forms_text.specs.Form.{adjusting_header, adjusting_line, adjusting_schedule}
use Rattle.forms_text.proofs.Parts.{three}
use Rattle.forms_text.proofs.schedules.push_adjusting_schedule.Goals as goal

pub returns : goal.returns
unfolding adjusting_schedule
returns c =
    let old = c.args.text.now.items in
    let title = codes "SCHEDULE OF ADJUSTMENTS\n" in
    on_ok_weaker c.push_adjusting_lines.result
    (λ lines. three old _ _ _ _ _ _ c.in_ok-push.ensures c.in_ok-push_adjusting_header.ensures lines
    ∙ ap (λ lines. old ++ (title ++ adjusting_header ++ flat_map adjusting_line (filter (λ line. not (line.for_month == c.args.voucher.now.month)) lines))) c.as_slice.ensures)
    c.push_adjusting_lines.ensures
