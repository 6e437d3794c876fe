use Rattle.std.proofs.Common.{◌≡◌, ◌≤◌, ◌∙◌, arith}
use Rattle.days_core.specs.DayText.{day_text}
use Rattle.json_form.proofs.Stands.{day_text-is_utf8}
use Rattle.json_form.proofs.written.day_string.Goals as goal

pub unwrap-requires : goal.unwrap-requires
unwrap-requires c =
    let in_range : c.args.day ≤ 116877 = omega arith in
    let text : c.into_bytes.result.items ≡ day_text c.args.day = c.into_bytes.ensures ∙ c.in_ok-text.ensures in
    c.from_utf8.ensures.succeeds (rw text (day_text-is_utf8 c.args.day in_range))
