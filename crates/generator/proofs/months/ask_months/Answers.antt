use Rattle.std.proofs.Common.{◌≡◌, ◌∙◌, ◌++◌, ◌+◌, ap, append_assoc, sym, flat_map, add-one, rules}
use Rattle.std.specs.List.{range_with_len}
use Rattle.generator.specs.Acts.{month_acts}
use Rattle.list_laws.proofs.Ranges.{flat_map-range_more}
use Rattle.generator.proofs.months.ask_months.Goals as goal

pub loop-place-preserved : goal.loop-place-preserved
loop-place-preserved c =
    let place = c.loop-place.place in
    let of_month = month_acts c.args.numbers.now in
    let next : c.args.first + place ≡ c.unwrap-month.result = search rules in
    c.in_ok-ask_month.ensures ∙ ap (λ acts. acts ++ of_month c.unwrap-month.result) c.loop-place.invariant
    ∙ append_assoc c.args.acts.now.items (flat_map of_month (range_with_len c.args.first place)) (of_month c.unwrap-month.result)
    ∙ ap (λ acts. c.args.acts.now.items ++ acts) (sym (flat_map-range_more of_month c.args.first place c.unwrap-month.result next))
    ∙ ap (λ count. c.args.acts.now.items ++ flat_map of_month (range_with_len c.args.first count)) (sym (add-one place))
