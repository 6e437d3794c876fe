use Rattle.std.proofs.Common.{◌∙◌, ◌++◌, ◌∷◌, ◌+◌, [], ap, sym, add-one, arith}
use Rattle.std.specs.List.{range_with_len}
use Rattle.list_laws.proofs.Ranges.{range_more}
use Rattle.generator.proofs.months.numbers_to.Goals as goal

pub loop-place-preserved : goal.loop-place-preserved
loop-place-preserved c =
    let place = c.loop-place.place in
    c.in_ok-push.ensures.items ∙ ap (λ numbers. numbers ++ (place + 1) ∷ []) c.loop-place.invariant
    ∙ sym (range_more 1 place (place + 1) (omega arith)) ∙ ap (range_with_len 1) (sym (add-one place))
