use Rattle.std.proofs.Common.{◌∙◌, ap, ◌+◌, refl, arith}
use Rattle.std.proofs.lemmas.List.{take_all}
use Rattle.record_history.specs.Held.{records_of}
use Rattle.office_register.specs.Below.office_step.Candidates.{fiscal_year}
use Rattle.admission_order.proofs.Counted.{SoFar, few-live, all-counted, extremely-counted, few-more, so_far-more, few-extremely}
use Rattle.admission_order.proofs.admissions.targets_by.Goals as goal

pub loop-place-init : goal.loop-place-init
loop-place-init c = record { all = refl; low = refl; few = omega arith }

pub admitted_among-admitted-requires : goal.admitted_among-admitted-requires
admitted_among-admitted-requires c =
    few-live c.args.history.now.households c.loop-place.place c.live_in_order-live.result.now (omega arith) c.requires c.live_in_order-live.ensures.few

pub extremely_among-extremely-requires : goal.extremely_among-extremely-requires
extremely_among-extremely-requires c =
    few-live c.args.history.now.households c.loop-place.place c.live_in_order-live.result.now (omega arith) c.requires c.live_in_order-live.ensures.few

pub overflow_add-admitted : goal.overflow_add-admitted
overflow_add-admitted c =
    let own = records_of c.args.history.now.households (c.loop-place.place + 1) in
    let live = c.live_in_order-live in
    let of_day = c.fiscal_year-year.ensures ∙ ap (fiscal_year c.args.plan.now) c.month_of.ensures in
    let all = c.admitted_among-admitted.ensures
    ∙ all-counted c.args.plan.now c.args.day c.fiscal_year-year.result of_day own live.result.now live.ensures.numbered live.ensures.order in
    omega (
      arith,
      few-more c.args.plan.now c.args.day c.args.history.now.households c.loop-place.place c.loop-place.admitted c.admitted_among-admitted.result
          (omega arith) c.loop-place.invariant.few all,
      c.requires,
    )

-- one household more is counted
so_far : (c : goal.After-extremely_among-extremely) →
    SoFar c.args.plan.now c.args.day c.args.history.now.households (c.loop-place.place + 1)
    (c.loop-place.admitted + c.admitted_among-admitted.result) (c.loop-place.extremely + c.extremely_among-extremely.result)
so_far c =
    let own = records_of c.args.history.now.households (c.loop-place.place + 1) in
    let live = c.live_in_order-live in
    let of_day = c.fiscal_year-year.ensures ∙ ap (fiscal_year c.args.plan.now) c.month_of.ensures in
    let all = c.admitted_among-admitted.ensures
    ∙ all-counted c.args.plan.now c.args.day c.fiscal_year-year.result of_day own live.result.now live.ensures.numbered live.ensures.order in
    let low = c.extremely_among-extremely.ensures
    ∙ extremely-counted c.args.plan.now c.args.day c.fiscal_year-year.result of_day own live.result.now live.ensures.numbered live.ensures.order in
    so_far-more c.args.plan.now c.args.day c.args.history.now.households c.loop-place.place c.loop-place.admitted c.loop-place.extremely
    c.admitted_among-admitted.result c.extremely_among-extremely.result (omega arith) c.loop-place.invariant (record { all = all; low = low })

pub overflow_add-extremely : goal.overflow_add-extremely
overflow_add-extremely c =
    omega (arith, few-extremely c.args.plan.now c.args.day c.args.history.now.households (c.loop-place.place + 1) _ _ (so_far c), c.requires)

pub loop-place-preserved : goal.loop-place-preserved
loop-place-preserved c = so_far c

pub returns : goal.returns
returns c =
    let whole = take_all c.loop-place.place c.args.history.now.households (omega arith) in
    rw (c.loop-place.invariant.all, c.loop-place.invariant.low, whole) refl
