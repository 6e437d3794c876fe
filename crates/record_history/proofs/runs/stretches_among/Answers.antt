use Rattle.record_history.proofs.Words.{◌≡◌, ◌∙◌, sym, ap, ℕ, arith, rules, as_of, number_on, Decides-eqb}
use Rattle.record_history.proofs.Longest.{none_yet, all_days}
use Rattle.record_history.proofs.runs.stretches_among.Goals as goal

pub loop-day-init : goal.loop-day-init
loop-day-init c = (
  rw (none_yet (number_on (as_of c.args.act c.args.own.now.records.items)) c.args.first c.args.first (omega arith)) (search rules),
  omega arith,
)

pub loop-day-preserved : goal.loop-day-preserved
loop-day-preserved c =
    let known : ℕ → ℕ = number_on (as_of c.args.act c.args.own.now.records.items) in (
      c.in_ok-add_days.ensures.ok known c.args.first Decides-eqb c.loop-day.auto.day
          (λ day from to. (let same : day ≡ c.loop-day.day = omega (arith, from, to) in ap known same ∙ sym c.number_on.ensures)) c.loop-day.invariant.0,
      omega arith,
    )

pub returns : goal.returns
returns c =
    c.loop-day.invariant.0
    ∙ all_days (number_on (as_of c.args.act c.args.own.now.records.items)) c.args.first c.loop-day.day c.args.last (omega arith) c.loop-day.invariant.1
