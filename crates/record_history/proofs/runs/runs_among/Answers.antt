use Rattle.record_history.proofs.Words.{◌≡◌, ◌+◌, map, arith, nat_eq, as_of, number_on, stretches, stretch_of, IfOk-weaker}
use Rattle.record_history.proofs.Longest.{stretches_by, covered}
use Rattle.record_history.proofs.runs.runs_among.Goals as goal

pub runs_of-requires : goal.runs_of-requires
runs_of-requires c =
    rw (c.deref.ensures.value, c.in_ok-days.ensures)
    (stretches_by (number_on (as_of c.args.act c.args.own.now.records.items)) c.number.result (c.number-2.result + 1) 116877 (omega arith))

pub returns-clause-longest : goal.returns-clause-longest
returns-clause-longest c =
    IfOk-weaker c.runs_of.result (λ runs. map stretch_of runs.items ≡ c.deref.result.now) _
    (λ runs made within.
    (let all : map stretch_of runs.items ≡ stretches nat_eq (number_on (as_of c.args.act c.args.own.now.records.items)) c.args.first (c.args.last + 1) = cc (made, c.deref.ensures.value, c.in_ok-days.ensures, c.number.ensures.value, c.number-2.ensures.value) in
    rw all (covered (number_on (as_of c.args.act c.args.own.now.records.items)) c.args.first (c.args.last + 1) within)))
    c.runs_of.ensures
