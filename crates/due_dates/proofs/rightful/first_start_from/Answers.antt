use Rattle.due_dates.proofs.Words.{rules, ◌≡◌, ◌+◌, ◌∙◌, sym, ap, eqb-true, eqb-false, month_of, first_of, begins_from}
use Rattle.due_dates.proofs.MonthLemmas.{first_month_that-is, first_start-own, first_start-next}
use Rattle.due_dates.proofs.rightful.first_start_from.Goals as goal

pub returns-then-eq : goal.returns-then-eq
returns-then-eq c =
    let day : c.unwrap-day.result ≡ c.args.number = search rules in
    let same : c.first_of-start.result ≡ c.unwrap-day.result = eqb-true _ _ (sym c.eq.ensures ∙ c.if-eq.true) in
    let start : first_of (month_of c.args.number) ≡ c.args.number = cc in
    rw (first_month_that-is (begins_from c.args.number) (month_of c.args.number) (first_start-own c.args.number c.requires start)) (cc)

pub returns-else-eq : goal.returns-else-eq
returns-else-eq c =
    let day : c.unwrap-day.result ≡ c.args.number = search rules in
    let start : c.first_of-start.result ≡ first_of (month_of c.args.number) = cc in
    let found = first_month_that-is (begins_from c.args.number) (month_of c.args.number + 1) (first_start-next c.args.number c.requires
    (λ same. eqb-false _ _ (sym c.eq.ensures ∙ c.if-eq.false) (start ∙ same ∙ sym day)))
    in let next = ap first_of found in cc
