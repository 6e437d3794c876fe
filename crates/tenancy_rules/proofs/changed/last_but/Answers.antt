use Rattle.tenancy_rules.proofs.Words.{◌≡◌, ◌∙◌, sym, ap, true, ◌∷◌, [], ◌++◌, ◌==◌, not, latest, comes_before, Record, AllPairs-filter}
use Rattle.std.proofs.Common.{rules}
use Rattle.tenancy_rules.proofs.Ordered.{last_dropped, last_stays}
use Rattle.tenancy_rules.proofs.changed.last_but.Goals as goal

pub last_of-requires : goal.last_of-requires
last_of-requires c =
    let is : c.args.records.now ≡ c.in-Some.earlier.now ++ c.in-Some.held.now ∷ [] = search rules in
    rw (last_dropped c.args.records.now c.in-Some.earlier.now c.in-Some.held.now c.args.dropped is c.requires.own c.if-held-dropped.true)
    (AllPairs-filter (λ r next. comes_before r next ≡ true) (λ (r : Record). not (r.number == c.args.dropped)) c.args.records.now c.requires.in_order)

pub returns-in-Some : goal.returns-in-Some
returns-in-Some c =
    let is : c.args.records.now ≡ c.in-Some.earlier.now ++ c.in-Some.held.now ∷ [] = search rules in
    c.last_of.ensures ∙ ap latest (last_dropped c.args.records.now c.in-Some.earlier.now c.in-Some.held.now c.args.dropped is c.requires.own c.if-held-dropped.true)

pub returns-in-Some-2 : goal.returns-in-Some-2
returns-in-Some-2 c =
    let is : c.args.records.now ≡ c.in-Some-2.field-0-1.now ++ c.in-Some.held.now ∷ [] = search rules in
    sym (last_stays c.args.records.now c.in-Some-2.field-0-1.now c.in-Some.held.now c.args.dropped is c.requires.in_order c.if-held-dropped.false)
