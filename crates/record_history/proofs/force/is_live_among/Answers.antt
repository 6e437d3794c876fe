use Rattle.record_history.proofs.Words.{◌≡◌, ◌∙◌, sym, arith, nat_tests, false, nat_le, le-leb}
use Rattle.record_history.proofs.CorrectedLemmas.{found_number, live_found, live_none}
use Rattle.record_history.proofs.force.is_live_among.Goals as goal

pub is_live_at-requires-clause-number : goal.is_live_at-requires-clause-number
is_live_at-requires-clause-number c =
    found_number c.args.own.now.records.items c.requires.kept.numbered c.args.number c.in-Some.held.now (sym c.in-Some.ensures)

pub returns-then-held-act : goal.returns-then-held-act
returns-then-held-act c =
    let known = le-leb _ _ c.if-held-act.true in
    c.is_live_at.ensures
    ∙ (rw known at (live_found c.args.own.now.records.items c.requires.kept.numbered c.args.number c.args.act c.in-Some.held.now (sym c.in-Some.ensures)))

pub returns-else-held-act : goal.returns-else-held-act
returns-else-held-act c =
    let unknown : nat_le c.in-Some.held.now.act c.args.act ≡ false = grind (arith, nat_tests, c.if-held-act.false) in
    unknown
    ∙ (rw unknown at (live_found c.args.own.now.records.items c.requires.kept.numbered c.args.number c.args.act c.in-Some.held.now (sym c.in-Some.ensures)))

pub returns-in-None : goal.returns-in-None
returns-in-None c = live_none c.args.own.now.records.items c.requires.kept.numbered c.args.number c.args.act (sym c.in-None.ensures)
