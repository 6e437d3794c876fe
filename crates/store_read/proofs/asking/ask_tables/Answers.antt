use Rattle.std.proofs.Common.{arith}
use Rattle.std.proofs.lemmas.Result.{err_from_is_err_and}
use Rattle.sqlite.specs.{Held.state, State.HasCleanDisk}
use Rattle.sqlite.proofs.StateLemmas.{survives_then}
use Rattle.store_sql.specs.Columns.{records, lines}
use Rattle.store_sql.proofs.Meanings.{others_in, as_others, records_understood, lines_understood}
use Rattle.store_sql.proofs.Selects.{shows_rows}
use Rattle.store_read.proofs.Texts.{records_only_read, lines_only_read}
use Rattle.store_read.proofs.Asked.{undoes_then}
use Rattle.store_read.proofs.Refused.{asks_rows, unread_then}
use Rattle.store_read.proofs.asking.ask_tables.Goals as goal

pub ask-requires-clause-reads : goal.ask-requires-clause-reads
ask-requires-clause-reads g c = records_only_read

pub ask-requires-clause-refused : goal.ask-requires-clause-refused
ask-requires-clause-refused g c old new e serves = asks_rows records 1 (state g.S.Store old) (state g.S.Store new) e serves (records_understood (others_in serves.schema) serves.schema.later)

pub ask-requires-clause-shows : goal.ask-requires-clause-shows
ask-requires-clause-shows g c old new rows listed has = shows_rows records 1 (others_in has) (records_understood (others_in has) has.later) (state g.S.Store old) (state g.S.Store new) rows listed (as_others has)

pub ask-requires-2-clause-reads : goal.ask-requires-2-clause-reads
ask-requires-2-clause-reads g c = lines_only_read

pub ask-requires-2-clause-refused : goal.ask-requires-2-clause-refused
ask-requires-2-clause-refused g c old new e serves = asks_rows lines 2 (state g.S.Store old) (state g.S.Store new) e serves (lines_understood (others_in serves.schema) serves.schema.later)

pub ask-requires-2-clause-shows : goal.ask-requires-2-clause-shows
ask-requires-2-clause-shows g c old new rows listed has = shows_rows lines 2 (others_in has) (lines_understood (others_in has) has.later) (state g.S.Store old) (state g.S.Store new) rows listed (as_others has)

pub returns-in_err-acts-clause-cause : goal.returns-in_err-acts-clause-cause
returns-in_err-acts-clause-cause g c clean =
    let p = err_from_is_err_and c.from_residual.result c.from_residual.ensures.1 in
    rw (p.1, p.2) (λ serves alone. c.in_err-acts.ensures.cause clean serves)

pub returns-in_err-records-clause-cause : goal.returns-in_err-records-clause-cause
returns-in_err-records-clause-cause g c clean =
    let first = state g.S.Store c.args.conn.now in
    let second = state g.S.Store c.ask_acts.new.conn in
    let new = state g.S.Store c.ask.new.conn in
    let asked = c.in_ok-acts.ensures in
    let did = c.in_err-records.ensures in
    let early : HasCleanDisk second = omega (arith, did.survives.clean, clean) in
    let p = err_from_is_err_and c.from_residual-in_err-records.result c.from_residual-in_err-records.ensures.1 in
    rw (p.1, p.2) (λ serves alone. unread_then first second new c.in_err-records.field-0.0 asked.survives did.survives early (asked.undone early) serves (did.cause clean))

pub returns-in_err-lines-clause-cause : goal.returns-in_err-lines-clause-cause
returns-in_err-lines-clause-cause g c clean =
    let first = state g.S.Store c.args.conn.now in
    let second = state g.S.Store c.ask_acts.new.conn in
    let third = state g.S.Store c.ask.new.conn in
    let new = state g.S.Store c.ask-2.new.conn in
    let acts_asked = c.in_ok-acts.ensures in
    let asked = c.in_ok-records.ensures in
    let did = c.in_err-lines.ensures in
    let late : HasCleanDisk third = omega (arith, did.survives.clean, clean) in
    let early : HasCleanDisk second = omega (arith, asked.survives.clean, late) in
    let so_far = survives_then first second third (λ _. ⊥) (λ _. ⊥) (λ _. ⊥) (λ _ _ none. none) (λ _ _ none. none) acts_asked.survives asked.survives in
    let same = undoes_then first second third (acts_asked.undone early) (asked.undone late) in
    let p = err_from_is_err_and c.from_residual-in_err-lines.result c.from_residual-in_err-lines.ensures.1 in
    rw (p.1, p.2) (λ serves alone. unread_then first third new c.in_err-lines.field-0.0 so_far did.survives late same serves (did.cause clean))
