use Rattle.std.proofs.Common.{ℕ, List, [], not, ap, subst, ◌∙◌, arith}
use Rattle.sqlite.specs.{Held.state, State.IsNotRun}
use Rattle.store_sql.specs.Columns.{acts}
use Rattle.store_sql.proofs.Meanings.{others_in, as_others, acts_understood}
use Rattle.store_sql.proofs.Selects.{shows_rows}
use Rattle.store_read.proofs.Texts.{lacks, acts_only_read}
use Rattle.store_read.proofs.Asked.{not_run, ended_undoes, whenever}
use Rattle.store_read.proofs.Refused.{asks_rows, not_prepared}
use Rattle.store_read.proofs.asking.ask_acts.Goals as goal

pub returns-in-Err-clause-undone : goal.returns-in-Err-clause-undone
returns-in-Err-clause-undone g c clean =
    let old = state g.S.Store c.args.conn.now in
    let new = state g.S.Store c.prepare.new.self in
    ended_undoes old new (c.requires.alone, c.is_autocommit-is_alone.ensures.settled (c.is_autocommit-is_alone.ensures.value ∙ ap not c.requires.alone)) (not_run old new _ [] _ (c.in-Err.ensures.err clean []))

pub returns-in-Err-clause-cause : goal.returns-in-Err-clause-cause
returns-in-Err-clause-cause g c clean serves =
    let old = state g.S.Store c.args.conn.now in
    let new = state g.S.Store c.prepare.new.self in
    not_prepared acts 0 old new c.in-Err.error serves (acts_understood (others_in serves.schema) serves.schema.later) (subst (λ (sql : List ℕ). IsNotRun old new sql [] c.in-Err.error) c.select_text.ensures (c.in-Err.ensures.err clean []))

pub returns-clause-known : goal.returns-clause-known
returns-clause-known g c clean =
    whenever c.ask.result (λ none. lacks c.args.conn.now.schema c.select_text.result.now _ c.select_text.ensures none (c.in_default.ensures.shape (omega (arith, c.ask.ensures.survives.clean, clean))))

pub ask-requires-clause-reads : goal.ask-requires-clause-reads
ask-requires-clause-reads g c = acts_only_read

pub ask-requires-clause-refused : goal.ask-requires-clause-refused
ask-requires-clause-refused g c old new e serves = asks_rows acts 0 (state g.S.Store old) (state g.S.Store new) e serves (acts_understood (others_in serves.schema) serves.schema.later)

pub ask-requires-clause-shows : goal.ask-requires-clause-shows
ask-requires-clause-shows g c old new rows listed has = shows_rows acts 0 (others_in has) (acts_understood (others_in has) has.later) (state g.S.Store old) (state g.S.Store new) rows listed (as_others has)
