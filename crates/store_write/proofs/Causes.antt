-- Why the INSERTs of a batch fail.
use Rattle.std.proofs.Common.{◌≡◌, ◌<◌, ◌≤◌, ℕ, suc, true, List, [], ◌++◌, take, length, get_or, map, Option, IsTrue, IsPermutation, inl, inr, sym, subst, ◌∙◌, arith, append-nil}
use Rattle.std.proofs.lemmas.Bool.{both_ways}
use Rattle.std.proofs.lemmas.List.{map-append}
use Rattle.std.proofs.lemmas.List.Sorted.{IsPermutation-trans, IsPermutation-append_left}
use Rattle.sqlite.specs.Order.{Row}
use Rattle.sqlite.specs.Tree.{Trees}
use Rattle.sqlite.specs.declared.error.Error.{Error}
use Rattle.sqlite.specs.{Effect.IsDatabase, State.State, State.HasCleanDisk, State.Survives, Steps.FailsToCommit}
use Rattle.record_history.specs.declared.records.Record.{Record}
use Rattle.voucher_core.specs.declared.line.Line.{Line}
use Rattle.book_rows.specs.declared.rows.ActRow.{ActRow}
use Rattle.store_sql.specs.Tables.{cells, fits, insert_text}
use Rattle.store_sql.specs.Columns.{acts, records, lines}
use Rattle.store_sql.specs.Schema.{HasTables}
use Rattle.store_sql.specs.Trees.{Adds, rows_in}
use Rattle.store_sql.specs.Takes.{IsExcused, IsServing, IsNew, HasNumbers, longest_body}
use Rattle.store_sql.proofs.Meanings.{others_in, as_others, acts_understood, records_understood, lines_understood}
use Rattle.store_sql.proofs.Inserts.{count_is, tree_is, others_are, apart-4-0, apart-4-2}
use Rattle.store_sql.proofs.Refusals.{excused_alone}
use Rattle.store_sql.proofs.Taken.{takes_act, takes_record, takes_line, room_left}
use Rattle.store_write.specs.Effects.{Inserts, Fills, line_part}
use Rattle.store_write.specs.Causes.{IsRejected, TakesMade, TakesLines}

-- ---- one INSERT

module _ (old new : State) where
  pub cause_act : (there : List ActRow) (a : ActRow) (e : Error) → IsServing old → IsDatabase old.now → IsPermutation (map (cells acts) there) (rows_in acts old.now.trees) → IsNew acts there a → fits acts (cells acts a) ≡ true → length a.body ≤ longest_body
      → IsRejected (insert_text acts) (cells acts a) old new e → IsExcused old new e
  cause_act there a e serves live are fresh fit short (inl refused) = takes_act old new there a e serves live are fresh fit short refused
  cause_act there a e serves live are fresh fit short (inr told) = absurd (told.1 (count_is acts 0 (others_in serves.schema) (acts_understood (others_in serves.schema) serves.schema.later) old new a told.0 (as_others serves.schema) told.2))

  pub cause_record : (there : List Record) (r : Record) (e : Error) → IsServing old → IsDatabase old.now → IsPermutation (map (cells records) there) (rows_in records old.now.trees) → IsNew records there r → fits records (cells records r) ≡ true
      → IsRejected (insert_text records) (cells records r) old new e → IsExcused old new e
  cause_record there r e serves live are fresh fit (inl refused) = takes_record old new there r e serves live are fresh fit refused
  cause_record there r e serves live are fresh fit (inr told) = absurd (told.1 (count_is records 1 (others_in serves.schema) (records_understood (others_in serves.schema) serves.schema.later) old new r told.0 (as_others serves.schema) told.2))

  pub cause_line : (there : List Line) (l : Line) (more : ℕ) (e : Error) → IsServing old → IsDatabase old.now → IsPermutation (map (cells lines) there) (rows_in lines old.now.trees) → IsNew lines there l → HasNumbers (old.now.trees 4) (suc more)
      → IsRejected (insert_text lines) (cells lines l) old new e → IsExcused old new e
  cause_line there l more e serves live are fresh room (inl refused) = takes_line old new there l more e serves live are fresh room refused
  cause_line there l more e serves live are fresh room (inr told) = absurd (told.1 (count_is lines 2 (others_in serves.schema) (lines_understood (others_in serves.schema) serves.schema.later) old new l told.0 (as_others serves.schema) told.2))

  -- the rowids that are left for lines
  pub numbers_act : (a : ActRow) (more : ℕ) → HasTables old.now.schema → Inserts (insert_text acts) (cells acts a) old new → HasNumbers (old.now.trees 4) more → HasNumbers (new.now.trees 4) more
  numbers_act a more has h = subst (λ rows. HasNumbers rows more) (sym ((others_are acts 0 (others_in has) (acts_understood (others_in has) has.later) old new a 1 (as_others has) h.ran).1.1.0 apart-4-0))

  pub numbers_record : (r : Record) (more : ℕ) → HasTables old.now.schema → Inserts (insert_text records) (cells records r) old new → HasNumbers (old.now.trees 4) more → HasNumbers (new.now.trees 4) more
  numbers_record r more has h = subst (λ rows. HasNumbers rows more) (sym ((others_are records 1 (others_in has) (records_understood (others_in has) has.later) old new r 1 (as_others has) h.ran).1.1.0 apart-4-2))

  pub numbers_line : (l : Line) (more : ℕ) → HasTables old.now.schema → Inserts (insert_text lines) (cells lines l) old new → HasNumbers (old.now.trees 4) (suc more) → HasNumbers (new.now.trees 4) more
  numbers_line l more has h room = room_left old.now.trees l more room new.now.trees (tree_is lines 2 (others_in has) (lines_understood (others_in has) has.later) old new l 1 (as_others has) h.ran)

-- ---- one after another

pub excused_on : (a b c : State) (e : Error) → b.faults ≤ c.faults → IsExcused a b e → IsExcused a c e
excused_on a b c e later (inl memory) = inl memory
excused_on a b c e later (inr fault) = inr (omega (arith, fault, later))

pub excused_from : (a b c : State) (e : Error) → a.faults ≤ b.faults → IsExcused b c e → IsExcused a c e
excused_from a b c e sooner (inl memory) = inl memory
excused_from a b c e sooner (inr fault) = inr (omega (arith, fault, sooner))

-- what stops a statement on an open file stopped those before it too
pub excused_then : (a b c : State) (P Q : Trees → Type 0) (e : Error) → Survives a b P → Survives b c Q → HasCleanDisk b → IsTrue a.is_open → (IsTrue b.is_open → IsExcused b c e) → IsExcused a c e
excused_then a b c P Q e first second clean is_open why = elim (first.closes clean is_open) [
  | inl still ↦ elim (why still) [ inl memory ↦ inl memory | inr fault ↦ inr (omega (arith, first.counts, fault)) ]
  | inr fault ↦ inr (omega (arith, fault, second.counts))
]

-- a file that was served is served after some rows more
pub serves_then : (a b : State) (P : Trees → Type 0) (acts records lines : List Row) → IsServing a → Survives a b P → Fills acts records lines a b → IsTrue b.is_open → IsServing b
serves_then a b P acts records lines serves first filled is_open = record { is_open = is_open; unlimited = first.limit ∙ serves.unlimited; schema = subst HasTables (sym filled.schema) serves.schema }

-- with no row more, and with some
pub as_before : (rows old new : List Row) → IsPermutation rows old → IsPermutation (old ++ []) new → IsPermutation rows new
as_before rows old new are same = IsPermutation-trans _ _ _ are (subst (λ l. IsPermutation l new) (append-nil old) same)

pub made_then : (old new : Trees) (act_rows : List Row) (made : Option Record) → Adds act_rows [] [] old new → TakesMade old made → TakesMade new made
made_then old new act_rows made adds takes = record { there = takes.there; there_are = as_before _ _ _ takes.there_are adds.records_are; new = takes.new }

pub lines_then : (old new : Trees) (act_rows record_rows : List Row) (made : List Line) → Adds act_rows record_rows [] old new → TakesLines old made → HasNumbers (new 4) (length made) → TakesLines new made
lines_then old new act_rows record_rows made adds takes numbers = record { there = takes.there; there_are = as_before _ _ _ takes.there_are adds.lines_are; new = takes.new; numbers = numbers }

pub lines_so_far : (there made : List Line) (old new : List Row) → IsPermutation (map (cells lines) there) old → IsPermutation (old ++ line_part made) new → IsPermutation (map (cells lines) (there ++ made)) new
lines_so_far there made old new are more =
    subst (λ l. IsPermutation l new) (sym (map-append (cells lines) there made)) (IsPermutation-trans _ _ _ (IsPermutation-append_left (line_part made) _ _ are) more)

pub not_committed_cause : (mid new : State) (e : Error) → IsTrue mid.in_transaction → FailsToCommit mid new e → IsTrue mid.is_open → IsExcused mid new e
not_committed_cause mid new e inside (inl failed) is_open = excused_alone mid new e is_open failed
not_committed_cause mid new e inside (inr late) is_open = absurd (both_ways _ late.1 inside)

-- the line at a place is new to the table and to those before it
pub line_is_new : (there made : List Line) (i : ℕ) (line : Line) → line ≡ get_or made i line → i < length made → ((at : ℕ) (d : Line) → at < length made → IsNew lines (there ++ take at made) (get_or made at d))
    → IsNew lines (there ++ take i made) line
line_is_new there made i line is within new = subst (IsNew lines (there ++ take i made)) (sym is) (new i line within)
