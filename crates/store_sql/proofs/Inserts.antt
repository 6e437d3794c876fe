-- What an INSERT of one row does to a file.
use Rattle.std.proofs.Common.{◌≡◌, ◌≢◌, ℕ, ◌/◌, ℤ, List, [], ◌∷◌, ◌++◌, map, length, Bool, true, false, not, ◌&&◌, ◌||◌, Ok, None, Some, Option, unwrap_or, refl, sym, ap, subst, ◌∙◌, arith, Ordering, Less, Equal, Greater, is_eq, is_lt, int_cmp, cond, MatchBool, true≢false, append-nil, IsPermutation}
use Rattle.std.specs.List.{AllByRecursion}
use Rattle.std.specs.Ordering.{match_ordering}
use Rattle.std.proofs.lemmas.List.{map-append}
use Rattle.std.proofs.lemmas.List.Sorted.{IsPermutation-refl, IsPermutation-cons, IsPermutation-to_front, IsPermutation-map}
use Rattle.sqlite_value.specs.Order.{Row, value_cmp}
use Rattle.sqlite.specs.Term.{Term}
use Rattle.sqlite.specs.Tree.{Trees, rowid, put_row}
use Rattle.sqlite.specs.Source.TheVariants.{Values}
use Rattle.sqlite.specs.Command.TheVariants.{Insert}
use Rattle.sqlite.specs.Edit.{edit_of, is_taken, are_fresh, put_all, next_rowid, taken_by, Applies}
use Rattle.sqlite.specs.Rowids.TheVariants.{Chosen, Above}
use Rattle.sqlite.specs.Does.{Tally, Does, OnRows}
use Rattle.sqlite.specs.Rows.{Written, Task, stamped, count_of, Counts, CountsIn, Gives, sequence}
use Rattle.sqlite.specs.Effect.{Database, value_rows}
use Rattle.sqlite_rules.specs.Action.{works, Writes}
use Rattle.sqlite.specs.Listing.{understood}
use Rattle.sqlite.specs.State.{State, mode_of, Executes, Writes as WritesRow}
use Rattle.sqlite.specs.declared.run.Mode.{Mode}
use Rattle.sqlite.proofs.Callers.{statement_of, runs_as, one_step}
use Rattle.record_history.specs.declared.records.Record.{Record}
use Rattle.voucher_core.specs.declared.line.Line.{Line}
use Rattle.book_rows.specs.declared.rows.ActRow.{ActRow}
use Rattle.store_sql.specs.Tables.{Table, cells, insert_text}
use Rattle.store_sql.specs.Columns.{acts, records, lines}
use Rattle.store_sql.specs.Schema.{Others, with_others, HasTables}
use Rattle.store_sql.specs.Trees.{shown, rows_in, Adds}
use Rattle.store_sql.proofs.Parts.{went, same_value}
use Rattle.store_sql.proofs.Meanings.{others_in, as_others, IsUnderstood, acts_understood, records_understood, lines_understood, terms, width, task_of, values_of, stored, row_is}

-- a row with a rowid of its own is one row more
pub put_free : (new : Row) (rows : List Row) → is_taken rows new ≡ false → IsPermutation (rows ++ new ∷ []) (put_row new rows)
put_free new [] free = IsPermutation-refl (new ∷ [])
put_free new (r ∷ rows) free = go (value_cmp (rowid r) (rowid new)) (put_free new rows) free
  where
    go : (o : Ordering) → (is_taken rows new ≡ false → IsPermutation (rows ++ new ∷ []) (put_row new rows)) → is_eq o || is_taken rows new ≡ false → IsPermutation ((r ∷ rows) ++ new ∷ []) (match_ordering o (r ∷ put_row new rows) (new ∷ rows) (new ∷ r ∷ rows))
    go Less more f = IsPermutation-cons r _ _ (more f)
    go Equal more f = absurd (true≢false f)
    go Greater more f = IsPermutation-to_front (r ∷ rows) new

-- the rows were put into the table, and nothing else was done
pub record Puts (task : Task) (db : Trees) (rows : List Row) (tally : Tally) (after : Database) : Type 0 where
  pub schema : after.schema ≡ task.schema
  pub applied : Applies task.schema task.keys db (edit_of db task.table [] Chosen 0 rows) after.trees
  pub told : tally.rows ≡ Some (length (edit_of db task.table [] Chosen 0 rows).news)

counts_none : (task : Task) (db : Trees) (counter : Option Row) (top : ℤ) (next : Trees) → task.table.is_counted ≡ false → Counts task db counter top (Ok next) → next ≡ db
counts_none task db counter top next uncounted h =
    same_value (subst (λ b. MatchBool (cond b (is_lt (int_cmp (count_of counter) top)) false) (CountsIn task db counter top (sequence task.schema) (Ok next)) (Gives db (Ok next))) uncounted h)

pub puts : (task : Task) (mode : Mode) (at : ℕ) (terms : List Term) (width : ℕ) (db : Trees) (tally : Tally) (after : Database) → task.table.is_counted ≡ false
    → ((olds news : List Row) → works task.schema task.keys 0 task.table.tree olds news ≡ []) → OnRows task mode None (Insert at (Values terms width)) db (Ok (tally, after))
    → Puts task db (value_rows (stamped task.table task.params) width (length terms / width) terms) tally after
puts task mode at terms width db tally after uncounted alone h =
    let done = went h in
    let both = same_value (went (went done.2).2).2 in
    let now = ap (λ (p : Tally × Database). p.1) both in
    let given = went done.1 in
    let counting = went given.2 in
    let written = went counting.2 in
    let counted = went written.2 in
    let chosen = ap (λ b. cond b (Above (count_of counting.0)) Chosen) uncounted in
    let wrote = subst (λ ids. Writes task.schema task.keys db (edit_of db task.table [] ids 0 given.0) (Ok written.0)) chosen written.1 in
    let last = counts_none task written.0 counting.0 _ counted.0 uncounted counted.1 in
    let trees : done.0.trees ≡ written.0 = ap (λ (it : Written). it.trees) (same_value counted.2) ∙ last in
    let edit = edit_of db task.table [] Chosen 0 given.0 in
    let step = one_step task.schema task.keys db written.0 edit (alone (taken_by db edit) edit.news) wrote in
    let all = subst (λ rows. Applies task.schema task.keys db (edit_of db task.table [] Chosen 0 rows) written.0) given.1.1 step in
    record {
      schema = ap (λ (d : Database). d.schema) now;
      applied = subst (Applies task.schema task.keys db _) (sym trees ∙ sym (ap (λ (d : Database). d.trees) now)) all;
      told = ap (λ (p : Tally × Database). p.0.rows) both ∙ ap (λ (it : Written). Some (length it.rows)) (same_value counted.2)
          ∙ ap (λ ids. Some (length (edit_of db task.table [] ids 0 given.0).news)) chosen ∙ ap (λ rows. Some (length (edit_of db task.table [] Chosen 0 rows).news)) given.1.1;
    }

unless_taken : (b : Bool) → not b && true ≡ true → b ≡ false
unless_taken true h = absurd (true≢false (sym h))
unless_taken false h = refl

-- a table that is as it was holds no row more
same_rows : (xs ys : List Row) → ys ≡ xs → IsPermutation (xs ++ []) ys
same_rows xs ys same = rw (append-nil, same) (IsPermutation-refl xs)

pub apart-0-2 : ◌≡◌ {A = ℕ} 0 2 → ⊥
apart-0-2 e = omega (arith, e)

pub apart-0-4 : ◌≡◌ {A = ℕ} 0 4 → ⊥
apart-0-4 e = omega (arith, e)

pub apart-2-0 : ◌≡◌ {A = ℕ} 2 0 → ⊥
apart-2-0 e = omega (arith, e)

pub apart-2-4 : ◌≡◌ {A = ℕ} 2 4 → ⊥
apart-2-4 e = omega (arith, e)

pub apart-4-0 : ◌≡◌ {A = ℕ} 4 0 → ⊥
apart-4-0 e = omega (arith, e)

pub apart-4-2 : ◌≡◌ {A = ℕ} 4 2 → ⊥
apart-4-2 e = omega (arith, e)

-- ---- a row of the book

module _ {A : Type 0} (t : Table A) (at : ℕ) (beside : Others) (knows : IsUnderstood t at beside) (old new : State) (a : A) (count : ℕ) (has : old.now.schema ≡ with_others beside)
    (ran : Executes (insert_text t) (cells t a) old new (Ok count)) where
  abbrev before : Trees
  before = old.now.trees

  wrote : WritesRow old new None (Insert at (Values (terms t) (width t))) (statement_of (insert_text t) (understood (with_others beside) (insert_text t))) (cells t a) count
  wrote = runs_as (insert_text t) (cells t a) old new (with_others beside) has (Insert at (Values (terms t) (width t))) knows.insert_is knows.insert_plain count ran

  put : Puts (task_of t beside old a) before (values_of t a) wrote.tally new.now
  put =
      let command = Insert at (Values (terms t) (width t)) in
      let text = statement_of (insert_text t) (understood (with_others beside) (insert_text t)) in
      let done = subst (λ s. Does old.step_limit (mode_of old) (cells t a) (record old.now { schema = s }) text None command (Ok (wrote.tally, new.now))) has wrote.changed in
      puts (task_of t beside old a) (mode_of old) at (terms t) (width t) before wrote.tally new.now refl knows.alone (knows.on_rows old a text _ done)

  -- it tells of one row
  pub count_is : count ≡ 1
  count_is = wrote.counted ∙ ap (λ told. unwrap_or told 0) (put.told ∙ ap (λ rows. Some (length rows)) (row_is t at beside knows before a))

  free : is_taken (before t.tree) (stored t before a) ≡ false
  free = unless_taken _ (subst (λ rows. are_fresh (before t.tree) rows ≡ true) (row_is t at beside knows before a) (put.applied.fresh))

  pub tree_is : new.now.trees t.tree ≡ put_row (stored t before a) (before t.tree)
  tree_is = put.applied.rows ∙ ap (put_all (before t.tree)) (row_is t at beside knows before a)

  pub others_are : AllByRecursion (λ s. s.tree ≢ t.tree → new.now.trees s.tree ≡ before s.tree) (with_others beside).tables
  others_are = put.applied.tables

  -- the table shows one row more
  pub row_more : IsPermutation (rows_in t before ++ cells t a ∷ []) (rows_in t new.now.trees)
  row_more =
      let one = subst (IsPermutation (before t.tree ++ stored t before a ∷ [])) (sym tree_is) (put_free (stored t before a) (before t.tree) free) in
      subst (λ l. IsPermutation l (rows_in t new.now.trees))
      (map-append (shown t) (before t.tree) (stored t before a ∷ []) ∙ ap (λ row. rows_in t before ++ row ∷ []) (knows.shown_is (next_rowid (before t.tree)) a))
      (IsPermutation-map (shown t) _ _ one)

pub puts_act : (old new : State) (a : ActRow) (count : ℕ) → HasTables old.now.schema → Executes (insert_text acts) (cells acts a) old new (Ok count) → Adds (cells acts a ∷ []) [] [] old.now.trees new.now.trees
puts_act old new a count has ran =
    let others = others_are acts 0 (others_in has) (acts_understood (others_in has) has.later) old new a count (as_others has) ran in
    record {
      acts_are = row_more acts 0 (others_in has) (acts_understood (others_in has) has.later) old new a count (as_others has) ran;
      records_are = same_rows _ _ (ap (map (shown records)) (others.1.0 apart-2-0));
      lines_are = same_rows _ _ (ap (map (shown lines)) (others.1.1.0 apart-4-0));
    }

pub puts_record : (old new : State) (r : Record) (count : ℕ) → HasTables old.now.schema → Executes (insert_text records) (cells records r) old new (Ok count) → Adds [] (cells records r ∷ []) [] old.now.trees new.now.trees
puts_record old new r count has ran =
    let others = others_are records 1 (others_in has) (records_understood (others_in has) has.later) old new r count (as_others has) ran in
    record {
      acts_are = same_rows _ _ (ap (map (shown acts)) (others.0 apart-0-2));
      records_are = row_more records 1 (others_in has) (records_understood (others_in has) has.later) old new r count (as_others has) ran;
      lines_are = same_rows _ _ (ap (map (shown lines)) (others.1.1.0 apart-4-2));
    }

pub puts_line : (old new : State) (l : Line) (count : ℕ) → HasTables old.now.schema → Executes (insert_text lines) (cells lines l) old new (Ok count) → Adds [] [] (cells lines l ∷ []) old.now.trees new.now.trees
puts_line old new l count has ran =
    let others = others_are lines 2 (others_in has) (lines_understood (others_in has) has.later) old new l count (as_others has) ran in
    record {
      acts_are = same_rows _ _ (ap (map (shown acts)) (others.0 apart-0-4));
      records_are = same_rows _ _ (ap (map (shown records)) (others.1.0 apart-2-4));
      lines_are = row_more lines 2 (others_in has) (lines_understood (others_in has) has.later) old new l count (as_others has) ran;
    }
