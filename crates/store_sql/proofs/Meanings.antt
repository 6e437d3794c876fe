-- What each text means under the schema that it runs on.
use Rattle.std.proofs.Common.{◌≡◌, ◌⊎◌, ◌<◌, ◌&&◌, ◌==◌, ℕ, suc, arith, ◌+◌, ◌/◌, ℤ, pos, negsuc, List, [], ◌∷◌, ◌++◌, map, drop, length, slice_index_or, true, false, true≢false, inl, inr, sym, Option, None, Some, Ok, Err, Result, refl, ap, ap₂, ◌∙◌}
use Rattle.sqlite_value.specs.Keys.{ascending}
use Rattle.sqlite.specs.declared.types.Value.TheVariants.{Null, Int}
use Rattle.sqlite.specs.Collation.TheVariants.{Binary}
use Rattle.sqlite.specs.Order.{Row, column}
use Rattle.sqlite.specs.Term.{Term, lit, col}
use Rattle.sqlite_sql.specs.Term.{Env}
use Rattle.std.specs.Prelude.{nat_lt}
use Rattle.std.specs.List.{flat_map, filter_map, Any}
use Rattle.std.proofs.lemmas.Bool.{and_parts, eqb-true, ltb-true}
use Rattle.std.proofs.lemmas.List.{take-append-drop}
use Rattle.sqlite_rules.proofs.ListLemmas.{any_has}
use Rattle.sqlite.specs.Program.{overlay}
use Rattle.sqlite_sql.specs.Query.{matches}
use Rattle.sqlite.specs.Query.{Query, Output, output, output_cmp, inner, end}
use Rattle.sqlite.specs.Table.{Table as SqlTable}
use Rattle.sqlite.specs.Tree.{Trees}
use Rattle.sqlite.specs.Edit.{edit_of, next_rowid, with_rowid}
use Rattle.sqlite.specs.Rowids.TheVariants.{Chosen}
use Rattle.sqlite.specs.Cast.{cast, cast_all}
use Rattle.sqlite.specs.Kind.TheVariants.{Integer}
use Rattle.sqlite.specs.Does.{Tally, Does, OnRows}
use Rattle.sqlite.specs.Rows.{Task, stamped}
use Rattle.sqlite.specs.Effect.{Database, RefusesQuery, value_rows}
use Rattle.sqlite.specs.State.{State, mode_of}
use Rattle.sqlite.specs.declared.error.Error.{Error}
use Rattle.sqlite_rules.specs.Action.{works, work_for}
use Rattle.sqlite_schema.specs.declared.schema.Keys.TheVariants.{Enforced}
use Rattle.sqlite.specs.Schema.{Schema}
use Rattle.sqlite.specs.Source.TheVariants.{Values}
use Rattle.sqlite.specs.Command.TheVariants.{Insert, Select, CreateTable}
use Rattle.sqlite.specs.Compile.{table_defined_by}
use Rattle.sqlite.specs.Listing.{understood, reads_listing, listing_schema}
use Rattle.sqlite.proofs.Callers.{IsPlain, command_of, statement_of}
use Rattle.sqlite_resolve.specs.declared.compiled.Compiled.{Compiled}
use Rattle.sqlite_resolve.specs.declared.error.CompileError.{CompileError}
use Rattle.sqlite_resolve.specs.declared.error.CompileError.TheVariants.{NoSuchTable}
use Rattle.sqlite_tied.specs.Compute.{everything}
use Rattle.store_sql.specs.Cells.{number_cell}
use Rattle.store_sql.specs.Tables.{Table, Column, all_columns, cells, cells_of, names, order, key_schema, schema_column, schema_table, create_text, insert_text, select_text}
use Rattle.store_sql.specs.Columns.{acts, records, lines}
use Rattle.store_sql.specs.Schema.{no_schema, acts_schema, records_schema, book_schema, Others, others_of, with_others, are_later, HasTables}
use Rattle.store_sql.specs.Trees.{places, shown, by_key}
use Rattle.store_sql.proofs.Parts.{cast_null, cast_int, cast_cells}

-- ---- the making of a table

abbrev pub tail_of : Result Compiled CompileError → ℕ
tail_of (Ok c) = c.tail
tail_of (Err e) = 0

abbrev pub parameters_of : Result Compiled CompileError → ℕ
parameters_of (Ok c) = length c.names
parameters_of (Err e) = 0

-- The text is one statement, with as many parameters. Of a text and a schema that are written out, `refl` finds both.
abbrev pub IsWhole : Schema → List ℕ → ℕ → Type 0
IsWhole schema sql count = (tail_of (understood schema sql) ≡ length sql) × (parameters_of (understood schema sql) ≡ count)

-- under the schema the text makes the table
pub record IsMade {A : Type 0} (t : Table A) (schema : Schema) : Type 0 where
  pub is : command_of (understood schema (create_text t)) ≡ CreateTable
  pub text : statement_of (create_text t) (understood schema (create_text t)) ≡ create_text t
  pub defined : table_defined_by (create_text t) ≡ Ok (schema_table t)
  pub plain : IsPlain (understood schema (create_text t))
  pub whole : IsWhole schema (create_text t) 0

pub acts_made : IsMade acts no_schema
unfolding understood everything
acts_made = record { is = refl; text = refl; defined = refl; plain = (refl, refl); whole = (refl, refl) }

pub records_made : IsMade records acts_schema
unfolding understood everything
records_made = record { is = refl; text = refl; defined = refl; plain = (refl, refl); whole = (refl, refl) }

pub lines_made : IsMade lines records_schema
unfolding understood everything
lines_made = record { is = refl; text = refl; defined = refl; plain = (refl, refl); whole = (refl, refl) }

-- ---- a row is put in, and the rows are asked for

abbrev pub param_terms : {X : Type 0} → ℕ → List X → List Term
param_terms at [] = []
param_terms at (x ∷ xs) = col 0 at ∷ param_terms (at + 1) xs

-- the rowid, which is the key or NULL; NULL in the key's own column; and a parameter for each other column
abbrev pub terms_of : {A : Type 0} → Option (List ℕ × (A → ℕ)) → List (Column A) → List Term
terms_of None columns = lit Null ∷ param_terms 0 columns
terms_of (Some key) columns = col 0 0 ∷ lit Null ∷ param_terms 1 columns

abbrev pub terms : {A : Type 0} → Table A → List Term
terms t = terms_of t.key t.columns

abbrev pub width : {A : Type 0} → Table A → ℕ
width t = length (terms t)

abbrev pub query : {A : Type 0} → Table A → Query
query t = record {
  from = inner t.tree end;
  filter = [];
  group = None;
  project = map (col 1) (places t);
  distinct = false;
  collations = [];
  order = map (λ place. (col 1 (slice_index_or (places t) place 0), ascending Binary)) (order t);
  limit = lit (Int (negsuc 0));
  offset = lit (Int (pos 0));
}

-- the table as the schema has it
abbrev pub table_at : {A : Type 0} → Table A → SqlTable
table_at t = record (schema_table t) { tree = t.tree }

abbrev pub task_of : {A : Type 0} → Table A → Others → State → A → Task
task_of t others old a = record { limit = old.step_limit; keys = Enforced; schema = with_others others; table = table_at t; params = cells t a }

-- the values of the terms
abbrev pub values_of : {A : Type 0} → Table A → A → List Row
values_of t a = value_rows (stamped (table_at t) (cells t a)) (width t) (length (terms t) / width t) (terms t)

abbrev given : {A : Type 0} → Option (List ℕ × (A → ℕ)) → List (Column A) → A → Row
given None columns a = Null ∷ cells_of columns a
given (Some key) columns a = number_cell (key.1 a) ∷ Null ∷ cells_of columns a

-- the row that is put in: its rowid is the key, or the next one
abbrev pub stored_as : {A : Type 0} → Option (List ℕ × (A → ℕ)) → List (Column A) → ℤ → A → Row
stored_as None columns next a = Int next ∷ cells_of columns a
stored_as (Some key) columns next a = number_cell (key.1 a) ∷ Null ∷ cells_of columns a

abbrev pub stored : {A : Type 0} → Table A → Trees → A → Row
stored t db a = stored_as t.key t.columns (next_rowid (db t.tree)) a

-- the one row that each step of the query looks at
abbrev pub env : Row → Env
env r = [] ∷ r ∷ []

abbrev pub stages : List Row → List Env
stages = flat_map (λ r. env r ∷ [])

-- what the query makes of a row that the table shows: the cells by which it is listed, and all of them
abbrev pub listed_row : {A : Type 0} → Table A → Row → Output
listed_row t row = (map (column row) (order t), row)

none_over : (rows : List Row) → Any (λ (r : Row). ⊥) rows → ⊥
none_over rows any = (any_has (λ _. ⊥) rows any).2

-- what a query of whole rows is refused for if no limit is set
unlimited : {P Q R : Type 0} (rows : List Row) → (P × (true ≡ false)) ⊎ ((Q × (⊥ ⊎ Any (λ (r : Row). ⊥) rows)) ⊎ (R × (false ≡ true))) → ⊥
unlimited rows (inl h) = true≢false h.1
unlimited rows (inr (inl (is, inl none))) = none
unlimited rows (inr (inl (is, inr any))) = none_over rows any
unlimited rows (inr (inr h)) = true≢false (sym h.1)

-- ---- the tables that stand behind the three

abbrev pub others_in : {schema : Schema} → HasTables schema → Others
others_in {schema} has = others_of schema

pub as_others : {schema : Schema} (has : HasTables schema) → schema ≡ with_others (others_in has)
as_others {schema} has =
    let tables_are : schema.tables ≡ book_schema.tables ++ drop 3 schema.tables = sym (take-append-drop 3 schema.tables) ∙ ap (λ first. first ++ drop 3 schema.tables) has.tables in
    let indexes_are : schema.indexes ≡ book_schema.indexes ++ drop 3 schema.indexes = sym (take-append-drop 3 schema.indexes) ∙ ap (λ first. first ++ drop 3 schema.indexes) has.indexes in
    λ i. record { tables = tables_are i; indexes = indexes_are i; views = schema.views }

none_of : {X : Type 0} (xs : List X) → (length xs == 0) ≡ true → xs ≡ []
none_of [] h = refl
none_of (x ∷ xs) h = let e : suc (length xs) ≡ 0 = eqb-true (suc (length xs)) 0 h in let never : ⊥ = omega (arith, e) in absurd never

-- what a later table is
pub record IsLater (tree : ℕ) (t : SqlTable) (ts : List SqlTable) : Type 0 where
  pub later : tree < t.tree
  pub refers : t.references ≡ []
  pub rest : are_later t.tree ts ≡ true

pub is_later : (tree : ℕ) (t : SqlTable) (ts : List SqlTable) → are_later tree (t ∷ ts) ≡ true → IsLater tree t ts
is_later tree t ts h =
    let one = and_parts (nat_lt tree t.tree) ((length t.references == 0) && are_later t.tree ts) h in
    let two = and_parts (length t.references == 0) (are_later t.tree ts) one.1 in
    record { later = ltb-true _ _ one.0; refers = none_of t.references two.0; rest = two.1 }

-- no foreign key of theirs acts
no_works : (schema : Schema) (own : ℕ) (olds news : List Row) (tree : ℕ) (ts : List SqlTable) → are_later tree ts ≡ true
    → flat_map (λ child. filter_map (work_for schema Enforced 0 own olds news child) child.references) ts ≡ []
no_works schema own olds news tree [] h = refl
no_works schema own olds news tree (t ∷ ts) h =
    let it = is_later tree t ts h in
    ap (λ refs. filter_map (work_for schema Enforced 0 own olds news t) refs ++ flat_map (λ child. filter_map (work_for schema Enforced 0 own olds news child) child.references) ts) it.refers
    ∙ no_works schema own olds news t.tree ts it.rest

-- The texts on the table that is the schema's at this place, whatever others stand behind the three. Of a table that is
-- written out, `refl` finds most of these.
pub record IsUnderstood {A : Type 0} (t : Table A) (at : ℕ) (others : Others) : Type 1 where
  pub on_rows : (old : State) (a : A) (text : List ℕ) (out : Result (Tally × Database) (Option Error))
      → Does old.step_limit (mode_of old) (cells t a) (record old.now { schema = with_others others }) text None (Insert at (Values (terms t) (width t))) out
      → OnRows (task_of t others old a) (mode_of old) None (Insert at (Values (terms t) (width t))) old.now.trees out
  pub alone : (olds news : List Row) → works (with_others others) Enforced 0 t.tree olds news ≡ []
  pub given_is : (a : A) → values_of t a ≡ given t.key t.columns a ∷ []
  pub shown_is : (next : ℤ) (a : A) → shown t (stored_as t.key t.columns next a) ≡ cells t a
  pub staged : (trees : Trees) → matches (overlay trees []) [] (inner t.tree end) ([] ∷ []) ≡ stages (trees t.tree)
  pub listed_is : (row : Row) → output (query t) (env row) ≡ listed_row t (shown t row)
  pub order_is : (x y : Row) → output_cmp (query t) (listed_row t x) (listed_row t y) ≡ by_key t x y
  pub insert_is : command_of (understood (with_others others) (insert_text t)) ≡ Insert at (Values (terms t) (width t))
  pub insert_plain : IsPlain (understood (with_others others) (insert_text t))
  pub insert_whole : IsWhole (with_others others) (insert_text t) (length (all_columns t))
  pub select_is : command_of (understood (with_others others) (select_text t)) ≡ Select (record { lets = []; body = query t }) (names t)
  pub select_plain : IsPlain (understood (with_others others) (select_text t))
  pub select_whole : IsWhole (with_others others) (select_text t) 0
  pub select_rows : reads_listing (with_others others) (select_text t) ≡ false
  pub select_never : (trees : Trees) (e : Error) → RefusesQuery None (record { schema = with_others others; trees = trees }) (record { lets = []; body = query t }) [] e → ⊥

pub acts_understood : (others : Others) → are_later 5 others.tables ≡ true → IsUnderstood acts 0 others
unfolding understood everything
acts_understood others later = record { on_rows = λ _ _ _ _ h. h; alone = λ olds news. no_works (with_others others) 0 olds news 5 others.tables later; given_is = λ _. refl; shown_is = λ _ _. refl; staged = λ _. refl; listed_is = λ _. refl; order_is = λ _ _. refl; insert_is = refl; insert_plain = (refl, refl); insert_whole = (refl, refl); select_is = refl; select_plain = (refl, refl); select_whole = (refl, refl); select_rows = refl; select_never = λ trees _ h. unlimited (trees 0) h }

pub records_understood : (others : Others) → are_later 5 others.tables ≡ true → IsUnderstood records 1 others
unfolding understood everything
records_understood others later = record { on_rows = λ _ _ _ _ h. h; alone = λ olds news. no_works (with_others others) 2 olds news 5 others.tables later; given_is = λ _. refl; shown_is = λ _ _. refl; staged = λ _. refl; listed_is = λ _. refl; order_is = λ _ _. refl; insert_is = refl; insert_plain = (refl, refl); insert_whole = (refl, refl); select_is = refl; select_plain = (refl, refl); select_whole = (refl, refl); select_rows = refl; select_never = λ trees _ h. unlimited (trees 2) h }

pub lines_understood : (others : Others) → are_later 5 others.tables ≡ true → IsUnderstood lines 2 others
unfolding understood everything
lines_understood others later = record { on_rows = λ _ _ _ _ h. h; alone = λ olds news. no_works (with_others others) 4 olds news 5 others.tables later; given_is = λ _. refl; shown_is = λ _ _. refl; staged = λ _. refl; listed_is = λ _. refl; order_is = λ _ _. refl; insert_is = refl; insert_plain = (refl, refl); insert_whole = (refl, refl); select_is = refl; select_plain = (refl, refl); select_whole = (refl, refl); select_rows = refl; select_never = λ trees _ h. unlimited (trees 4) h }

-- the terms give the row that is put in, but for its rowid
cast_given : {A : Type 0} (key : Option (List ℕ × (A → ℕ))) (columns : List (Column A)) (a : A)
    → cast Integer (column (given key columns a) 0) ∷ cast_all (key_schema key ++ map schema_column columns) (drop 1 (given key columns a)) ≡ given key columns a
cast_given None columns a = ap₂ (λ v row. v ∷ row) cast_null (cast_cells columns a)
cast_given (Some key) columns a = ap₂ (λ v row. v ∷ row) (cast_int _) (ap₂ (λ v row. v ∷ row) cast_null (cast_cells columns a))

numbered_given : {A : Type 0} (key : Option (List ℕ × (A → ℕ))) (columns : List (Column A)) (a : A) (rows : List Row)
    → with_rowid Chosen rows (given key columns a) ≡ stored_as key columns (next_rowid rows) a
numbered_given None columns a rows = refl
numbered_given (Some key) columns a rows = refl

-- the one row that an INSERT puts in
pub row_is : {A : Type 0} (t : Table A) (at : ℕ) (others : Others) → IsUnderstood t at others → (db : Trees) (a : A) → (edit_of db (table_at t) [] Chosen 0 (values_of t a)).news ≡ stored t db a ∷ []
row_is t at others knows db a =
    ap (λ rows. (edit_of db (table_at t) [] Chosen 0 rows).news) (knows.given_is a)
    ∙ ap (λ row. with_rowid Chosen (db t.tree) row ∷ []) (cast_given t.key t.columns a)
    ∙ ap (λ row. row ∷ []) (numbered_given t.key t.columns a (db t.tree))

-- On an empty file a row can't be put in, nor can one be asked for.
pub insert_act_lacks : understood no_schema (insert_text acts) ≡ Err NoSuchTable
unfolding understood everything listing_schema
insert_act_lacks = refl

pub select_acts_lacks : understood no_schema (select_text acts) ≡ Err NoSuchTable
unfolding understood everything listing_schema
select_acts_lacks = refl
