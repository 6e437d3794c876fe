-- A table of a book's file takes a row of the book that is new to it.
use Rattle.std.proofs.Common.{◌≡◌, ◌≢◌, ◌⊎◌, ◌≤◌, ◌<◌, ◌^◌, ◌+◌, ℕ, suc, ℤ, ◌+ℤ◌, pos, fold, true, false, Bool, ◌&&◌, List, [], ◌∷◌, ◌++◌, length, length-append, lt-ltb, map, None, Some, Err, IsPermutation, All, inl, inr, refl, sym, ap, subst, subst₂, ◌∙◌, arith, slice_index_or, Option, true≢false, is_eq, int_cmp, Ordering, Less, Equal, Greater}
use Rattle.std.specs.List.{AllByRecursion, list_any, list_all, sum_by}
use Rattle.std.specs.Prelude.{⊤, nat_lt, not, ◌||◌, ◌==◌}
use Rattle.std.specs.Ordering.{is_ne}
use Rattle.std.specs.Float.{NotNan}
use Rattle.std.proofs.lemmas.Bool.{false_from_ne_true, not_from_false, and_parts, ne_eqb, eq-eqb, eqb-true, ltb-true}
use Rattle.std.proofs.lemmas.List.Elements.{All-map, All-contains, All-from_recursion}
use Rattle.std.proofs.lemmas.List.Sorted.{All-permutation}
use Rattle.std.proofs.lemmas.Map.Lookups.{exact_signed}
use Rattle.std.proofs.lemmas.Cmp.{tied_itself}
use Rattle.std.proofs.lemmas.Nat.Bits.{bit_at-zero}
use Rattle.sqlite.specs.declared.types.Value.TheVariants.{Int}
use Rattle.sqlite.specs.Order.{Row, column, value_cmp, number, bytes}
use Rattle.sqlite.specs.Collation.TheVariants.{Binary}
use Rattle.sqlite.specs.Tree.{Trees, rowid, put_row, with_tree, IsAscending}
use Rattle.sqlite.specs.View.{is_int, IsStorable, IsStorableRow}
use Rattle.sqlite.specs.Ops.{binary, fits_i64, is_true, from_truth}
use Rattle.sqlite.specs.Edit.{Edit, id_in, next_rowid, is_taken, are_fresh, IsRefused, IsOversized}
use Rattle.sqlite_value.specs.Keys.{plain, first_key, later}
use Rattle.sqlite_value.proofs.OrderLemmas.{value_cmp-Int, value_cmp_total}
use Rattle.sqlite_schema.specs.Rules.{agree, clashes, differ, equal, guards, is_among, has_parent, Refers, Keeps, table_reals, index_reals}
use Rattle.sqlite_rules.specs.Lists.{Has}
use Rattle.sqlite_rules.proofs.ListLemmas.{some_has, contains_had, all_from, test_has, test_from}
use Rattle.sqlite_rules.specs.declared.error.Refusal.{Refusal}
use Rattle.sqlite_rules.specs.declared.error.Refusal.TheVariants.{Violates, Mismatch, NoRowid, BadReference, TooDeep}
use Rattle.sqlite_rules.proofs.TableLemmas.{put_has, put_all_has, put_all_keeps, put_all_adds}
use Rattle.sqlite_rules.proofs.ProbeLemmas.{mapped_has}
use Rattle.sqlite_rules.proofs.RuleLemmas.{Turns, unique_kept}
use Rattle.sqlite_schema.specs.declared.schema.Among.{Among}
use Rattle.sqlite_schema.specs.declared.schema.Keys.TheVariants.{Enforced}
use Rattle.sqlite_schema.specs.declared.schema.Constraint.TheVariants.{Datatype, NotNull, Check, PrimaryKey, Unique, ForeignKey}
use Rattle.sqlite_schema.specs.declared.schema.Index.{Index}
use Rattle.sqlite_sql.specs.Catalog.{entry_of}
use Rattle.sqlite.specs.Table.{Table as SqlTable}
use Rattle.sqlite.specs.Source.TheVariants.{Values}
use Rattle.sqlite.specs.Command.TheVariants.{Insert, Begin, Commit, Rollback, Release, RollbackTo}
use Rattle.sqlite.specs.Source.{Source}
use Rattle.sqlite.specs.Does.{Does}
use Rattle.sqlite.specs.Effect.{IsDatabase}
use Rattle.sqlite.specs.Listing.{understood}
use Rattle.sqlite.specs.State.{State, ExecutesInside, IsMisplaced, Escapes, mode_of}
use Rattle.sqlite.specs.declared.error.Error.{Error}
use Rattle.sqlite.proofs.Callers.{statement_of}
use Rattle.store_sql.proofs.Refusals.{row_refused, fails_for}
use Rattle.store_sql.proofs.Parts.{less}
use Rattle.sqlite_rules.specs.Keys.{are_unique}
use Rattle.std.proofs.lemmas.List.{length-map}
use Rattle.record_history.specs.declared.records.Record.{Record}
use Rattle.voucher_core.specs.declared.line.Line.{Line}
use Rattle.book_rows.specs.declared.rows.ActRow.{ActRow}
use Rattle.std.proofs.lemmas.Int.{ints}
use Rattle.store_sql.specs.Cells.{is_number, number_cell}
use Rattle.store_sql.specs.Tables.{Table, Column, cells, fits, stored_unique, insert_text, order}
use Rattle.store_sql.specs.Columns.{acts, records, lines}
use Rattle.sqlite.specs.Schema.{Schema}
use Rattle.store_sql.specs.Schema.{Others, with_others, are_later, are_on_later}
use Rattle.store_sql.specs.Trees.{shown, rows_in}
use Rattle.store_sql.specs.Takes.{IsExcused, IsServing, AreSameAt, IsNew, AreNumbered, HasNumbers, longest_body}
use Rattle.store_sql.proofs.Meanings.{IsUnderstood, acts_understood, records_understood, lines_understood, is_later, others_in, as_others, IsWhole, terms, width, table_at, task_of, stored_as, stored, row_is}
use Rattle.store_sql.proofs.Storable.{whole_number, are_typed_stored, are_present_stored, are_accepted, stored_numbers, stored_size, stored_length, size}
use Rattle.store_sql.proofs.Inserts.{apart-0-2, apart-0-4, apart-2-4}

-- ---- numbers as values

equal_cmp : (x y : ℤ) → is_eq (value_cmp (Int x) (Int y)) ≡ true → x ≡ y
equal_cmp x y h = exact_signed x y (tied (int_cmp x y) (sym (ap is_eq (value_cmp-Int x y)) ∙ h))
  where
    tied : (o : Ordering) → is_eq o ≡ true → o ≡ Equal
    tied Less h = absurd (true≢false (sym h))
    tied Equal h = refl
    tied Greater h = absurd (true≢false (sym h))

true_of : (b : Bool) → is_true (from_truth (Some b)) ≡ true → b ≡ true
true_of true h = refl
true_of false h = absurd (true≢false (sym h))

equal_ints : (x y : ℤ) → equal Binary (Int x) (Int y) ≡ true → x ≡ y
unfolding binary
equal_ints x y h = equal_cmp x y (true_of _ h)

two_keys : (a b c d : ℤ) → equal (first_key plain).collation (Int a) (Int b) && (equal (first_key (later plain)).collation (Int c) (Int d) && true) ≡ true → (a ≡ b) × (c ≡ d)
unfolding first_key
two_keys a b c d h =
    let parts = and_parts (equal (first_key plain).collation (Int a) (Int b)) (equal (first_key (later plain)).collation (Int c) (Int d) && true) h in
    (equal_ints a b parts.0, equal_ints c d (and_parts (equal (first_key (later plain)).collation (Int c) (Int d)) true parts.1).0)

differ_itself : (x : ℤ) → differ (Int x) (Int x) ≡ true → ⊥
unfolding binary
differ_itself x h = let e = true_of (is_ne (value_cmp (Int x) (Int x))) h in true≢false (sym e ∙ ap is_ne (tied_itself value_cmp_total (Int x)))

-- a table or an index without a column of the type REAL takes a row that is short enough
storable : (entry : Row) → 0 < length entry → length entry ≤ 2001 → AllByRecursion (λ v. NotNan (number v)) entry → sum_by (λ v. 18 + length (bytes v)) entry ≤ 10 ^ 9 → IsStorable 0 entry
storable entry some few numbers short = record {
  typed = λ c bit. absurd (omega (arith, sym (bit_at-zero c) ∙ bit));
  columns = (some, few);
  numbers = All-from_recursion _ entry numbers;
  short = short;
}

-- ---- an INSERT stands in its place

placed : (s : State) (at : ℕ) (from : Source) (e : Error) → IsMisplaced s (Insert at from) e → ⊥
placed s at from e (inl (is, inl (it, h))) = let never : Insert at from ≡ Begin = it in cc
placed s at from e (inl (is, inr (inl it, h))) = let never : Insert at from ≡ Commit = it in cc
placed s at from e (inl (is, inr (inr it, h))) = let never : Insert at from ≡ Rollback = it in cc
placed s at from e (inr (is, name, inl it, h)) = let never : Insert at from ≡ Release name = it in cc
placed s at from e (inr (is, name, inr it, h)) = let never : Insert at from ≡ RollbackTo name = it in cc

stays : (s : State) (at : ℕ) (from : Source) → Escapes 0 s (Insert at from) → ⊥
stays s at from (inl (inl it)) = let never : Insert at from ≡ Commit = it in cc
stays s at from (inl (inr it)) = let never : Insert at from ≡ Rollback = it in cc
stays s at from (inr (name, inl it, h)) = let never : Insert at from ≡ Release name = it in cc
stays s at from (inr (name, inr it, h)) = let never : Insert at from ≡ RollbackTo name = it in cc

-- ---- rows that are new to a table

-- a row of the table is one of these
each_of : {X : Type 0} (stored : X → Row) (Q : X → Type 0) (xs : List X) (rows : List Row) → IsPermutation (map stored xs) rows → All Q xs → (row : Row) → Has rows row → (x : X) × (row ≡ stored x) × Q x
each_of stored Q xs rows are all row there =
    let Fits = λ (r : Row). (x : _) × (r ≡ stored x) × Q x in
    All-contains Fits rows row (All-permutation Fits (map stored xs) rows are (All-map Fits stored xs (λ i d low. (_, refl, all i d low)))) (contains_had rows row there)

-- no other row has the rowid
free_of : (rows : List Row) (new : Row) → ((other : Row) → Has rows other → is_eq (value_cmp (rowid other) (rowid new)) ≡ true → ⊥) → is_taken rows new ≡ false
free_of rows new apart = false_from_ne_true _ (λ taken. let other = some_has _ rows taken in apart other.0 other.1 other.2)

-- no other row has the key
unclashed : (places : List ℕ) (rows : List Row) (id : ℤ) (new : Row) → rowid new ≡ Int id → ((other : Row) → Has rows other → agree plain places other places new ≡ true → ⊥) → list_any (clashes plain places (put_row new rows)) (new ∷ []) ≡ false
unclashed places rows id new is apart = false_from_ne_true _ clashing
  where
    met : (other : Row) → (other ≡ new) ⊎ Has rows other → agree plain places other places new ≡ true → differ (rowid other) (rowid new) ≡ true → ⊥
    met other (inl same) both apart' = differ_itself id (subst (λ v. differ v v ≡ true) is (subst (λ r. differ (rowid r) (rowid new) ≡ true) same apart'))
    met other (inr was) both apart' = apart other was both

    clashing : list_any (clashes plain places (put_row new rows)) (new ∷ []) ≡ true → ⊥
    clashing clash =
        let which = some_has (clashes plain places (put_row new rows)) (new ∷ []) clash in
        let which_is : which.0 ≡ new = elim which.1 [ inl same ↦ same | inr none ↦ absurd none ] in
        let other = some_has _ (put_row new rows) (subst (λ r. clashes plain places (put_row new rows) r ≡ true) which_is which.2) in
        let parts = and_parts _ _ other.2 in
        met other.0 (put_has new rows other.0 other.1) parts.0 parts.1

-- ---- what the schema asks of the three tables

refer_none : (among : Among) (schema : Schema) (trees : Trees) (tree : ℕ) (ts : List SqlTable) → are_later tree ts ≡ true
    → AllByRecursion (λ t. AllByRecursion (λ row. list_all (λ ref. not (is_among among ref) || has_parent schema.tables trees row ref) t.references ≡ true) (trees t.tree)) ts
refer_none among schema trees tree [] h = tt
refer_none among schema trees tree (t ∷ ts) h =
    let it = is_later tree t ts h in
    (all_from _ (trees t.tree) (λ row _. ap (list_all (λ ref. not (is_among among ref) || has_parent schema.tables trees row ref)) it.refers), refer_none among schema trees t.tree ts it.rest)

refers : (beside : Others) → are_later 5 beside.tables ≡ true → (among : Among) (trees : Trees) → Refers among (with_others beside) trees
refers beside later among trees =
    (all_from _ (trees 0) (λ _ _. refl), (all_from _ (trees 2) (λ _ _. refl), (all_from _ (trees 4) (λ _ _. refl), refer_none among (with_others beside) trees 5 beside.tables later)))

-- the later tables stand in other trees than the three, and than each other
above : (own tree : ℕ) (ts : List SqlTable) → own ≤ tree → are_later tree ts ≡ true → AllByRecursion (λ t. own ≡ t.tree → ⊥) ts
above own tree [] low h = tt
above own tree (t ∷ ts) low h =
    let it = is_later tree t ts h in
    let past : own ≤ t.tree = omega (arith, low, it.later) in
    ((λ same. omega (arith, low, it.later, same)), above own t.tree ts past it.rest)

rising : (tree : ℕ) (ts : List SqlTable) → are_later tree ts ≡ true → IsAscending (λ a b. a.tree ≡ b.tree → ⊥) ts
rising tree [] h = tt
rising tree (t ∷ ts) h = let it = is_later tree t ts h in (above t.tree t.tree ts (omega arith) it.rest, rising t.tree ts it.rest)

apart : (beside : Others) → are_later 5 beside.tables ≡ true → IsAscending (λ a b. a.tree ≡ b.tree → ⊥) (with_others beside).tables
apart beside later = (
  (apart-0-2, (apart-0-4, above 0 5 beside.tables (omega arith) later)),
  ((apart-2-4, above 2 5 beside.tables (omega arith) later), (above 4 5 beside.tables (omega arith) later, rising 5 beside.tables later)),
)

-- the tree of another table stays
with_other : (db : Trees) (tree other : ℕ) (rows : List Row) → other ≢ tree → with_tree db tree rows other ≡ db other
with_other db tree other rows apart = rw (ne_eqb other tree apart) refl

with_own : (db : Trees) (tree : ℕ) (rows : List Row) → with_tree db tree rows tree ≡ rows
with_own db tree rows = rw (eq-eqb tree tree refl) refl

-- one row more turns a table
turned : (beside : Others) → are_later 5 beside.tables ≡ true → (db : Trees) (table : SqlTable) (new : Row) → Has (with_others beside).tables table → is_taken (db table.tree) new ≡ false
    → Turns (with_others beside) db (with_tree db table.tree (put_row new (db table.tree))) table (db table.tree) [] (new ∷ [])
turned beside later db table new listed free =
    let fresh : are_fresh (db table.tree) (new ∷ []) ≡ true = rw free refl in
    let here = with_own db table.tree (put_row new (db table.tree)) in
    record {
      apart = apart beside later;
      listed = listed;
      others = λ t there other. with_other db table.tree t.tree _ other;
      from = λ r there. put_all_has (new ∷ []) (db table.tree) r (subst (λ l. Has l r) here there);
      stays = λ r there. subst (λ l. Has l r) (sym here) (put_all_keeps (new ∷ []) (db table.tree) r fresh there);
      added = λ r there. subst (λ l. Has l r) (sym here) (put_all_adds (new ∷ []) (db table.tree) r fresh there);
      was = λ r there. there;
      split = λ r there. inl there;
    }

-- what an INSERT of values is refused for, if they are of any type and no limit is set
unsourced : {P Q : Type 0} (accepted : Bool) → accepted ≡ true → (P × (accepted ≡ false)) ⊎ (Q × (false ≡ true)) → ⊥
unsourced accepted is (inl h) = true≢false (sym is ∙ h.1)
unsourced accepted is (inr h) = true≢false (sym h.1)

-- What the schema has of a table of the book's. Of one that is written out, `refl` finds most of it.
pub record IsGuarded {A : Type 0} (t : Table A) (beside : Others) : Type 0 where
  pub listed : Has (with_others beside).tables (table_at t)
  pub no_reals : table_reals (table_at t) ≡ 0
  pub unique_by : (trees : Trees) (news : List Row) → list_any (clashes plain (stored_unique t) (trees t.tree)) news ≡ false → are_unique (with_others beside).indexes trees (table_at t) news ≡ true
  pub index_is : (i : Index) → Has (with_others beside).indexes i → i.table ≡ t.tree → i.columns ≡ stored_unique t
  pub index_no_reals : index_reals 0 (stored_unique t) ≡ 0
  pub seen : (row new : Row) → agree plain (stored_unique t) row (stored_unique t) new ≡ agree plain t.unique (shown t row) t.unique (shown t new)
  pub agrees : (x a : A) → agree plain t.unique (cells t x) t.unique (cells t a) ≡ true → AreSameAt t.unique (cells t x) (cells t a)
  pub entry : (next : ℤ) (a : A) → IsStorable 0 (entry_of (stored_unique t) (stored_as t.key t.columns next a))
  pub few : (1 ≤ length t.columns) × (length t.columns ≤ 1000)

numbered : {A : Type 0} (key : Option (List ℕ × (A → ℕ))) (columns : List (Column A)) (next : ℤ) (a : A) → is_int (rowid (stored_as key columns next a)) ≡ true
numbered None columns next a = refl
numbered (Some key) columns next a = refl

with_numbers : (k m n : ℤ) → IsStorable 0 (Int k ∷ Int m ∷ Int n ∷ [])
with_numbers k m n = storable (Int k ∷ Int m ∷ Int n ∷ []) (omega arith) (omega arith) (whole_number k, (whole_number m, (whole_number n, tt))) (omega arith)

-- the columns of a key's index, by the tree of its table
abbrev columns_at : ℕ → List ℕ
columns_at tree = slice_index_or (stored_unique acts ∷ [] ∷ stored_unique records ∷ [] ∷ stored_unique lines ∷ []) tree []

indexed : (beside : Others) → are_on_later 5 beside.indexes ≡ true → (i : Index) → Has (with_others beside).indexes i → i.table < 6 → i.columns ≡ columns_at i.table
indexed beside on i (inl is) low = ap (λ (i : Index). i.columns) is ∙ sym (ap (λ (i : Index). columns_at i.table) is)
indexed beside on i (inr (inl is)) low = ap (λ (i : Index). i.columns) is ∙ sym (ap (λ (i : Index). columns_at i.table) is)
indexed beside on i (inr (inr (inl is))) low = ap (λ (i : Index). i.columns) is ∙ sym (ap (λ (i : Index). columns_at i.table) is)
indexed beside on i (inr (inr (inr there))) low =
    let past = ltb-true 5 i.table (test_has (λ (j : Index). nat_lt 5 j.table) beside.indexes i on there) in
    let never : ⊥ = omega (arith, low, past) in
    absurd never

own_columns : (beside : Others) → are_on_later 5 beside.indexes ≡ true → (i : Index) (tree : ℕ) → tree < 6 → Has (with_others beside).indexes i → i.table ≡ tree → i.columns ≡ columns_at tree
own_columns beside on i tree low there of = indexed beside on i there (omega (arith, low, of)) ∙ ap columns_at of

-- an index on a later table guards none of the three
unguarded : (P : Index → Bool) (table : SqlTable) (tree : ℕ) (indexes : List Index) → table.tree ≤ tree → are_on_later tree indexes ≡ true → list_all (λ i. not (guards i table && P i)) indexes ≡ true
unguarded P table tree indexes low on = test_from _ indexes (λ i there. not_from_false _ (false_from_ne_true _ (λ both.
    let own = (and_parts i.is_unique (i.table == table.tree) (and_parts (guards i table) (P i) both).0).1 in
    let past = ltb-true tree i.table (test_has (λ (j : Index). nat_lt tree j.table) indexes i on there) in
    let never : ⊥ = omega (arith, low, past, eqb-true i.table table.tree own) in
    never)))

same_keys : (a b c d : ℤ) → equal (first_key plain).collation (Int a) (Int b) && (equal (first_key (later plain)).collation (Int c) (Int d) && true) ≡ true → (Int a ≡ Int b) × ((Int c ≡ Int d) × ⊤)
same_keys a b c d h = let both = two_keys a b c d h in (ap Int both.0, (ap Int both.1, tt))

acts_guarded : (beside : Others) → are_on_later 5 beside.indexes ≡ true → IsGuarded acts beside
acts_guarded beside on = record {
  listed = inl refl;
  no_reals = refl;
  unique_by = λ trees news h. rw h (unguarded (λ i. list_any (clashes i.order i.columns (trees acts.tree)) news) (table_at acts) 5 beside.indexes (let low : 0 ≤ 5 = omega arith in low) on);
  index_is = λ i there of. own_columns beside on i 0 (omega arith) there of;
  index_no_reals = refl;
  seen = λ _ _. refl;
  agrees = λ _ _ h. same_keys _ _ _ _ h;
  entry = λ _ _. with_numbers _ _ _;
  few = (omega arith, omega arith);
}

records_guarded : (beside : Others) → are_on_later 5 beside.indexes ≡ true → IsGuarded records beside
records_guarded beside on = record {
  listed = inr (inl refl);
  no_reals = refl;
  unique_by = λ trees news h. rw h (unguarded (λ i. list_any (clashes i.order i.columns (trees records.tree)) news) (table_at records) 5 beside.indexes (let low : 2 ≤ 5 = omega arith in low) on);
  index_is = λ i there of. own_columns beside on i 2 (omega arith) there of;
  index_no_reals = refl;
  seen = λ _ _. refl;
  agrees = λ _ _ h. same_keys _ _ _ _ h;
  entry = λ _ _. with_numbers _ _ _;
  few = (omega arith, omega arith);
}

lines_guarded : (beside : Others) → are_on_later 5 beside.indexes ≡ true → IsGuarded lines beside
lines_guarded beside on = record {
  listed = inr (inr (inl refl));
  no_reals = refl;
  unique_by = λ trees news h. rw h (unguarded (λ i. list_any (clashes i.order i.columns (trees lines.tree)) news) (table_at lines) 5 beside.indexes (let low : 4 ≤ 5 = omega arith in low) on);
  index_is = λ i there of. own_columns beside on i 4 (omega arith) there of;
  index_no_reals = refl;
  seen = λ _ _. refl;
  agrees = λ _ _ h. same_keys _ _ _ _ h;
  entry = λ _ _. with_numbers _ _ _;
  few = (omega arith, omega arith);
}

-- ---- a row that is new to its table

abbrev IsApart : {A : Type 0} → Table A → A → A → Type 0
IsApart t new x = (AreSameAt (order t) (cells t x) (cells t new) → ⊥) × (AreSameAt t.unique (cells t x) (cells t new) → ⊥)

-- the table shows of each of its rows one of these
other_row : {A : Type 0} (t : Table A) (db : Trees) (others : List A) (new : A) → IsPermutation (map (cells t) others) (rows_in t db) → IsNew t others new → (other : Row) → Has (db t.tree) other → (x : A) × (shown t other ≡ cells t x) × IsApart t new x
other_row t db others new are apart other there = each_of (cells t) (IsApart t new) others (rows_in t db) are apart (shown t other) (mapped_has (shown t) (db t.tree) other there)

module _ {A : Type 0} (t : Table A) (at : ℕ) (beside : Others) (later : are_later 5 beside.tables ≡ true) (knows : IsUnderstood t at beside) (guards : IsGuarded t beside) (db : Trees) (others : List A) (a : A)
    (are : IsPermutation (map (cells t) others) (rows_in t db)) (new : IsNew t others a) where
  abbrev mine : Row
  mine = stored t db a

  key_new : (other : Row) → Has (db t.tree) other → agree plain (stored_unique t) other (stored_unique t) mine ≡ true → ⊥
  key_new other there both =
      let it = other_row t db others a are new other there in
      let seen = subst₂ (λ x y. agree plain t.unique x t.unique y ≡ true) it.1 (knows.shown_is (next_rowid (db t.tree)) a) (sym (guards.seen other mine) ∙ both) in
      it.2.1 (guards.agrees it.0 a seen)

  module _ (id : ℤ) (id_is : rowid mine ≡ Int id) (free : is_taken (db t.tree) mine ≡ false) where
    unique_new : Keeps Unique (with_others beside) db → Keeps Unique (with_others beside) (with_tree db t.tree (put_row mine (db t.tree)))
    unique_new = unique_kept (with_others beside) db _ (table_at t) (db t.tree) [] (mine ∷ [])
        (turned beside later db (table_at t) mine guards.listed free)
        (guards.unique_by (with_tree db t.tree (put_row mine (db t.tree))) (mine ∷ []) (subst (λ rows. list_any (clashes plain (stored_unique t) rows) (mine ∷ []) ≡ false) (sym (with_own db t.tree (put_row mine (db t.tree)))) (unclashed (stored_unique t) (db t.tree) id mine id_is key_new)))

    abbrev edit : Edit
    edit = record { table = table_at t; gone = []; news = mine ∷ [] }

    not_refused : Keeps Unique (with_others beside) db → fits_i64 id ≡ true → (why : Refusal) → IsRefused (with_others beside) Enforced db edit why → ⊥
    not_refused keeps fits (Violates Datatype) h = true≢false (sym (rw (are_typed_stored t.key t.columns (next_rowid (db t.tree)) a) refl) ∙ h)
    not_refused keeps fits (Violates NotNull) h = true≢false (sym (rw (are_present_stored t.key t.columns (next_rowid (db t.tree)) a) refl) ∙ h)
    not_refused keeps fits (Violates Check) h = true≢false h
    not_refused keeps fits (Violates PrimaryKey) h = true≢false (rw free at h)
    not_refused keeps fits (Violates Unique) h = h (unique_new keeps)
    not_refused keeps fits (Violates ForeignKey) h = h
    not_refused keeps fits Mismatch h = true≢false (sym (rw (numbered t.key t.columns (next_rowid (db t.tree)) a) refl) ∙ h)
    not_refused keeps fits NoRowid h = true≢false (rw (id_is, fits) at h)
    not_refused keeps fits BadReference h = true≢false h
    not_refused keeps fits TooDeep h = h

    not_long : size mine ≤ 10 ^ 9 → (long : Row) → Has edit.news long → IsOversized (with_others beside) (table_at t) long → ⊥
    not_long short long (inr none) h = absurd none
    not_long short long (inl is) (inl h) =
        let lengths = stored_length t.key t.columns (next_rowid (db t.tree)) a in
        subst₂ (λ reals r. ¬ IsStorableRow reals r) guards.no_reals is h (
          storable mine (omega (arith, lengths.0)) (omega (arith, lengths.1, guards.few.1)) (stored_numbers t.key t.columns (next_rowid (db t.tree)) a) short,
          omega (arith, lengths.0, guards.few.0),
        )
    not_long short long (inl is) (inr (i, there, of, h)) =
        let of_places : ¬ IsStorable (index_reals (table_reals (table_at t)) (stored_unique t)) (entry_of (stored_unique t) mine) =
        subst₂ (λ places r. ¬ IsStorable (index_reals (table_reals (table_at t)) places) (entry_of places r)) (guards.index_is i there of) is h in
        let plainly = subst (λ reals. ¬ IsStorable (index_reals reals (stored_unique t)) (entry_of (stored_unique t) mine)) guards.no_reals of_places in
        subst (λ reals. ¬ IsStorable reals (entry_of (stored_unique t) mine)) guards.index_no_reals plainly (guards.entry (next_rowid (db t.tree)) a)

-- a row that is new to its table, has a rowid of its own and is not too long is taken
pub takes : {A : Type 0} (t : Table A) (at : ℕ) (old new : State) (serves : IsServing old) → IsUnderstood t at (others_in serves.schema) → IsGuarded t (others_in serves.schema) → (others : List A) (a : A) (id : ℤ) (e : Error) → IsDatabase old.now
    → IsPermutation (map (cells t) others) (rows_in t old.now.trees) → IsNew t others a → rowid (stored t old.now.trees a) ≡ Int id → is_taken (old.now.trees t.tree) (stored t old.now.trees a) ≡ false
    → fits_i64 id ≡ true → size (stored t old.now.trees a) ≤ 10 ^ 9 → ExecutesInside 0 (insert_text t) (cells t a) old new (Err e) → IsExcused old new e
takes t at old new serves knows guards others a id e live are fresh id_is free fits short h =
    let db = old.now.trees in
    let beside = others_in serves.schema in
    let later = serves.schema.later in
    let command = Insert at (Values (terms t) (width t)) in
    let text = statement_of (insert_text t) (understood (with_others beside) (insert_text t)) in
    let whole : IsWhole (with_others beside) (insert_text t) (length (cells t a)) = (knows.insert_whole.0, knows.insert_whole.1 ∙ sym (length-map _ _)) in
    elim (fails_for (insert_text t) (cells t a) old new (with_others beside) (as_others serves.schema) command knows.insert_is knows.insert_plain whole e serves.is_open (placed old at _ e) (stays old at _) refl h) [
      | inl excused ↦ excused
      | inr does ↦
          let done = subst (λ s. Does old.step_limit (mode_of old) (cells t a) (record old.now { schema = s }) text None command (Err does.0)) (as_others serves.schema) does.1 in
          absurd (elim (row_refused (task_of t beside old a) (mode_of old) at (terms t) (width t) db does.0 serves.unlimited refl (λ _ why. unsourced _ (are_accepted t a) why) knows.alone (refers beside later) (knows.on_rows old a text _ done)) [
            | inl refused ↦
                let rule = subst (λ ns. IsRefused (with_others beside) Enforced db (record { table = table_at t; gone = []; news = ns }) refused.0) (row_is t at beside knows db a) refused.1 in
                not_refused t at beside later knows guards db others a are fresh id id_is free (subst (λ s. Keeps Unique s db) (as_others serves.schema) (live.obeys.rules Unique)) fits refused.0 rule
            | inr long ↦ not_long t at beside later knows guards db others a are fresh id id_is free short long.0 (subst (λ ns. Has ns long.0) (row_is t at beside knows db a) long.1) long.2
          ])
    ]

-- ---- a table with a key

-- no other row has the key, so none has the rowid
free_key : {A : Type 0} (t : Table A) (key : A → ℕ) → ((row : Row) (x : A) → shown t row ≡ cells t x → rowid row ≡ Int (pos (key x)))
    → ((x a : A) → key x ≡ key a → AreSameAt (order t) (cells t x) (cells t a)) → (db : Trees) (others : List A) (a : A) (new : Row) → rowid new ≡ Int (pos (key a))
    → IsPermutation (map (cells t) others) (rows_in t db) → IsNew t others a → is_taken (db t.tree) new ≡ false
free_key t key read same db others a new is are fresh = free_of (db t.tree) new (λ other there equal.
    let it = other_row t db others a are fresh other there in
    let ints = equal_cmp (pos (key it.0)) (pos (key a)) (subst₂ (λ v w. is_eq (value_cmp v w) ≡ true) (read other it.0 it.1) is equal) in
    it.2.0 (same it.0 a (let e : key it.0 ≡ key a = cc in e)))

number_small : (n : ℕ) → is_number (number_cell n) ≡ true → n ≤ 4294967295
unfolding is_number
number_small n h = grind (arith, ints, h)

-- the key of a row that fits is a rowid
fits_key : (n : ℕ) (more both : Bool) → (is_number (number_cell n) && more) && both ≡ true → fits_i64 (pos n) ≡ true
fits_key n more both h =
    let small = number_small n (and_parts (is_number (number_cell n)) more (and_parts (is_number (number_cell n) && more) both h).0).0 in
    lt-ltb _ _ (omega (arith, small))

-- an act that is new to the table is taken
pub takes_act : (old new : State) (others : List ActRow) (a : ActRow) (e : Error) → IsServing old → IsDatabase old.now → IsPermutation (map (cells acts) others) (rows_in acts old.now.trees) → IsNew acts others a
    → fits acts (cells acts a) ≡ true → length a.body ≤ longest_body → ExecutesInside 0 (insert_text acts) (cells acts a) old new (Err e) → IsExcused old new e
takes_act old new others a e serves live are fresh fit short h =
    takes acts 0 old new serves (acts_understood (others_in serves.schema) serves.schema.later) (acts_guarded (others_in serves.schema) serves.schema.on_later) others a (pos a.n) e live are fresh refl
    (free_key acts (λ x. x.n) (λ row x is. ap (λ (r : Row). column r 0) is) (λ x a is. (ap (λ n. Int (pos n)) is, tt)) old.now.trees others a (stored acts old.now.trees a) refl are fresh)
    (fits_key a.n _ _ fit) (omega (arith, stored_size acts.key acts.columns (next_rowid (old.now.trees 0)) a, short)) h

-- a record that is new to the table is taken
pub takes_record : (old new : State) (others : List Record) (r : Record) (e : Error) → IsServing old → IsDatabase old.now → IsPermutation (map (cells records) others) (rows_in records old.now.trees) → IsNew records others r
    → fits records (cells records r) ≡ true → ExecutesInside 0 (insert_text records) (cells records r) old new (Err e) → IsExcused old new e
takes_record old new others r e serves live are fresh fit h =
    takes records 1 old new serves (records_understood (others_in serves.schema) serves.schema.later) (records_guarded (others_in serves.schema) serves.schema.on_later) others r (pos r.act) e live are fresh refl
    (free_key records (λ x. x.act) (λ row x is. ap (λ (s : Row). column s 0) is) (λ x a is. (ap (λ n. Int (pos n)) is, tt)) old.now.trees others r (stored records old.now.trees r) refl are fresh)
    (fits_key r.act _ _ fit) (omega (arith, stored_size records.key records.columns (next_rowid (old.now.trees 2)) r)) h

-- ---- a table without one

-- rows that are numbered from n on have no number as high as the next
module _ (new : Row) (m : ℕ) (is : rowid new ≡ Int (pos m)) where
  below : (n : ℕ) (row : Row) → rowid row ≡ Int (pos n) → n < m → value_cmp (rowid row) (rowid new) ≡ Less
  below n row row_is low = ap (λ v. value_cmp v (rowid new)) row_is ∙ ap (value_cmp (Int (pos n))) is ∙ value_cmp-Int (pos n) (pos m) ∙ less n m low

  put_last : (n : ℕ) (rows : List Row) → AreNumbered n rows → n + length rows ≤ m → put_row new rows ≡ rows ++ new ∷ []
  put_last n [] h low = refl
  put_last n (row ∷ rows) h low = rw (below n row h.0 (omega (arith, low))) (ap (λ l. row ∷ l) (put_last (n + 1) rows h.1 (omega (arith, low))))

  last_free : (n : ℕ) (rows : List Row) → AreNumbered n rows → n + length rows ≤ m → is_taken rows new ≡ false
  last_free n [] h low = refl
  last_free n (row ∷ rows) h low = rw (below n row h.0 (omega (arith, low))) (last_free (n + 1) rows h.1 (omega (arith, low)))

next_number : (n : ℕ) (rows : List Row) → AreNumbered n rows → fold (λ _ r. id_in (rowid r) +ℤ pos 1) (pos n) rows ≡ pos (n + length rows)
next_number n [] h = ap pos (omega arith)
next_number n (row ∷ rows) h =
    ap (λ v. fold (λ _ r. id_in (rowid r) +ℤ pos 1) (id_in v +ℤ pos 1) rows) h.0 ∙ next_number (n + 1) rows h.1 ∙ ap pos (omega arith)

one_more : (n : ℕ) (rows : List Row) (new : Row) → AreNumbered n rows → rowid new ≡ Int (pos (n + length rows)) → AreNumbered n (rows ++ new ∷ [])
one_more n [] new h is = (is ∙ ap (λ k. Int (pos k)) (omega arith), tt)
one_more n (row ∷ rows) new h is = (h.0, one_more (n + 1) rows new h.1 (is ∙ ap (λ k. Int (pos k)) (omega arith)))

module _ (db : Trees) (l : Line) (more : ℕ) (room : HasNumbers (db 4) (suc more)) where
  next_is : rowid (stored lines db l) ≡ Int (pos (1 + length (db 4)))
  next_is = ap Int (next_number 1 (db 4) room.numbered)

  free_line : is_taken (db 4) (stored lines db l) ≡ false
  free_line = last_free (stored lines db l) (1 + length (db 4)) next_is 1 (db 4) room.numbered (omega arith)

  fits_next : fits_i64 (next_rowid (db 4)) ≡ true
  fits_next = ap fits_i64 (next_number 1 (db 4) room.numbered) ∙ lt-ltb _ _ (omega (arith, room.left))

  -- the lines have one number less
  pub room_left : (new : Trees) → new 4 ≡ put_row (stored lines db l) (db 4) → HasNumbers (new 4) more
  room_left new is =
      let last : new 4 ≡ db 4 ++ stored lines db l ∷ [] = is ∙ put_last (stored lines db l) (1 + length (db 4)) next_is 1 (db 4) room.numbered (omega arith) in
      subst (λ rows. HasNumbers rows more) (sym last) (record {
        numbered = one_more 1 (db 4) (stored lines db l) room.numbered next_is;
        left = omega (arith, room.left, length-append (db 4) (stored lines db l ∷ []));
      })

-- a line that is new to the table is taken
pub takes_line : (old new : State) (others : List Line) (l : Line) (more : ℕ) (e : Error) → IsServing old → IsDatabase old.now → IsPermutation (map (cells lines) others) (rows_in lines old.now.trees) → IsNew lines others l
    → HasNumbers (old.now.trees 4) (suc more) → ExecutesInside 0 (insert_text lines) (cells lines l) old new (Err e) → IsExcused old new e
takes_line old new others l more e serves live are fresh room h =
    let db = old.now.trees in
    takes lines 2 old new serves (lines_understood (others_in serves.schema) serves.schema.later) (lines_guarded (others_in serves.schema) serves.schema.on_later) others l (next_rowid (db 4)) e live are fresh refl (free_line db l more room) (fits_next db l more room)
    (omega (arith, stored_size lines.key lines.columns (next_rowid (db 4)) l)) h
