-- Lists of one item and of three, the names of the indexes, and what stands behind the first three.
use Rattle.std.proofs.Common.{◌≡◌, ◌≤◌, ◌<◌, true, List, [], ◌∷◌, take, drop, length, slice_index_or, sym, ap, refl, arith}
use Rattle.sqlite_schema.specs.declared.schema.{Table.Table, Index.Index, Schema.Schema}
use Rattle.sqlite_tied.specs.Compute.{everything}
use Rattle.store_sql.specs.Schema.{book_schema, are_later, are_on_later, HasTables}
use Rattle.keeper_sqlite.specs.Own.{key_indexes}

pub one_item : {X : Type 0} (xs : List X) (x : X) → 1 ≤ length xs → length xs < 2 → x ≡ slice_index_or xs 0 x → xs ≡ x ∷ []
one_item [] x least below is = absurd (omega (arith, least))
one_item (y ∷ []) x least below is = ap (λ z. z ∷ []) (sym is)
one_item (y ∷ z ∷ zs) x least below is = absurd (omega (arith, below))

pub three_items : {X : Type 0} (xs : List X) (x y z : X) → 3 ≤ length xs → length xs < 4 → x ≡ slice_index_or xs 0 x → y ≡ slice_index_or xs 1 y → z ≡ slice_index_or xs 2 z → xs ≡ x ∷ y ∷ z ∷ []
three_items [] x y z least below a b c = absurd (omega (arith, least))
three_items (p ∷ []) x y z least below a b c = absurd (omega (arith, least))
three_items (p ∷ q ∷ []) x y z least below a b c = absurd (omega (arith, least))
three_items (p ∷ q ∷ r ∷ []) x y z least below a b c = λ i. sym a i ∷ sym b i ∷ sym c i ∷ []
three_items (p ∷ q ∷ r ∷ s ∷ ss) x y z least below a b c = absurd (omega (arith, below))

pub indexes_named : book_schema.indexes ≡ key_indexes
unfolding everything
indexes_named = refl

few : {X : Type 0} (xs ys : List X) → length ys ≡ 3 → length xs < 3 → take 3 xs ≡ ys → ⊥
few [] ys three below is = let e : 0 ≡ length ys = ap length is in omega (arith, three, e)
few (x ∷ []) ys three below is = let e : 1 ≡ length ys = ap length is in omega (arith, three, e)
few (x ∷ y ∷ []) ys three below is = let e : 2 ≡ length ys = ap length is in omega (arith, three, e)
few (x ∷ y ∷ z ∷ zs) ys three below is = omega (arith, below)

pub few_tables : (tables : List Table) → length tables < 3 → take 3 tables ≡ book_schema.tables → ⊥
few_tables tables = few tables book_schema.tables refl

pub few_indexes : (indexes : List Index) → length indexes < 3 → take 3 indexes ≡ book_schema.indexes → ⊥
few_indexes indexes = few indexes book_schema.indexes refl

abbrev TablesBegin : Schema → Type 0
TablesBegin schema = (take 3 schema.tables ≡ book_schema.tables) × (are_later 5 (drop 3 schema.tables) ≡ true)

abbrev IndexesBegin : Schema → Type 0
IndexesBegin schema = (take 3 schema.indexes ≡ book_schema.indexes) × (are_on_later 5 (drop 3 schema.indexes) ≡ true)

pub has_both : (schema : Schema) → TablesBegin schema → IndexesBegin schema → HasTables schema
has_both schema tables indexes = record { tables = tables.0; later = tables.1; indexes = indexes.0; on_later = indexes.1 }

pub both_had : (schema : Schema) → HasTables schema → TablesBegin schema × IndexesBegin schema
both_had schema has = ((has.tables, has.later), (has.indexes, has.on_later))
