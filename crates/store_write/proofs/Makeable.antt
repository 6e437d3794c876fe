-- The making of the three tables in an empty file fails only for want of memory or a fault of the store.
use Rattle.std.proofs.Common.{◌≡◌, ◌<◌, ◌≤◌, ◌+◌, ◌*◌, ◌^◌, ℕ, true, false, List, [], ◌∷◌, length, codes, IsUtf8, Option, None, Some, Ok, Err, IsTrue, inl, inr, refl, sym, ap, subst, ◌∙◌, arith, true≢false}
use Rattle.sqlite.specs.declared.types.Value.TheVariants.{Text}
use Rattle.sqlite.specs.declared.error.Error.{Error}
use Rattle.sqlite.specs.Table.{Table}
use Rattle.sqlite.specs.Schema.{Schema}
use Rattle.sqlite.specs.Command.TheVariants.{CreateTable, Begin, Commit, Rollback, Release, RollbackTo}
use Rattle.sqlite.specs.Compile.{table_defined_by}
use Rattle.sqlite.specs.Change.{created, next_tree}
use Rattle.sqlite.specs.Does.{Does, MakesTable, lacks_sequence}
use Rattle.sqlite.specs.Listing.{understood}
use Rattle.sqlite.specs.Effect.{Database}
use Rattle.sqlite.specs.State.{State, ExecutesInside, IsMisplaced, Escapes, mode_of}
use Rattle.sqlite.proofs.Callers.{IsPlain, command_of, statement_of}
use Rattle.sqlite_schema.specs.declared.schema.Index.{Index}
use Rattle.sqlite_schema.specs.Rules.{table_reals, index_reals}
use Rattle.sqlite_rules.specs.Lists.{Has}
use Rattle.sqlite_catalog.specs.declared.error.Refusal.{Refusal}
use Rattle.sqlite_catalog.specs.declared.error.Refusal.TheVariants.{Invalid, NameTaken, BadName, TooBig, BadKey, BadText, Violates}
use Rattle.sqlite_catalog.specs.Change.{is_used, is_reserved, automatics}
use Rattle.sqlite_catalog.specs.Listing.{is_formed, is_fit}
use Rattle.sqlite_catalog.specs.Calls.{RefusesTable}
use Rattle.sqlite_value.specs.Order.{value_cmp}
use Rattle.sqlite_trees.specs.Sound.{fits_kind, is_free_name, begins, same_name}
use Rattle.sqlite_tied.specs.Compute.{everything}
use Rattle.store_sql.specs.Tables.{schema_table, create_text}
use Rattle.store_sql.specs.Columns.{acts, records, lines}
use Rattle.store_sql.specs.Schema.{no_schema, acts_schema, records_schema}
use Rattle.store_sql.specs.Takes.{IsExcused}
use Rattle.store_sql.proofs.Meanings.{IsWhole, acts_made, records_made, lines_made}
use Rattle.store_sql.proofs.Parts.{same_value}
use Rattle.store_sql.proofs.Refusals.{fails_for}
use Rattle.store_sql.proofs.Creates.{makes}
use Rattle.store_write.specs.Effects.{Ran}
use Rattle.store_write.proofs.Causes.{excused_from}

-- ---- a table that nothing stands against

pub record IsMakeable (schema : Schema) (sql : List ℕ) (table : Table) : Type 0 where
  pub text : IsUtf8 sql
  pub name : IsUtf8 table.name
  pub free : is_used schema table.name ≡ false
  pub unused : (index : Index) → Has (automatics table 0 0 table.uniques) index → is_used schema index.name ≡ false
  pub own : is_reserved table.name ≡ false
  pub trees : next_tree schema + length table.uniques < 65536
  pub reals : table_reals table < 2 ^ 64
  pub keys : (key : List ℕ) → Has table.uniques key → index_reals (table_reals table) key < 2 ^ 64
  pub formed : is_formed table ≡ true
  pub fit : is_fit (Text (codes "table")) (Text table.name) (Text table.name) (Text sql) ≡ true
  pub short : 2 * length table.name + length sql + 200 < 10 ^ 9

module _ (schema : Schema) (sql : List ℕ) (table : Table) (defined : table_defined_by sql ≡ Ok table) (can : IsMakeable schema sql table) where
  same_table : (other : Table) → table_defined_by sql ≡ Ok other → other ≡ table
  same_table other is = same_value (sym is ∙ defined)

  refused_never : (reason : Refusal) → RefusesTable schema sql reason → ⊥
  refused_never (Invalid e) h = let both = sym h ∙ defined in absurd (cc)
  refused_never NameTaken (other, is, inl used) = true≢false (sym used ∙ ap (λ (t : Table). is_used schema t.name) (same_table other is) ∙ can.free)
  refused_never NameTaken (other, is, inr it) =
      true≢false (sym it.2 ∙ can.unused it.0 (subst (λ (t : Table). Has (automatics t 0 0 t.uniques) it.0) (same_table other is) it.1))
  refused_never BadName (other, is, inl no_text) = no_text (subst (λ (t : Table). IsUtf8 t.name) (sym (same_table other is)) can.name)
  refused_never BadName (other, is, inr reserved) = true≢false (sym reserved.0 ∙ ap (λ (t : Table). is_reserved t.name) (same_table other is) ∙ can.own)
  refused_never TooBig (other, is, inl many) = omega (arith, can.trees, subst (λ (t : Table). 65536 ≤ next_tree schema + length t.uniques) (same_table other is) many)
  refused_never TooBig (other, is, inr (inl wide)) = omega (arith, can.reals, subst (λ (t : Table). 2 ^ 64 ≤ table_reals t) (same_table other is) wide)
  refused_never TooBig (other, is, inr (inr it)) =
      omega (arith, can.keys it.0 (subst (λ (t : Table). Has t.uniques it.0) (same_table other is) it.1), subst (λ (t : Table). 2 ^ 64 ≤ index_reals (table_reals t) it.0) (same_table other is) it.2)
  refused_never BadKey (other, is, unformed) = true≢false (sym can.formed ∙ ap is_formed (sym (same_table other is)) ∙ unformed)
  refused_never BadText (other, is, unfit) =
      true≢false (sym can.fit ∙ ap (λ (t : Table). is_fit (Text (codes "table")) (Text t.name) (Text t.name) (Text sql)) (sym (same_table other is)) ∙ unfit)
  refused_never (Violates rule) h = h

  unmade_never : (db : Database) (stop : Option Error) → db.schema ≡ schema → MakesTable sql db (Err stop) → ⊥
  unmade_never db None has (other, is, long) = omega (arith, can.short, subst (λ (t : Table). 10 ^ 9 ≤ 2 * length t.name + length sql + 200) (same_table other is) long)
  unmade_never db (Some e) has (inl h) = h.0 can.text
  unmade_never db (Some e) has (inr h) = refused_never h.0 (subst (λ s. RefusesTable s sql h.0) has h.1)

  pub stops_never : (s : State) (stop : Option Error) → s.now.schema ≡ schema → lacks_sequence (created schema table) ≡ false → Does s.step_limit (mode_of s) [] s.now sql None CreateTable (Err stop) → ⊥
  stops_never s stop has uncounted (inr gave) = let e = gave.2 in absurd (cc)
  stops_never s stop has uncounted (inl (first, inl made, is)) = unmade_never s.now made.0 has made.1
  stops_never s stop has uncounted (inl (first, inr after, is)) =
      let table_is = same_table after.1.table after.1.defined in
      let schema_is = after.1.is ∙ ap (λ k. created k after.1.table) has ∙ ap (created schema) table_is in
      let bare : lacks_sequence after.0.schema ≡ false = ap lacks_sequence schema_is ∙ uncounted in
      let e = rw bare at after.2 in
      absurd (cc)

-- ---- a CREATE TABLE stands in its place

placed : (s : State) (e : Error) → IsMisplaced s CreateTable e → ⊥
placed s e (inl (is, inl (it, h))) = let never : CreateTable ≡ Begin = it in cc
placed s e (inl (is, inr (inl it, h))) = let never : CreateTable ≡ Commit = it in cc
placed s e (inl (is, inr (inr it, h))) = let never : CreateTable ≡ Rollback = it in cc
placed s e (inr (is, name, inl it, h)) = let never : CreateTable ≡ Release name = it in cc
placed s e (inr (is, name, inr it, h)) = let never : CreateTable ≡ RollbackTo name = it in cc

stays : (s : State) → Escapes 0 s CreateTable → ⊥
stays s (inl (inl it)) = let never : CreateTable ≡ Commit = it in cc
stays s (inl (inr it)) = let never : CreateTable ≡ Rollback = it in cc
stays s (inr (name, inl it, h)) = let never : CreateTable ≡ Release name = it in cc
stays s (inr (name, inr it, h)) = let never : CreateTable ≡ RollbackTo name = it in cc

-- it fails where memory ran out or the store counted a fault
created_by_fault : (schema : Schema) (sql : List ℕ) (table : Table) → command_of (understood schema sql) ≡ CreateTable → statement_of sql (understood schema sql) ≡ sql → table_defined_by sql ≡ Ok table → IsPlain (understood schema sql) → IsWhole schema sql 0
    → IsMakeable schema sql table → lacks_sequence (created schema table) ≡ false → (old new : State) (e : Error) → IsTrue old.is_open → old.now.schema ≡ schema → ExecutesInside 0 sql [] old new (Err e) → IsExcused old new e
created_by_fault schema sql table is text defined plain fit can uncounted old new e is_open has h =
    elim (fails_for sql [] old new schema has CreateTable is plain fit e is_open (placed old e) (stays old) refl h) [
      | inl excused ↦ excused
      | inr it ↦ absurd (stops_never schema sql table defined can old it.0 has uncounted (subst (λ t. Does old.step_limit (mode_of old) [] old.now t None CreateTable (Err it.0)) text it.1))
    ]

-- ---- the three tables

-- what holds of the only one holds of each
of_one : {X : Type 0} (P : X → Type 0) (one : X) → P one → (x : X) → Has (one ∷ []) x → P x
of_one P one holds x (inl is) = subst P (sym is) holds
of_one P one holds x (inr none) = absurd none

acts_makeable : IsMakeable no_schema (create_text acts) (schema_table acts)
unfolding everything fits_kind is_free_name begins same_name value_cmp lib.Utf8.encode lib.Ieee.is_nan lib.Ieee.lt
acts_makeable = record {
  text = ((create_text acts), (refl, refl));
  name = ((schema_table acts).name, (refl, refl));
  free = refl;
  unused = of_one (λ (index : Index). is_used no_schema index.name ≡ false) _ refl;
  own = refl;
  trees = omega arith;
  reals = omega arith;
  keys = of_one (λ key. index_reals (table_reals (schema_table acts)) key < 2 ^ 64) _ (omega arith);
  formed = refl;
  fit = refl;
  short = omega arith;
}

records_makeable : IsMakeable acts_schema (create_text records) (schema_table records)
unfolding everything fits_kind is_free_name begins same_name value_cmp lib.Utf8.encode lib.Ieee.is_nan lib.Ieee.lt
records_makeable = record {
  text = ((create_text records), (refl, refl));
  name = ((schema_table records).name, (refl, refl));
  free = refl;
  unused = of_one (λ (index : Index). is_used acts_schema index.name ≡ false) _ refl;
  own = refl;
  trees = omega arith;
  reals = omega arith;
  keys = of_one (λ key. index_reals (table_reals (schema_table records)) key < 2 ^ 64) _ (omega arith);
  formed = refl;
  fit = refl;
  short = omega arith;
}

lines_makeable : IsMakeable records_schema (create_text lines) (schema_table lines)
unfolding everything fits_kind is_free_name begins same_name value_cmp lib.Utf8.encode lib.Ieee.is_nan lib.Ieee.lt
lines_makeable = record {
  text = ((create_text lines), (refl, refl));
  name = ((schema_table lines).name, (refl, refl));
  free = refl;
  unused = of_one (λ (index : Index). is_used records_schema index.name ≡ false) _ refl;
  own = refl;
  trees = omega arith;
  reals = omega arith;
  keys = of_one (λ key. index_reals (table_reals (schema_table lines)) key < 2 ^ 64) _ (omega arith);
  formed = refl;
  fit = refl;
  short = omega arith;
}

-- the first, the second and the third, each after those before it
module _ (a new : State) (e : Error) (empty : a.now.schema ≡ no_schema) where
  pub acts_by_fault : IsTrue a.is_open → ExecutesInside 0 (create_text acts) [] a new (Err e) → IsExcused a new e
  acts_by_fault is_open = created_by_fault no_schema (create_text acts) (schema_table acts) acts_made.is acts_made.text acts_made.defined acts_made.plain acts_made.whole acts_makeable refl a new e is_open empty

  module _ (b : State) (first : Ran (create_text acts) a b) where
    has_acts : b.now.schema ≡ acts_schema
    has_acts = (makes (create_text acts) no_schema (schema_table acts) acts_made.is acts_made.text acts_made.plain acts_made.defined refl a b first.0 empty first.1).schema_is

    pub records_by_fault : a.faults ≤ b.faults → IsTrue b.is_open → ExecutesInside 0 (create_text records) [] b new (Err e) → IsExcused a new e
    records_by_fault later is_open h =
        excused_from a b new e later (created_by_fault acts_schema (create_text records) (schema_table records) records_made.is records_made.text records_made.defined records_made.plain records_made.whole records_makeable refl b new e is_open has_acts h)

    module _ (c : State) (second : Ran (create_text records) b c) where
      has_records : c.now.schema ≡ records_schema
      has_records = (makes (create_text records) acts_schema (schema_table records) records_made.is records_made.text records_made.plain records_made.defined refl b c second.0 has_acts second.1).schema_is

      pub lines_by_fault : a.faults ≤ c.faults → IsTrue c.is_open → ExecutesInside 0 (create_text lines) [] c new (Err e) → IsExcused a new e
      lines_by_fault later is_open h =
          excused_from a c new e later (created_by_fault records_schema (create_text lines) (schema_table lines) lines_made.is lines_made.text lines_made.defined lines_made.plain lines_made.whole lines_makeable refl c new e is_open has_records h)
