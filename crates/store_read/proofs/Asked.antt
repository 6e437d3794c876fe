-- What a query leaves outside a transaction, and what was read of its rows so far.
use Rattle.std.proofs.Common.{◌≡◌, ◌⊎◌, ℕ, List, [], ◌∷◌, ◌++◌, false, Option, Some, None, Ok, Err, Result, OnOk, IsTrue, sym, refl, subst, ◌∙◌, inl, inr}
use Rattle.sqlite.specs.Order.{Row}
use Rattle.sqlite.specs.Tree.{Trees}
use Rattle.sqlite_trees.specs.declared.store.Store.{Ghosts}
use Rattle.sqlite.specs.declared.error.Error.{Error}
use Rattle.sqlite_schema.specs.declared.command.Returning.{Returning}
use Rattle.sqlite_resolve.specs.declared.compiled.Compiled.{Compiled}
use Rattle.sqlite_resolve.specs.declared.error.CompileError.{CompileError}
use Rattle.sqlite.specs.Effect.{Database}
use Rattle.sqlite.specs.Held.{Held, state}
use Rattle.sqlite.specs.Given.{Returns, HasGiven, HasBegun, Advances}
use Rattle.sqlite.specs.State.{State, IsUnchanged, IsRolledBack, IsNotRun, Fails, FailsToQuery, FailsToShow, Survives, CommitsShowing}
use Rattle.sqlite.proofs.StateLemmas.{survives_weaker}
use Rattle.sqlite.proofs.Callers.{unchanged_then}
use Rattle.store_write.specs.Effects.{Undoes}
use Rattle.store_sql.specs.Tables.{Table, select_text}
use Rattle.store_sql.specs.Schema.{HasTables}
use Rattle.store_sql.specs.Trees.{Lists}
use Rattle.store_read.specs.Asking.{Asks, AreShown, OnlyReads, ShowsTable}

pub whenever : {A E Q : Type 0} (r : Result A E) → Q → OnOk r Q
whenever (Ok a) q = q
whenever (Err e) q = tt

-- ---- a query that is refused

module _ (old new : State) where
  pub not_run : (sql : List ℕ) (params : Row) (e : Error) → IsNotRun old new sql params e → IsUnchanged old new ⊎ IsRolledBack old new
  unfolding IsNotRun
  not_run sql params e (inl refused) = inl refused.1
  not_run sql params e (inr failed) = inr failed.3

  not_shown : (sql : List ℕ) (c : Compiled) (params : Row) (e : Error) (returning : Option Returning) → FailsToShow old new sql c params e returning → IsUnchanged old new ⊎ IsRolledBack old new
  not_shown sql c params e None h = inl h.3
  not_shown sql c params e (Some what) (inl refused) = inl refused.1
  not_shown sql c params e (Some what) (inr failed) = inr failed.3

  pub fails : (sql : List ℕ) (params : Row) (e : Error) → FailsToQuery sql params old new e → IsUnchanged old new ⊎ IsRolledBack old new
  unfolding FailsToQuery
  fails sql params e (inl refused) = not_run sql params e refused
  fails sql params e (inr h) = not_shown sql h.0 _ e h.0.returning h.2

-- ---- nothing changes

-- outside a transaction what is seen is what is committed
abbrev pub IsSettled : State → Type 0
IsSettled s = (s.in_transaction ≡ false) × (IsTrue s.is_open → s.now ≡ s.committed)

pub unchanged_undoes : (old new : State) → IsUnchanged old new → Undoes old new
unchanged_undoes old new h lives = (h.0.was_open, h.0.now_is, h.0.mode)

pub ended_undoes : (old new : State) → IsSettled old → IsUnchanged old new ⊎ IsRolledBack old new → Undoes old new
ended_undoes old new alone (inl h) = λ lives. unchanged_undoes old new h lives
ended_undoes old new alone (inr h) =
    λ lives. let was = h.was_open lives in (was, (h.undone lives).0 ∙ sym (alone.1 was), h.autocommit ∙ sym alone.0)

pub undoes_then : (a b c : State) → Undoes a b → Undoes b c → Undoes a c
undoes_then a b c one two lives =
    let later = two lives in
    let first = one later.0 in
    (first.0, later.1 ∙ first.1, later.2 ∙ first.2)

pub settled_then : (a b : State) → IsSettled a → IsUnchanged a b → IsSettled b
settled_then a b alone h = (h.0.mode ∙ alone.0, λ _. h.0.now_is ∙ alone.1 h.0.was_open ∙ sym h.0.committed_is)

-- a failure at a later row
pub failed_undoes : (old mid new : State) (e : Error) → IsSettled old → IsUnchanged old mid → Fails mid new ⊥ e ⊎ IsUnchanged mid new → Undoes old new
failed_undoes old mid new e alone same (inl h) = undoes_then old mid new (unchanged_undoes old mid same) (ended_undoes mid new (settled_then old mid alone same) (inr h.3))
failed_undoes old mid new e alone same (inr h) = unchanged_undoes old new (unchanged_then old mid new same h)

-- ---- a query that only reads

never : (sql : List ℕ) (params : Row) (old : State) (db : Trees) → OnlyReads sql → CommitsShowing sql params old db → ⊥
unfolding CommitsShowing
never sql params old db reads h = let none = reads old.now.schema h.0 h.1.is in absurd (let e = rw none at h.2 in cc)

pub commits_nothing : (sql : List ℕ) (params : Row) (old new : State) → OnlyReads sql → Survives old new (CommitsShowing sql params old) → Survives old new (λ _. ⊥)
commits_nothing sql params old new reads = survives_weaker old new _ _ (λ _ db. never sql params old db reads)

returns_none : (r : Result Compiled CompileError) → ((c : Compiled) → r ≡ Ok c → c.returning ≡ None) → Returns r → ⊥
returns_none (Ok c) reads some = absurd (let e = rw (reads c refl) at some in cc)
returns_none (Err e) reads some = some

module _ {S : Type 0} (g : Ghosts S) (sql : List ℕ) where
  -- these rows were given, and nothing changed
  pub record HasRead (old now : Held S) (read : List Row) : Type 0 where
    pub gave : HasGiven g sql [] now read
    pub same : IsUnchanged (state g old) (state g now)

  pub begins : (old now : Held S) → OnlyReads sql → HasBegun g sql [] old now → HasRead old now []
  begins old now only (inl h) = record { gave = h.0; same = h.1 }
  begins old now only (inr h) = absurd (returns_none _ (only old.schema) h.0)

  pub reads_more : (old mid now : Held S) (read : List Row) (row : Row) → HasRead old mid read → Advances g mid now (Some row) → IsUnchanged (state g mid) (state g now) → HasRead old now (read ++ row ∷ [])
  reads_more old mid now read row h on same = record { gave = on sql [] read h.gave; same = unchanged_then (state g old) (state g mid) (state g now) h.same same }

  -- the rows that were given are all
  pub reads_all : (old mid now : Held S) (read : List Row) → HasRead old mid read → Advances g mid now None → IsUnchanged (state g mid) (state g now) → AreShown g sql read old now
  reads_all old mid now read h on same = record { last = mid; all = on sql [] read h.gave; before = h.same; after = same }

-- and of a book's file, they are the table's
pub asks : {S A : Type 0} (g : Ghosts S) (t : Table A) (old new : Held S) (read : List Row) → AreShown g (select_text t) read old new → ShowsTable g t → Asks t read (state g old) (state g new)
asks g t old new read h shows has =
    let as_was = h.before.0.now_is in
    let mine = subst (λ (d : Database). HasTables d.schema) (sym as_was) has in (
      λ listed lists. shows h.last new read listed mine h.all (subst (λ (d : Database). Lists t d.trees listed) (sym as_was) lists),
      h.after.0.now_is ∙ as_was,
    )
