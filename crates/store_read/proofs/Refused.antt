-- The queries on a book's file fail only for want of memory or a fault of the store.
use Rattle.std.proofs.Common.{◌≡◌, ℕ, false, List, [], None, Ok, inl, inr, sym, ap, subst, subst₂, ◌∙◌, append-nil}
use Rattle.sqlite.specs.Order.{Row}
use Rattle.sqlite.specs.Tree.{Trees}
use Rattle.sqlite_trees.specs.declared.store.Store.{Ghosts}
use Rattle.sqlite_schema.specs.declared.program.Program.{Program}
use Rattle.sqlite.specs.Command.TheVariants.{Select}
use Rattle.sqlite.specs.Effect.{Database, RefusesQuery, RefusesToRead}
use Rattle.sqlite.specs.Listing.{understood, reads_listing, IsSourceOf}
use Rattle.sqlite.specs.Held.{Held, state}
use Rattle.sqlite.specs.Given.{HasGiven, FailsToAdvance}
use Rattle.sqlite.specs.State.{State, HasCleanDisk, IsUnchanged, IsNotRun, FailsToQuery, Survives}
use Rattle.sqlite.specs.declared.error.Error.{Error}
use Rattle.sqlite.proofs.Callers.{IsPlain, command_of}
use Rattle.store_sql.specs.Tables.{Table, names, select_text}
use Rattle.sqlite.specs.Schema.{Schema}
use Rattle.store_sql.specs.Schema.{with_others, HasTables}
use Rattle.store_sql.specs.Takes.{IsExcused, IsServing}
use Rattle.store_sql.proofs.Meanings.{others_in, as_others, IsUnderstood, IsWhole, query}
use Rattle.store_sql.proofs.Refusals.{not_run}
use Rattle.store_write.specs.Effects.{Undoes}
use Rattle.store_write.proofs.Causes.{excused_from, excused_then}
use Rattle.store_read.specs.Asking.{IsRefusedByFault, IsUnreadByFault, error_of}
use Rattle.store_read.specs.declared.asking.AskFault.{AskFault}

-- ---- a query that is refused

module _ (sql : List ℕ) (old new : State) (schema : Schema) (has : old.now.schema ≡ schema) (plan : Program) (names : List (List ℕ)) (is : command_of (understood schema sql) ≡ Select plan names) (plain : IsPlain (understood schema sql)) (fit : IsWhole schema sql 0)
    (unlisted : reads_listing schema sql ≡ false) (never : (trees : Trees) (e : Error) → RefusesQuery None (record { schema = schema; trees = trees }) plan [] e → ⊥) where
  asked : (e : Error) → IsServing old → FailsToQuery sql [] old new e → IsExcused old new e
  unfolding FailsToQuery
  asked e serves (inl unrun) = not_run sql [] old new schema has (Select plan names) is plain fit e serves.is_open unrun
  asked e serves (inr it) =
      let c_is : understood schema sql ≡ Ok it.0 = sym (ap (λ s. understood s sql) has) ∙ it.1.is in
      let bare = subst IsPlain c_is plain in
      let shown = rw (bare.0, bare.1, append-nil []) at it.2 in
      let db : shown.0 ≡ old.now = subst (λ b. IsSourceOf b old.now shown.0) (ap (λ s. reads_listing s sql) has ∙ unlisted) shown.1 in
      let refused : RefusesToRead old.step_limit (Select plan names) old.now [] e = subst₂ (λ k d. RefusesToRead old.step_limit k d [] e) (sym (ap command_of c_is) ∙ is) db shown.2 in
      absurd (never old.now.trees e (subst₂ (λ l s. RefusesQuery l (record { schema = s; trees = old.now.trees }) plan [] e) serves.unlimited has refused))

module _ {A : Type 0} (t : Table A) (at : ℕ) (old new : State) (e : Error) (serves : IsServing old) (knows : IsUnderstood t at (others_in serves.schema)) where
  pub not_prepared : IsNotRun old new (select_text t) [] e → IsExcused old new e
  not_prepared = not_run (select_text t) [] old new (with_others (others_in serves.schema)) (as_others serves.schema) (Select (record { lets = []; body = query t }) (names t)) knows.select_is knows.select_plain knows.select_whole e serves.is_open

  pub asks_rows : FailsToQuery (select_text t) [] old new e → IsExcused old new e
  asks_rows = asked (select_text t) old new (with_others (others_in serves.schema)) (as_others serves.schema) (record { lets = []; body = query t }) (names t) knows.select_is knows.select_plain knows.select_whole knows.select_rows knows.select_never e serves

-- ---- a row that isn't given

-- what was served is served as long as nothing changes
pub serves_on : (a b : State) → IsServing a → IsUnchanged a b → b.step_limit ≡ a.step_limit → IsServing b
serves_on a b serves same limit = record { is_open = same.0.is_open; unlimited = limit ∙ serves.unlimited; schema = subst (λ (d : Database). HasTables d.schema) (sym same.0.now_is) serves.schema }

pub next_by_fault : {S : Type 0} (g : Ghosts S) (sql : List ℕ) (old mid new : Held S) → IsUnchanged (state g old) (state g mid) → (given : List Row) (e : Error) → IsRefusedByFault g sql → HasGiven g sql [] mid given → Survives (state g old) (state g mid) (λ _. ⊥)
    → FailsToAdvance g mid new e → IsServing (state g old) → IsExcused (state g old) (state g new) e
next_by_fault g sql old mid new same given e refused gave lives failed serves =
    excused_from (state g old) (state g mid) (state g new) e lives.counts (refused mid new e (serves_on (state g old) (state g mid) serves same lives.limit) (failed sql [] given gave))

-- ---- one table after another

pub unread_then : (a b c : State) (fault : AskFault) → Survives a b (λ _. ⊥) → Survives b c (λ _. ⊥) → HasCleanDisk b → Undoes a b → IsServing a → IsUnreadByFault b c fault → IsExcused a c (error_of fault)
unread_then a b c fault first second clean undone serves why =
    excused_then a b c (λ _. ⊥) (λ _. ⊥) (error_of fault) first second clean serves.is_open (λ is_open.
    let same = (undone is_open).1 in
    why (record { is_open = is_open; unlimited = first.limit ∙ serves.unlimited; schema = subst (λ (d : Database). HasTables d.schema) (sym same) serves.schema }))
