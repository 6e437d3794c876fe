-- A statement that tells of a row that it wrote leaves the schema as it was, whatever it is.
use Rattle.std.proofs.Common.{◌≡◌, ◌⊎◌, ℕ, false, List, is_some, MatchBool, Option, Some, None, Ok, Err, slice_get, sym, ap, ◌∙◌, inl, inr, arith, unwrap_or}
use Rattle.std.proofs.lemmas.Bool.{cases_Bool}
use Rattle.sqlite_value.specs.Order.{Row}
use Rattle.sqlite_schema.specs.declared.command.Command.{Command}
use Rattle.sqlite_schema.specs.declared.command.Command.TheVariants.{Select, Insert, InsertOr, Update, Delete, CreateTable, CreateIndex, DropTable, DropIndex, Rows, Begin, Commit, Rollback, Savepoint, Release, RollbackTo, Nothing, CreateView, DropView}
use Rattle.sqlite_schema.specs.declared.command.Returning.{Returning}
use Rattle.sqlite.specs.declared.error.Error.{Error}
use Rattle.sqlite.specs.Effect.{Database, IsDatabase}
use Rattle.sqlite.specs.Does.{Tally, OnRows, AtPlace, Defines, MakesIndex, Drops}
use Rattle.sqlite.specs.Rows.{Part, Task, Refuses}
use Rattle.sqlite.specs.Table.{Table}
use Rattle.sqlite.specs.Schema.{Schema}
use Rattle.sqlite.specs.declared.run.Mode.{Mode}
use Rattle.sqlite.specs.Tree.{Trees}
use Rattle.sqlite_resolve.specs.declared.error.CompileError.{CompileError}
use Rattle.sqlite.specs.Listing.{understood}
use Rattle.sqlite.specs.State.{State, Executes, ExecutesIn, Writes, Runs, text_of, shows_rows, mode_of}
use Rattle.sqlite.specs.Clock.{timed}
use Rattle.store_sql.proofs.Parts.{went, same_value}

-- the schema is the same, and the rows obey it
abbrev pub KeepsSchema : Database → Database → Type 0
KeepsSchema old new = (new.schema ≡ old.schema) × IsDatabase new

on_rows : (task : Task) (mode : Mode) (returning : Option Returning) (command : Command) (db : Trees) (tally : Tally) (after : Database) → OnRows task mode returning command db (Ok (tally, after)) → after.schema ≡ task.schema
on_rows task mode returning command db tally after h =
    let concluded = (went h).2 in
    let tested = (went concluded).2 in
    ap (λ (p : Tally × Database). p.1.schema) (same_value (went tested).2)

at_place : {X A : Type 0} (P : X → Part A) (o : Option X) (a : A) → AtPlace P o (Ok a) → (x : X) × P x (Ok a)
at_place P None a h = absurd (cc)
at_place P (Some x) a h = (x, h)

unreturned : {A : Type 0} (returning : Option Returning) (e : Error) (a : A) (R : Type 0) → MatchBool (is_some returning) (Refuses e (Ok a)) R → R
unreturned None e a R h = h
unreturned (Some what) e a R h = absurd (cc)

module _ (old new : State) (text : List ℕ) (params : Row) where
  abbrev task_on : Table → Task
  task_on table = record { limit = old.step_limit; keys = (mode_of old).keys; schema = old.now.schema; table = table; params = params }

  on_table : (at : ℕ) (P : Task → Part (Tally × Database)) (out : Tally × Database) → AtPlace (λ table. P (task_on table)) (slice_get old.now.schema.tables at) (Ok out) → (table : Table) × P (task_on table) (Ok out)
  on_table at P out h = at_place (λ table. P (task_on table)) (slice_get old.now.schema.tables at) out h

  wrote : (returning : Option Returning) (command : Command) (at : ℕ) (w : (count : ℕ) × Writes old new returning command text params count)
      → AtPlace (λ table. OnRows (task_on table) (mode_of old) returning command old.now.trees) (slice_get old.now.schema.tables at) (Ok (w.1.tally, new.now)) → KeepsSchema old.now new.now
  wrote returning command at w h =
      let it = on_table at (λ task. OnRows task (mode_of old) returning command old.now.trees) _ h in
      (on_rows (task_on it.0) (mode_of old) returning command old.now.trees w.1.tally new.now it.1, w.1.sound)

  uncounted : (returning : Option Returning) (command : Command) (count : ℕ) (w : Writes old new returning command text params count) → w.tally.rows ≡ None → count ≡ 0
  uncounted returning command count w none = w.counted ∙ ap (λ r. unwrap_or r 0) none

  abbrev db_mode : Mode
  db_mode = mode_of old

  kept : (returning : Option Returning) (command : Command) (count : ℕ) → Runs old new returning command text params count → (count ≡ 0) ⊎ KeepsSchema old.now new.now
  kept returning (Select q names) count h = absurd h
  kept returning (Insert at from) count h = inr (wrote returning (Insert at from) at (count, h) h.changed)
  kept returning (InsertOr at how from clauses) count h = inr (wrote returning (InsertOr at how from clauses) at (count, h) h.changed)
  kept returning (Update at q) count h = inr (wrote returning (Update at q) at (count, h) h.changed)
  kept returning (Delete at q) count h = inr (wrote returning (Delete at q) at (count, h) h.changed)
  kept returning CreateTable count h = inl (uncounted returning CreateTable count h (ap (λ (p : Tally × Database). p.0.rows) (same_value (went (unreturned returning _ _ _ h.changed)).2)))
  kept returning (CreateIndex at) count h =
      let it = on_table at (λ task. Defines db_mode (MakesIndex text old.now task.table)) _ (unreturned returning _ _ _ h.changed) in
      inl (uncounted returning (CreateIndex at) count h (ap (λ (p : Tally × Database). p.0.rows) (same_value (went it.1).2)))
  kept returning (DropTable at) count h =
      let it = on_table at (λ task. Drops task db_mode old.now.trees) _ (unreturned returning _ _ _ h.changed) in
      let last = (went (went (went (went it.1).2).2).2).2 in
      inl (uncounted returning (DropTable at) count h (ap (λ (p : Tally × Database). p.0.rows) (same_value last)))
  kept returning (DropIndex at) count h =
      let it = at_place _ (slice_get old.now.schema.indexes at) _ (unreturned returning _ _ _ h.changed) in
      inl (uncounted returning (DropIndex at) count h (ap (λ (p : Tally × Database). p.0.rows) (same_value (went it.1).2)))
  kept returning CreateView count h = inl (uncounted returning CreateView count h (ap (λ (p : Tally × Database). p.0.rows) (same_value (went (unreturned returning _ _ _ h.changed)).2)))
  kept returning (DropView at) count h =
      let it = at_place _ (slice_get old.now.schema.views at) _ (unreturned returning _ _ _ h.changed) in
      inl (uncounted returning (DropView at) count h (ap (λ (p : Tally × Database). p.0.rows) (same_value (went it.1).2)))
  kept returning Begin count h = inl h.3
  kept returning Commit count h = inl h.3
  kept returning Rollback count h = inl h.2
  kept returning (Savepoint name) count h = inl h.1
  kept returning (Release name) count h = inl h.3
  kept returning (RollbackTo name) count h = inl h.3
  kept returning (Rows values width names) count h = inl h.1
  kept returning Nothing count h = inl h.1

pub keeps_schema : (sql : List ℕ) (params : Row) (old new : State) → Executes sql params old new (Ok 1) → KeepsSchema old.now new.now
unfolding ExecutesIn
keeps_schema sql params old new h =
    let full = timed params h.0.formats h.1.now in
    elim (cases_Bool (shows_rows false h.0)) [
      | inl shows ↦ absurd (let e = (rw shows at h.2).0 in cc)
      | inr runs ↦ elim (kept old new (text_of sql h.0) full h.0.returning h.0.command 1 (rw runs at h.2)) [ inl none ↦ absurd (omega (arith, none)) | inr same ↦ same ]
    ]

-- a text that means nothing under a schema is not run on it
pub means_something : (sql : List ℕ) (params : Row) (old new : State) (schema : Schema) (count : ℕ) (e : CompileError) → understood schema sql ≡ Err e → Executes sql params old new (Ok count) → old.now.schema ≡ schema → ⊥
unfolding ExecutesIn
means_something sql params old new schema count e nothing h has =
    let both = sym h.1.is ∙ ap (λ s. understood s sql) has ∙ nothing in cc
