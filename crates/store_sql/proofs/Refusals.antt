-- Why a statement on a book's file fails: an INSERT of a row, and any statement that is understood.
use Rattle.std.proofs.Common.{◌≡◌, ◌⊎◌, ℕ, zero, suc, ◌/◌, false, Bool, List, [], ◌∷◌, length, Option, None, Some, Ok, Err, Result, MatchBool, IsTrue, IsSome, is_some, subst₂, inl, inr, sym, ap, subst, ◌∙◌, cond, ◌||◌, arith, length-append, append-nil, ℤ, is_lt, int_cmp}
use Rattle.std.proofs.lemmas.Bool.{both_ways}
use Rattle.sqlite.specs.Order.{Row}
use Rattle.sqlite.specs.Term.{Term}
use Rattle.sqlite.specs.Tree.{Trees}
use Rattle.sqlite.specs.Source.TheVariants.{Values}
use Rattle.sqlite.specs.Command.{Command}
use Rattle.sqlite.specs.Command.TheVariants.{Insert}
use Rattle.sqlite.specs.Edit.{Edit, edit_of, taken_by, IsRefused, IsOversized}
use Rattle.sqlite.specs.Rowids.TheVariants.{Chosen, Above}
use Rattle.sqlite.specs.Does.{Does, OnRows}
use Rattle.sqlite.specs.Rows.{Task, stamped, count_of, Counter, CounterIn, Counts, CountsIn, Gives, sequence, Sourced}
use Rattle.sqlite.specs.Effect.{Database, value_rows, RefusesSource, is_query}
use Rattle.sqlite.specs.Schema.{Schema}
use Rattle.sqlite_schema.specs.declared.schema.Among.{Among}
use Rattle.sqlite_schema.specs.declared.schema.Keys.{Keys}
use Rattle.sqlite_schema.specs.Rules.{Refers}
use Rattle.sqlite_rules.specs.Action.{works, Leads, Writes}
use Rattle.sqlite_rules.specs.Lists.{Has}
use Rattle.sqlite_rules.specs.declared.error.Refusal.{Refusal}
use Rattle.sqlite_resolve.specs.declared.compiled.Compiled.{Compiled}
use Rattle.sqlite_trees.specs.declared.error.StoreError.TheVariants.{OutOfMemory, Io, Corrupt, Full, Broken, Unstorable}
use Rattle.sqlite.specs.declared.error.Error.{Error}
use Rattle.sqlite.specs.declared.run.Mode.{Mode}
use Rattle.sqlite.specs.Calls.{IsWrite}
use Rattle.sqlite_schema.specs.declared.command.Returning.{Returning}
use Rattle.sqlite.specs.Listing.{understood}
use Rattle.sqlite.specs.Clock.{timed}
use Rattle.sqlite.specs.State.{State, Fails, IsNotRun, ExecutesIn, ExecutesInside, EndsScope, Escapes, IsMisplaced, IsUnchanged, text_of, shows_rows, is_pragma, mode_of}
use Rattle.sqlite.proofs.Callers.{IsPlain, command_of, statement_of}
use Rattle.store_sql.specs.Takes.{IsExcused}
use Rattle.store_sql.proofs.Meanings.{tail_of, parameters_of, IsWhole}

-- ---- an INSERT of a row

sourced : (limit : Option ℕ) (db : Database) (params : Row) (terms : List Term) (width : ℕ) (stop : Option Error) → limit ≡ None → ((e : Error) → RefusesSource None db params (Values terms width) e → ⊥)
    → Sourced limit db params (Values terms width) (Err stop) → ⊥
sourced limit db params terms width None none never h = h
sourced limit db params terms width (Some e) none never h = never e (subst (λ l. RefusesSource l db params (Values terms width) e) none h)

never_both : {A E : Type 0} (e : E) (a : A) → ◌≡◌ {A = Result A E} (Err e) (Ok a) → ⊥
never_both e a h = cc

-- where no foreign key acts, a write that ends in a refusal is refused at its one step
refused_step : (schema : Schema) (keys : Keys) (db : Trees) (edit : Edit) (why : Option Refusal) → works schema keys 0 edit.table.tree (taken_by db edit) edit.news ≡ [] → Writes schema keys db edit (Err why)
    → ((it : Refusal) × IsRefused schema keys db edit it) ⊎ ((row : Row) × Has edit.news row × IsOversized schema edit.table row)
refused_step schema keys db edit why none (inl refused) = inl (refused.0, refused.1)
refused_step schema keys db edit why none (inr (inl big)) = inr (big.0, big.1, big.2)
refused_step schema keys db edit why none (inr (inr went)) = absurd (never went.2.0 (rw none at went.2.1))
  where
    never : (n : ℕ) → Leads schema keys n went.0 [] (Err why) → ⊥
    never zero h = let e = h.1 in cc
    never (suc n) h = omega (arith, ap length h.2, length-append h.0 (h.1 ∷ []))

counter_never : (task : Task) (db : Trees) (stop : Option Error) → task.table.is_counted ≡ false → Counter task db (Err stop) → ⊥
counter_never task db stop uncounted h = never_both {A = Option Row} _ _ (subst (λ b. MatchBool b (CounterIn task db (sequence task.schema) (Err stop)) (Gives {A = Option Row} None (Err stop))) uncounted h)

counts_never : (task : Task) (db : Trees) (counter : Option Row) (top : ℤ) (stop : Option Error) → task.table.is_counted ≡ false → Counts task db counter top (Err stop) → ⊥
counts_never task db counter top stop uncounted h =
    never_both _ _ (subst (λ b. MatchBool (cond b (is_lt (int_cmp (count_of counter) top)) false) (CountsIn task db counter top (sequence task.schema) (Err stop)) (Gives db (Err stop))) uncounted h)

-- A table without a counter and with no foreign key about it refuses the row itself, or has a row that is too long.
pub row_refused : (task : Task) (mode : Mode) (at : ℕ) (terms : List Term) (width : ℕ) (db : Trees) (stop : Option Error) → task.limit ≡ None → task.table.is_counted ≡ false
    → ((e : Error) → RefusesSource None (record { schema = task.schema; trees = db }) (stamped task.table task.params) (Values terms width) e → ⊥)
    → ((olds news : List Row) → works task.schema task.keys 0 task.table.tree olds news ≡ []) → ((among : Among) (trees : Trees) → Refers among task.schema trees)
    → OnRows task mode None (Insert at (Values terms width)) db (Err stop)
    → ((it : Refusal) × IsRefused task.schema task.keys db (edit_of db task.table [] Chosen 0 (value_rows (stamped task.table task.params) width (length terms / width) terms)) it)
    ⊎ ((row : Row) × Has (edit_of db task.table [] Chosen 0 (value_rows (stamped task.table task.params) width (length terms / width) terms)).news row × IsOversized task.schema task.table row)
row_refused task mode at terms width db stop unlimited uncounted never alone refers (inr done) = absurd (elim done.2 [
  | inl tested ↦ tested.1.0 (refers _ _)
  | inr held ↦ elim held.2 [
    | inl shown ↦ (let e = shown.1 in cc)
    | inr last ↦ (let e = last.2 in cc)
  ]
])
row_refused task mode at terms width db stop unlimited uncounted never alone refers (inl first) = elim first.1 [
  | inl source ↦ absurd (sourced task.limit (record { schema = task.schema; trees = db }) (stamped task.table task.params) terms width source.0 unlimited never source.1)
  | inr given ↦ elim given.2 [
    | inl counter ↦ absurd (counter_never task db counter.0 uncounted counter.1)
    | inr counting ↦ elim counting.2 [
      | inl edited ↦
          let chosen = ap (λ b. cond b (Above (count_of counting.0)) Chosen) uncounted in
          let wrote = subst (λ ids. Writes task.schema task.keys db (edit_of db task.table [] ids 0 given.0) (Err edited.1.0)) chosen edited.1.1 in
          let asked = subst (λ rows. Writes task.schema task.keys db (edit_of db task.table [] Chosen 0 rows) (Err edited.1.0)) given.1.1 wrote in
          let edit = edit_of db task.table [] Chosen 0 (value_rows (stamped task.table task.params) width (length terms / width) terms) in
          refused_step task.schema task.keys db edit edited.1.0 (alone (taken_by db edit) edit.news) asked
      | inr written ↦ absurd (elim written.2 [
        | inl counts ↦ counts_never task written.0 counting.0 _ counts.0 uncounted counts.1
        | inr last ↦ (let e = last.2 in cc)
      ])
    ]
  ]
]

-- ---- any statement

excused : (old new : State) (U : Type 0) (e : Error) → IsTrue old.is_open → Fails old new U e → IsExcused old new e ⊎ U
excused old new U e is_open (OutOfMemory, is, h, back, told) = inl (inl is)
excused old new U e is_open (Io, is, h, back, told) = inl (inr h)
excused old new U e is_open (Corrupt, is, h, back, told) = inl (inr h)
excused old new U e is_open (Full, is, h, back, told) = inl (inr h)
excused old new U e is_open (Broken, is, h, back, told) = absurd (both_ways _ h is_open)
excused old new U e is_open (Unstorable, is, h, back, told) = inr h

pub excused_alone : (old new : State) (e : Error) → IsTrue old.is_open → Fails old new ⊥ e → IsExcused old new e
excused_alone old new e is_open h = elim (excused old new ⊥ e is_open h) [ inl it ↦ it | inr none ↦ absurd none ]

module _ (sql : List ℕ) (params : Row) (old new : State) (schema : Schema) (has : old.now.schema ≡ schema) (command : Command) (is : command_of (understood schema sql) ≡ command)
    (plain : IsPlain (understood schema sql)) (fit : IsWhole schema sql (length params)) where
  known : (c : Compiled) → understood old.now.schema sql ≡ Ok c → understood schema sql ≡ Ok c
  known c h = sym (ap (λ s. understood s sql) has) ∙ h

  pub not_run : (e : Error) → IsTrue old.is_open → IsNotRun old new sql params e → IsExcused old new e
  unfolding IsNotRun
  not_run e is_open (inr failed) = excused_alone old new e is_open failed
  not_run e is_open (inl (inl fault, same)) = absurd (subst IsPlain (sym (ap (λ s. understood s sql) has) ∙ fault.1) plain)
  not_run e is_open (inl (inr it, same)) =
      let c_is = known it.0 it.1 in absurd (elim it.2 [
        | inl longer ↦ longer.0 (omega (arith, ap tail_of c_is, fit.0))
        | inr (inl fewer) ↦ fewer.0 (sym fit.1 ∙ ap parameters_of c_is)
        | inr (inr timed) ↦ timed.0 ((subst IsPlain c_is plain).1)
      ])

  abbrev Stops : Option Returning → Command → List ℕ → Row → Error → Type 0
  Stops returning what text values e =
      ((IsMisplaced old what e ⊎ ((IsWrite what ⊎ IsSome returning) × Does old.step_limit (mode_of old) values old.now text returning what (Err (Some e)))) × IsUnchanged old new)
      ⊎ Fails old new (Does old.step_limit (mode_of old) values old.now text returning what (Err None)) e

  abbrev shows : Command → Option Returning → Bool
  shows what returning = is_query what || (is_pragma what || is_some returning)

  -- a text that is a statement fails for what stops every one, or is refused for what it does
  pub fails_for : (e : Error) → IsTrue old.is_open → (IsMisplaced old command e → ⊥) → (Escapes 0 old command → ⊥) → shows command None ≡ false
      → ExecutesInside 0 sql params old new (Err e)
      → IsExcused old new e ⊎ ((stop : Option Error) × Does old.step_limit (mode_of old) params old.now (statement_of sql (understood schema sql)) None command (Err stop))
  unfolding ExecutesIn EndsScope
  fails_for e is_open placed stays none (inr ends) = absurd (stays (subst (Escapes 0 old) (sym (ap command_of (known ends.0.0 ends.0.1.is)) ∙ is) ends.0.2))
  fails_for e is_open placed stays none (inl (inl never, same)) = inl (not_run e is_open never)
  fails_for e is_open placed stays none (inl (inr it, same)) =
      let c_is = known it.0 it.1.is in
      let bare = subst IsPlain c_is plain in
      let what_is : it.0.command ≡ command = sym (ap command_of c_is) ∙ is in
      let hidden : shows_rows false it.0 ≡ false = subst₂ (λ w r. shows w r ≡ false) (sym what_is) (sym bare.0) none in
      let ran : Stops it.0.returning it.0.command (text_of sql it.0) (timed params it.0.formats it.1.now) e = rw hidden at it.2 in
      let stopped : Stops None command (statement_of sql (understood schema sql)) params e =
      subst₂ (λ w t. Stops None w t params e) what_is (sym (ap (statement_of sql) c_is)) (rw (bare.0, bare.1, append-nil params) at ran) in
      elim stopped [
        | inl refused ↦ elim refused.0 [ inl misplaced ↦ absurd (placed misplaced) | inr does ↦ inr (Some e, does.1) ]
        | inr failed ↦ elim (excused old new _ e is_open failed) [ inl it ↦ inl it | inr does ↦ inr (None, does) ]
      ]
