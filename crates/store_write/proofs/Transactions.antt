-- A transaction that was begun, filled, and committed or undone.
use Rattle.std.proofs.Common.{◌≡◌, false, IsTrue, sym, ap, subst, ◌∙◌, inl, inr}
use Rattle.std.proofs.lemmas.Bool.{both_ways}
use Rattle.sqlite.specs.Tree.{Trees}
use Rattle.sqlite.specs.declared.error.Error.{Error}
use Rattle.sqlite.specs.{Effect.Database, Effect.IsDatabase, State.State, State.Shows, State.IsRolledBack, State.KeepsCommit, Steps.FailsToCommit}
use Rattle.book_rows.specs.declared.rows.Batch.{Batch}
use Rattle.store_sql.specs.Schema.{no_schema, HasTables}
use Rattle.store_sql.specs.Trees.{Adds}
use Rattle.store_write.specs.Effects.{Fills, Settles, Lands, AllFit, Undoes, BatchTrees, IsMade, Makes, MadeTrees, act_part, made_part, line_part}

module _ (old mid new : State) (alone : old.in_transaction ≡ false) (kept : KeepsCommit old mid) where
  pub rolled_back : (IsTrue old.is_open → old.now ≡ old.committed) → IsRolledBack mid new → Undoes old new
  rolled_back settled back = λ is_open.
      let was = back.was_open is_open in
      let first = kept.was_open was in
      (first, (back.undone is_open).0 ∙ kept.committed was ∙ sym (settled first), back.autocommit ∙ sym alone)

  -- a commit that failed has undone all
  pub not_committed : (IsTrue old.is_open → old.now ≡ old.committed) → IsTrue mid.in_transaction → (e : Error) → FailsToCommit mid new e → Undoes old new
  not_committed settled inside e (inl failed) = rolled_back settled failed.3
  not_committed settled inside e (inr late) = absurd (both_ways _ late.1 inside)

  settles : Shows mid new mid.now mid.now false → Settles old new
  settles shown = record { was_open = kept.was_open shown.was_open; is_open = shown.is_open; was_alone = alone; alone = shown.mode; settled = shown.committed_is ∙ sym shown.now_is }

  pub lands : (batch : Batch) → Fills (act_part batch.act) (made_part batch.made) (line_part batch.lines) old mid → IsDatabase mid.now → AllFit batch → (old.now.schema ≡ no_schema → ⊥) → Shows mid new mid.now mid.now false → Lands old new batch
  lands batch filled live fit known shown = record {
    settles = settles shown;
    known = known;
    schema = ap (λ (d : Database). d.schema) shown.now_is ∙ filled.schema;
    live = subst IsDatabase (sym shown.now_is) live;
    fit = fit;
    rows = λ has. subst (Adds (act_part batch.act) (made_part batch.made) (line_part batch.lines) old.now.trees) (sym (ap (λ (d : Database). d.trees) shown.now_is)) (filled.rows has);
  }

  pub makes : (old.now.schema ≡ no_schema → IsMade mid.now) → Shows mid new mid.now mid.now false → Makes old new
  makes made shown = record { settles = settles shown; made = λ none. subst IsMade (sym shown.now_is) (made none) }

-- what the commit may write
pub batch_trees : (old mid : State) (batch : Batch) (trees : Trees) → (mid.now.schema ≡ old.now.schema) → (HasTables old.now.schema → Adds (act_part batch.act) (made_part batch.made) (line_part batch.lines) old.now.trees mid.now.trees) → IsDatabase mid.now → AllFit batch → (old.now.schema ≡ no_schema → ⊥)
    → trees ≡ mid.now.trees → BatchTrees old batch trees
batch_trees old mid batch trees schema rows live fit known is = record {
  known = known;
  fit = fit;
  live = subst IsDatabase (λ i. record { schema = schema i; trees = sym is i }) live;
  rows = λ has. subst (Adds (act_part batch.act) (made_part batch.made) (line_part batch.lines) old.now.trees) (sym is) (rows has);
}

pub made_trees : (old mid : State) (trees : Trees) → IsTrue old.is_open → old.in_transaction ≡ false → (old.now.schema ≡ no_schema → IsMade mid.now) → trees ≡ mid.now.trees → MadeTrees old trees
made_trees old mid trees was_open alone made is = record {
  was_open = was_open;
  was_alone = alone;
  made = λ none. let it = made none in subst IsMade (λ i. record { schema = it.schema i; trees = sym is i }) it;
}
