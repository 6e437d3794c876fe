-- What a SELECT of a whole table shows: its rows in the order of their keys.
use Rattle.std.proofs.Common.{◌≡◌, ℕ, List, [], ◌∷◌, map, refl, sym, ap, subst, ◌∙◌, Less, IsPermutation, IsSorted}
use Rattle.std.proofs.lemmas.List.Sorted.{IsPermutation-trans, IsPermutation-map}
use Rattle.sqlite.specs.declared.types.Value.TheVariants.{Null}
use Rattle.sqlite_value.specs.Order.{Row}
use Rattle.sqlite.specs.Query.{Query, Output, output, output_cmp, IsAnswer}
use Rattle.sqlite.specs.Program.{overlay}
use Rattle.sqlite_sql.proofs.QueryLemmas.{output_cmp_total}
use Rattle.sqlite_keyed.proofs.SortLemmas.{sorted_unique}
use Rattle.sqlite_keyed.proofs.ListLemmas.{ascending-map, ascending_weaker, map-map, map_same}
use Rattle.sqlite_schema.specs.declared.schema.Schema.{Schema}
use Rattle.sqlite.specs.Listing.{understood}
use Rattle.sqlite.specs.State.{State, Shown, IsUnchanged}
use Rattle.sqlite.proofs.Callers.{IsPlain, reads_as}
use Rattle.store_sql.specs.Tables.{Table, select_text}
use Rattle.store_sql.specs.Schema.{Others, with_others}
use Rattle.store_sql.specs.Trees.{shown, by_key, Rises, Lists}
use Rattle.store_sql.proofs.Meanings.{IsUnderstood, query, env, stages, listed_row}

each_stage : (q : Query) (rows : List Row) → map (output q) (stages rows) ≡ map (λ r. output q (env r)) rows
each_stage q [] = refl
each_stage q (r ∷ rows) = ap (λ l. output q (env r) ∷ l) (each_stage q rows)

pub all_same : {X : Type 0} (xs : List X) → map (λ x. x) xs ≡ xs
all_same [] = refl
all_same (x ∷ xs) = ap (λ l. x ∷ l) (all_same xs)

-- a query that writes nothing leaves all as it was
pub leaves_all : (sql : List ℕ) (params : Row) (old new : State) (schema : Schema) (rows : List Row) → old.now.schema ≡ schema → IsPlain (understood schema sql) → Shown sql params old new rows → IsUnchanged old new
unfolding Shown
leaves_all sql params old new schema rows has plain h =
    let known = sym h.1.is ∙ ap (λ s. understood s sql) has in
    let bare = subst IsPlain (sym known) plain in
    (rw bare.0 at h.2).3

module _ {A : Type 0} (t : Table A) (at : ℕ) (others : Others) (knows : IsUnderstood t at others) where
  -- Of the orders of rows with no ties, one is sorted.
  in_order : (stored rows : List Row) (ordered : List Output) → IsPermutation rows (map (shown t) stored) → Rises (by_key t) rows → IsPermutation (map (λ r. output (query t) (env r)) stored) ordered
      → IsSorted (output_cmp (query t)) ordered → map (λ (o : Output). o.1) ordered ≡ rows
  in_order stored rows ordered are rise same sorted =
      let q = query t in
      let each = map_same (λ r. output q (env r)) (λ r. listed_row t (shown t r)) knows.listed_is stored ∙ sym (map-map (listed_row t) (shown t) stored) in
      let mine = IsPermutation-trans _ _ _ (IsPermutation-map (listed_row t) _ _ are) (subst (λ l. IsPermutation l ordered) each same) in
      let up = ascending-map (λ a b. output_cmp q a b ≡ Less) (listed_row t) rows (ascending_weaker (λ a b. by_key t a b ≡ Less) _ (λ a b less. knows.order_is a b ∙ less) rows rise) in
      let only = sorted_unique (output_cmp q) (output_cmp_total q) (map (listed_row t) rows) ordered up mine sorted in
      ap (map (λ (o : Output). o.1)) only ∙ map-map (λ (o : Output). o.1) (listed_row t) rows ∙ all_same rows

  pub shows_rows : (old new : State) (given rows : List Row) → old.now.schema ≡ with_others others → Shown (select_text t) [] old new given → Lists t old.now.trees rows → given ≡ rows
  shows_rows old new given rows has h lists =
      let q = query t in
      let a : IsAnswer q (overlay old.now.trees []) [] given = (reads_as (select_text t) [] old new (with_others others) has _ knows.select_is knows.select_plain knows.select_rows given h).answer Null in
      let kept = a.distinct ∙ ap (map (output q)) (a.grouped ∙ knows.staged old.now.trees) ∙ each_stage q (old.now.trees t.tree) in
      a.shown ∙ in_order (old.now.trees t.tree) rows a.ordered lists.are lists.rise (subst (λ k. IsPermutation k a.ordered) kept a.same) a.sorted
