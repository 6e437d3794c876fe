-- The views of a history's seats, each at its place.
use Rattle.std.proofs.Common.{◌≡◌, ◌≢◌, ◌⊎◌, inl, inr, ⊎_elim, ℕ, zero, suc, List, [], ◌∷◌, ◌++◌, length, refl, ap, sym, subst}
use Rattle.std.specs.Prelude.{◌==◌, if◌then◌else◌, slice_index, slice_set}
use mathlib.Core.Option.{some, some-injective, some-ne-none}
use lib.ListN.{get_elem?}
use Rattle.std.proofs.lemmas.Bool.{eq-eqb, ne_eqb}
use Rattle.atomic_table.proofs.Lists.{at_set}
use Rattle.desk_history.specs.declared.views.View.{View}

at_end : (l : List View) (a b : View) (j : ℕ) → get_elem? (l ++ a ∷ []) j ≡ some b → (get_elem? l j ≡ some b) ⊎ ((j ≡ length l) × (a ≡ b))
at_end [] a b zero e = inr (refl, some-injective a b e)
at_end [] a b (suc j) e = absurd (some-ne-none b (sym e))
at_end (x ∷ xs) a b zero e = inl e
at_end (x ∷ xs) a b (suc j) e = ⊎_elim (λ t. inl t) (λ t. inr (ap suc t.0, t.1)) (at_end xs a b j e)

-- one view is set: the others go from F to G, and it has G
pub reset : (F G : ℕ → View → Type 0) (views : List View) (place : ℕ) (new : View) →
    ((j : ℕ) (v : View) → get_elem? views j ≡ some v → F j v) →
    ((j : ℕ) (v : View) → j ≢ place → F j v → G j v) → G place new →
    (j : ℕ) (v : View) → get_elem? (slice_set views place new) j ≡ some v → G j v
reset F G views place new all others here j v at =
    ⊎_elim
    (λ t. subst (λ (k : ℕ). G k v) (sym t.0) (subst (λ (w : View). G place w) t.1 here))
    (λ t. others j v t.0 (all j v t.1))
    (at_set views place j new v at)

-- one view is added: the others go from F to G, and it has G
pub pushed : (F G : ℕ → View → Type 0) (views : List View) (new : View) →
    ((j : ℕ) (v : View) → get_elem? views j ≡ some v → F j v) →
    ((j : ℕ) (v : View) → F j v → G j v) → G (length views) new →
    (j : ℕ) (v : View) → get_elem? (views ++ new ∷ []) j ≡ some v → G j v
pushed F G views new all others here j v at =
    ⊎_elim
    (λ t. others j v (all j v t))
    (λ t. subst (λ (k : ℕ). G k v) (sym t.0) (subst (λ (w : View). G (length views) w) t.1 here))
    (at_end views new v j at)

-- a number has another home
abbrev pub moved : ℕ → ℕ → (ℕ → ℕ) → ℕ → ℕ
moved number place home other = if other == number then place else home other

pub moved_here : (number place : ℕ) (home : ℕ → ℕ) → moved number place home number ≡ place
moved_here number place home = rw (eq-eqb number number refl) refl

pub moved_else : (number place : ℕ) (home : ℕ → ℕ) (other : ℕ) → other ≢ number → moved number place home other ≡ home other
moved_else number place home other ne = rw (ne_eqb other number ne) refl

-- the one word becomes another
pub word_set : (words : List ℕ) (n m : ℕ) (f : ℕ → ℕ) → words ≡ n ∷ [] → f n ≡ m → slice_set words 0 (f (slice_index words 0)) ≡ m ∷ []
word_set words n m f is becomes =
    subst (λ (ws : List ℕ). slice_set ws 0 (f (slice_index ws 0)) ≡ m ∷ []) (sym is) (ap (λ (k : ℕ). k ∷ []) becomes)

pub word_found : (words : List ℕ) (n : ℕ) → words ≡ n ∷ [] → slice_index words 0 ≡ n
word_found words n is = subst (λ (ws : List ℕ). slice_index ws 0 ≡ n) (sym is) refl
