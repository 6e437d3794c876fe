-- What a router finds, for any routes whose parameters are whole parts: some route that fits, and one where one fits.
use Rattle.std.proofs.Common.{◌≡◌, ℕ, zero, suc, ◌-◌, ◌<◌, ◌≤◌, ◌⊎◌, inl, inr, ◌==◌, ◌&&◌, not, Bool, true, false, cond, List, [], ◌∷◌, ◌++◌, length, drop, Option, Some, None, refl, sym, ap, ◌∙◌, subst, arith, nat_eq, ltb, length-append}
use Rattle.std.specs.{Cmp.Lexicographic.pointwise, List.list_all, Prelude.is_some}
use Rattle.std.proofs.lemmas.{Bool.and_from, Bool.and_parts, Bool.and_right, Bool.both_ways, Bool.eqb-false, Bool.eqb-true, Bool.eq-eqb, Bool.lt-ltb, Bool.ltb-true, Bool.ne_eqb, Bool.not-true, Bool.true≢false, List.drop_at, List.drop_all}
use Rattle.matchit.specs.{Rows.Rows, Seek.after_param, Seek.cuts, Seek.has_slash, Seek.longest_from, Seek.or_else, Seek.own, Seek.param_step, Seek.same_text, Seek.seek, Seek.segment, Seek.step, Seek.with_suffix}
use Rattle.matchit.proofs.SeekLemmas.{seek-drop, seek-empty}
use Rattle.http_routes.specs.Paths.{part_of, behind}

-- ---- rows

-- a row of that pattern and key is there
abbrev pub Has : Rows → List ℕ → ℕ → Type 0
Has [] t k = ⊥
Has ((u, j) ∷ rows) t k = ((u ≡ t) × (j ≡ k)) ⊎ Has rows t k

-- behind a parameter the pattern is at its end or at a slash
abbrev pub ends_part : List ℕ → Bool
ends_part [] = true
ends_part (x ∷ t) = x == 47

-- each token is a byte, or a parameter that takes a whole part
abbrev pub is_plain : List ℕ → Bool
is_plain [] = true
is_plain (x ∷ t) = ltb x 257 && ((cond (x == 256) (ends_part t) true) && is_plain t)

abbrev pub AllPlain : Rows → Type 0
AllPlain [] = Unit {0}
AllPlain ((t, k) ∷ rows) = (is_plain t ≡ true) × AllPlain rows

-- what a pattern takes of a path
abbrev pub token_fits : List ℕ → List ℕ → Bool
token_fits [] [] = true
token_fits [] (b ∷ path) = false
token_fits (x ∷ t) [] = false
token_fits (x ∷ t) (b ∷ path) = cond (x == 256) (not (b == 47) && token_fits t (behind path)) (x == b && token_fits t path)

step_has : (b : ℕ) (rows : Rows) (t : List ℕ) (k : ℕ) → Has (step b rows) t k → Has rows (b ∷ t) k
step_has b [] t k has = has
step_has b (([], j) ∷ rows) t k has = inr (step_has b rows t k has)
step_has b ((x ∷ u, j) ∷ rows) t k has = by (step_has b rows t k) (x == b) refl has
  where
    by : (Has (step b rows) t k → Has rows (b ∷ t) k) → (v : Bool) → (x == b) ≡ v → Has (cond v ((u, j) ∷ step b rows) (step b rows)) t k → Has ((x ∷ u, j) ∷ rows) (b ∷ t) k
    by rest true is (inl here) = let same : x ≡ b = eqb-true x b is in inl (cc, here.1)
    by rest true is (inr there) = inr (rest there)
    by rest false is there = inr (rest there)

has_step : (b : ℕ) (rows : Rows) (t : List ℕ) (k : ℕ) → Has rows (b ∷ t) k → Has (step b rows) t k
has_step b [] t k has = has
has_step b (([], j) ∷ rows) t k (inl here) = absurd (cc)
has_step b (([], j) ∷ rows) t k (inr there) = has_step b rows t k there
has_step b ((x ∷ u, j) ∷ rows) t k has = by (has_step b rows t k) (x == b) refl has
  where
    by : (Has rows (b ∷ t) k → Has (step b rows) t k) → (v : Bool) → (x == b) ≡ v → Has ((x ∷ u, j) ∷ rows) (b ∷ t) k → Has (cond v ((u, j) ∷ step b rows) (step b rows)) t k
    by rest true is (inl here) = let same : u ≡ t = cc in inl (same, here.1)
    by rest true is (inr there) = inr (rest there)
    by rest false is (inl here) = let same : x ≡ b = cc in absurd (eqb-false x b is same)
    by rest false is (inr there) = rest there

own_has : (rows : Rows) (k : ℕ) → own rows ≡ Some k → Has rows [] k
own_has [] k is = absurd (cc)
own_has (([], j) ∷ rows) k is = inl (refl, cc)
own_has ((x ∷ t, j) ∷ rows) k is = inr (own_has rows k is)

has_own : (rows : Rows) (k : ℕ) → Has rows [] k → is_some (own rows) ≡ true
has_own [] k has = absurd has
has_own (([], j) ∷ rows) k has = refl
has_own ((x ∷ t, j) ∷ rows) k (inl here) = absurd (cc)
has_own ((x ∷ t, j) ∷ rows) k (inr there) = has_own rows k there

step_plain : (b : ℕ) (rows : Rows) → AllPlain rows → AllPlain (step b rows)
step_plain b [] all = all
step_plain b (([], j) ∷ rows) all = step_plain b rows all.1
step_plain b ((x ∷ t, j) ∷ rows) all = by (step_plain b rows all.1) (x == b)
  where
    by : AllPlain (step b rows) → (v : Bool) → AllPlain (cond v ((t, j) ∷ step b rows) (step b rows))
    by rest true = ((and_parts _ _ (and_parts (ltb x 257) _ all.0).1).1, rest)
    by rest false = rest

-- no pattern has a catch-all
no_catch_all : (rows : Rows) → AllPlain rows → step 257 rows ≡ []
no_catch_all [] all = refl
no_catch_all (([], j) ∷ rows) all = no_catch_all rows all.1
no_catch_all ((x ∷ t, j) ∷ rows) all =
    let below = ltb-true x 257 (and_parts (ltb x 257) _ all.0).0 in
    let other : (x == 257) ≡ false = ne_eqb x 257 (λ e. omega arith) in
    rw other (no_catch_all rows all.1)

-- ---- behind a parameter

abbrev AllEnd : Rows → Type 0
AllEnd [] = Unit {0}
AllEnd ((t, k) ∷ rows) = (ends_part t ≡ true) × AllEnd rows

param_ends : (rows : Rows) → AllPlain rows → AllEnd (step 256 rows)
param_ends [] all = tt
param_ends (([], j) ∷ rows) all = param_ends rows all.1
param_ends ((x ∷ t, j) ∷ rows) all = by (param_ends rows all.1) (x == 256) (and_parts _ _ (and_parts (ltb x 257) _ all.0).1).0
  where
    by : AllEnd (step 256 rows) → (v : Bool) → cond v (ends_part t) true ≡ true → AllEnd (cond v ((t, j) ∷ step 256 rows) (step 256 rows))
    by rest true ends = (ends, rest)
    by rest false ends = rest

abbrev slash_text : List ℕ
slash_text = 47 ∷ []

abbrev slash_rows : Rows → Rows
slash_rows rows = with_suffix slash_text rows

-- some pattern goes on with a slash
abbrev is_slashed : Rows → Bool
is_slashed [] = false
is_slashed (([], k) ∷ rows) = is_slashed rows
is_slashed ((x ∷ t, k) ∷ rows) = true

slash_segment : (x : ℕ) (t : List ℕ) → (x == 47) ≡ true → segment (x ∷ t) ≡ slash_text
slash_segment x t is = rw is (ap (λ (v : ℕ). v ∷ []) (eqb-true x 47 is))

-- the segment does not end with a slash behind a byte
longest_none : (seg : List ℕ) (rows : Rows) → AllEnd rows → cuts seg slash_text ≡ false → longest_from seg [] rows ≡ []
longest_none seg [] all cut = refl
longest_none seg (([], k) ∷ rows) all cut = longest_none seg rows all.1 cut
longest_none seg ((x ∷ t, k) ∷ rows) all cut = rw (slash_segment x t all.0, cut) (longest_none seg rows all.1 cut)

longest_stays : (seg : List ℕ) (rows : Rows) → AllEnd rows → longest_from seg slash_text rows ≡ slash_text
longest_stays seg [] all = refl
longest_stays seg (([], k) ∷ rows) all = longest_stays seg rows all.1
longest_stays seg ((x ∷ t, k) ∷ rows) all = rw (slash_segment x t all.0) (longest_stays seg rows all.1)

-- and where it does, the slash is taken if some pattern goes on with one
longest_slash : (seg : List ℕ) (rows : Rows) → AllEnd rows → cuts seg slash_text ≡ true
    → longest_from seg [] rows ≡ cond (is_slashed rows) slash_text []
longest_slash seg [] all cut = refl
longest_slash seg (([], k) ∷ rows) all cut = longest_slash seg rows all.1 cut
longest_slash seg ((x ∷ t, k) ∷ rows) all cut = rw (slash_segment x t all.0, cut) (longest_stays seg rows all.1)

no_slash_rows : (rows : Rows) → is_slashed rows ≡ false → slash_rows rows ≡ []
no_slash_rows [] none = refl
no_slash_rows (([], k) ∷ rows) none = no_slash_rows rows none
no_slash_rows ((x ∷ t, k) ∷ rows) none = absurd (true≢false none)

-- ---- segments

segment_slash : (path : List ℕ) → has_slash path ≡ true → segment path ≡ part_of path ++ slash_text
segment_slash [] has = absurd (true≢false (sym has))
segment_slash (b ∷ path) has = by (segment_slash path) (b == 47) refl has
  where
    by : (has_slash path ≡ true → segment path ≡ part_of path ++ slash_text) → (v : Bool) → (b == 47) ≡ v → cond v true (has_slash path) ≡ true
        → cond v (b ∷ []) (b ∷ segment path) ≡ cond v [] (b ∷ part_of path) ++ slash_text
    by rest true is h = ap (λ (x : ℕ). x ∷ []) (eqb-true b 47 is)
    by rest false is h = ap (λ (l : List ℕ). b ∷ l) (rest h)

behind_slash : (path : List ℕ) → has_slash path ≡ true → drop (length (part_of path)) path ≡ behind path
behind_slash [] has = refl
behind_slash (b ∷ path) has = by (behind_slash path) (b == 47) has
  where
    by : (has_slash path ≡ true → drop (length (part_of path)) path ≡ behind path) → (v : Bool) → cond v true (has_slash path) ≡ true
        → drop (length (cond v [] (b ∷ part_of path))) (b ∷ path) ≡ cond v (b ∷ path) (behind path)
    by rest true h = refl
    by rest false h = rest h

record NoSlash (path : List ℕ) : Type 0 where
  segment_is : segment path ≡ path
  behind_is : behind path ≡ []

no_slash : (path : List ℕ) → has_slash path ≡ false → NoSlash path
no_slash [] none = record { segment_is = refl; behind_is = refl }
no_slash (b ∷ path) none = by (no_slash path) (b == 47) refl none
  where
    by : (has_slash path ≡ false → NoSlash path) → (v : Bool) → (b == 47) ≡ v → cond v true (has_slash path) ≡ false → NoSlash (b ∷ path)
    by later true is h = absurd (true≢false h)
    by later false is h = let rest = later h in
        record { segment_is = rw is (ap (λ (l : List ℕ). b ∷ l) rest.segment_is); behind_is = rw is rest.behind_is }

last_is_no_slash : (n : ℕ) (path : List ℕ) → has_slash path ≡ false → pointwise nat_eq slash_text (drop n path) ≡ false
last_is_no_slash zero [] none = refl
last_is_no_slash (suc n) [] none = refl
last_is_no_slash zero (b ∷ path) none = by (b == 47) refl none
  where
    by : (v : Bool) → (b == 47) ≡ v → cond v true (has_slash path) ≡ false → (47 == b && pointwise nat_eq [] path) ≡ false
    by true is h = absurd (true≢false h)
    by false is h = rw (ne_eqb 47 b (λ e. eqb-false b 47 is (sym e))) refl
last_is_no_slash (suc n) (b ∷ path) none = by (last_is_no_slash n path) (b == 47) none
  where
    by : (has_slash path ≡ false → pointwise nat_eq slash_text (drop n path) ≡ false) → (v : Bool) → cond v true (has_slash path) ≡ false
        → pointwise nat_eq slash_text (drop n path) ≡ false
    by rest true h = absurd (true≢false h)
    by rest false h = rest h

-- ---- a parameter's step

slash_has : (rows : Rows) (t : List ℕ) (k : ℕ) → Has (slash_rows rows) t k → Has rows t k
slash_has [] t k has = has
slash_has ((u, j) ∷ rows) t k has = by (slash_has rows t k) (same_text (segment u) slash_text) has
  where
    by : (Has (slash_rows rows) t k → Has rows t k) → (v : Bool) → Has (cond v ((u, j) ∷ slash_rows rows) (slash_rows rows)) t k → Has ((u, j) ∷ rows) t k
    by rest true (inl here) = inl here
    by rest true (inr there) = inr (rest there)
    by rest false there = inr (rest there)

has_slash_rows : (rows : Rows) (x : ℕ) (t : List ℕ) (k : ℕ) → (x == 47) ≡ true → Has rows (x ∷ t) k → Has (slash_rows rows) (x ∷ t) k
has_slash_rows [] x t k is has = has
has_slash_rows ((u, j) ∷ rows) x t k is has = by (has_slash_rows rows x t k is) (same_text (segment u) slash_text) refl has
  where
    by : (Has rows (x ∷ t) k → Has (slash_rows rows) (x ∷ t) k) → (v : Bool) → same_text (segment u) slash_text ≡ v → Has ((u, j) ∷ rows) (x ∷ t) k → Has (cond v ((u, j) ∷ slash_rows rows) (slash_rows rows)) (x ∷ t) k
    by rest true same (inl here) = inl here
    by rest true same (inr there) = inr (rest there)
    by rest false same (inl here) =
        let taken : same_text (segment (x ∷ t)) slash_text ≡ true = rw (slash_segment x t is) refl in
        absurd (both_ways _ (subst (λ (l : List ℕ). same_text (segment l) slash_text ≡ false) here.0 same) taken)
    by rest false same (inr there) = rest there

slash_plain : (rows : Rows) → AllPlain rows → AllPlain (slash_rows rows)
slash_plain [] all = all
slash_plain ((u, j) ∷ rows) all = by (slash_plain rows all.1) (same_text (segment u) slash_text)
  where
    by : AllPlain (slash_rows rows) → (v : Bool) → AllPlain (cond v ((u, j) ∷ slash_rows rows) (slash_rows rows))
    by rest true = (all.0, rest)
    by rest false = rest

-- a part that a slash follows
after_slashed : (rows : Rows) (b : ℕ) (path : List ℕ) → AllEnd rows → (b == 47) ≡ false → has_slash path ≡ true
    → after_param rows (b ∷ path) ≡ seek 0 (slash_rows rows) (behind path)
unfolding param_step
after_slashed rows b path all other has = by (is_slashed rows) refl
  where
    seg : segment (b ∷ path) ≡ b ∷ (part_of path ++ slash_text)
    seg = rw (other, segment_slash path has) refl

    ends : drop (length (part_of path ++ slash_text)) (b ∷ (part_of path ++ slash_text)) ≡ slash_text
    ends = drop_at (b ∷ part_of path) slash_text (length (part_of path ++ slash_text)) (omega (arith, length-append (part_of path) slash_text))

    cut : cuts (b ∷ (part_of path ++ slash_text)) slash_text ≡ true
    cut = and_from _ _ (lt-ltb 1 (suc (length (part_of path ++ slash_text))) (omega (arith, length-append (part_of path) slash_text))) (ends_true (length (b ∷ (part_of path ++ slash_text)) - 1) (omega arith))
      where
        ends_true : (n : ℕ) → n ≡ length (part_of path ++ slash_text) → pointwise nat_eq slash_text (drop n (b ∷ (part_of path ++ slash_text))) ≡ true
        ends_true n is = rw (is, ends) refl

    longest : longest_from (b ∷ (part_of path ++ slash_text)) [] rows ≡ cond (is_slashed rows) slash_text []
    longest = longest_slash (b ∷ (part_of path ++ slash_text)) rows all cut

    by : (v : Bool) → is_slashed rows ≡ v → after_param rows (b ∷ path) ≡ seek 0 (slash_rows rows) (behind path)
    by true is =
        let skipped : length (b ∷ (part_of path ++ slash_text)) - 1 - 1 ≡ length (part_of path) = omega (arith, length-append (part_of path) slash_text) in
        rw (seg, longest, is, skipped) (seek-drop (length (part_of path)) (slash_rows rows) path ∙ ap (seek 0 (slash_rows rows)) (behind_slash path has))
    by false is = rw (seg, longest, is, other, has, no_slash_rows rows is) (seek-empty 0 path ∙ sym (seek-empty 0 (behind path)))

-- a part at the end of the path
after_last : (rows : Rows) (b : ℕ) (path : List ℕ) → AllEnd rows → (b == 47) ≡ false → has_slash path ≡ false
    → after_param rows (b ∷ path) ≡ own rows
unfolding param_step seek
after_last rows b path all other none =
    let whole : has_slash (b ∷ path) ≡ false = rw other none in
    let seg : segment (b ∷ path) ≡ b ∷ path = (no_slash (b ∷ path) whole).segment_is in
    let cut : cuts (b ∷ path) slash_text ≡ false = and_right _ _ (last_is_no_slash (length (b ∷ path) - 1) (b ∷ path) whole) in
    let longest : longest_from (b ∷ path) [] rows ≡ [] = longest_none (b ∷ path) rows all cut in
    let skipped : length (b ∷ path) - 1 ≡ length path = omega arith in
    rw (seg, longest, whole, skipped) (seek-drop (length path) rows path ∙ ap (seek 0 rows) (drop_all (length path) path (omega arith)))

-- no part is empty
after_slash : (rows : Rows) (b : ℕ) (path : List ℕ) → AllEnd rows → (b == 47) ≡ true → after_param rows (b ∷ path) ≡ None
unfolding param_step
after_slash rows b path all is =
    let longest : longest_from (b ∷ []) [] rows ≡ [] = longest_none (b ∷ []) rows all refl in
    rw (is, longest) (seek-empty 0 path)

-- ---- the two theorems

or_else_cases : (x y : Option ℕ) (k : ℕ) → or_else x y ≡ Some k → (x ≡ Some k) ⊎ (y ≡ Some k)
or_else_cases None y k is = inr is
or_else_cases (Some x) y k is = inl is

or_else_left : (x y : Option ℕ) → is_some x ≡ true → is_some (or_else x y) ≡ true
or_else_left None y some = absurd (true≢false (sym some))
or_else_left (Some x) y some = refl

or_else_right : (x y : Option ℕ) → is_some y ≡ true → is_some (or_else x y) ≡ true
or_else_right None y some = some
or_else_right (Some x) y some = refl

abbrev pub are_bytes : List ℕ → Bool
are_bytes path = list_all (λ b. ltb b 256) path

behind_bytes : (path : List ℕ) → are_bytes path ≡ true → are_bytes (behind path) ≡ true
behind_bytes [] all = refl
behind_bytes (b ∷ path) all = by (behind_bytes path (and_parts _ _ all).1) (b == 47)
  where
    by : are_bytes (behind path) ≡ true → (v : Bool) → are_bytes (cond v (b ∷ path) (behind path)) ≡ true
    by rest true = all
    by rest false = rest

behind_short : (path : List ℕ) → length (behind path) ≤ length path
behind_short [] = omega arith
behind_short (b ∷ path) = by (behind_short path) (b == 47)
  where
    by : length (behind path) ≤ length path → (v : Bool) → length (cond v (b ∷ path) (behind path)) ≤ suc (length path)
    by rest true = omega arith
    by rest false = omega arith

behind_not_empty : (path : List ℕ) → has_slash path ≡ true → token_fits [] (behind path) ≡ true → ⊥
behind_not_empty [] has fit = true≢false (sym has)
behind_not_empty (b ∷ path) has fit = by (behind_not_empty path) (b == 47) has fit
  where
    by : (has_slash path ≡ true → token_fits [] (behind path) ≡ true → ⊥) → (v : Bool) → cond v true (has_slash path) ≡ true
        → token_fits [] (cond v (b ∷ path) (behind path)) ≡ true → ⊥
    by rest true h f = true≢false (sym f)
    by rest false h f = rest h f

has_end : (rows : Rows) (t : List ℕ) (k : ℕ) → AllEnd rows → Has rows t k → ends_part t ≡ true
has_end [] t k all has = absurd has
has_end ((u, j) ∷ rows) t k all (inl here) = subst (λ (l : List ℕ). ends_part l ≡ true) here.0 all.0
has_end ((u, j) ∷ rows) t k all (inr there) = has_end rows t k all.1 there

-- a row whose pattern fits
pub record Fits (rows : Rows) (path : List ℕ) (k : ℕ) : Type 0 where
  pub pattern : List ℕ
  pub has : Has rows pattern k
  pub fits : token_fits pattern path ≡ true

byte_fits : (b : ℕ) (t path : List ℕ) → b < 256 → token_fits t path ≡ true → token_fits (b ∷ t) (b ∷ path) ≡ true
byte_fits b t path small fit = rw (ne_eqb b 256 (λ e. omega arith), eq-eqb b b refl) fit

-- what is found fits
pub found_fits : (n : ℕ) (path : List ℕ) (rows : Rows) (k : ℕ) → length path ≤ n → AllPlain rows → are_bytes path ≡ true
    → seek 0 rows path ≡ Some k → Fits rows path k
unfolding seek
found_fits n [] rows k short plain bytes found = record { pattern = []; has = own_has rows k found; fits = refl }
found_fits zero (b ∷ path) rows k short plain bytes found = absurd (omega arith)
found_fits (suc n) (b ∷ path) rows k short plain bytes found = by (found_fits n) (or_else_cases _ _ k found)
  where
    params : Rows
    params = step 256 rows

    less : length path ≤ n
    less = omega arith

    small : b < 256
    small = ltb-true b 256 (and_parts (ltb b 256) (are_bytes path) bytes).0

    rest : are_bytes path ≡ true
    rest = (and_parts (ltb b 256) (are_bytes path) bytes).1

    param_fits : (t : List ℕ) → Has params t k → (b == 47) ≡ false → token_fits t (behind path) ≡ true → Fits rows (b ∷ path) k
    param_fits t has other fit = record { pattern = 256 ∷ t; has = step_has 256 rows t k has; fits = rw (other) fit }

    Earlier : Type 0
    Earlier = (path : List ℕ) (rows : Rows) (k : ℕ) → length path ≤ n → AllPlain rows → are_bytes path ≡ true → seek 0 rows path ≡ Some k → Fits rows path k

    by_param : Earlier → (v w : Bool) → (b == 47) ≡ v → has_slash path ≡ w → after_param params (b ∷ path) ≡ Some k → Fits rows (b ∷ path) k
    by_param earlier true w is slashed p = let none = sym (after_slash params b path (param_ends rows plain) is) ∙ p in absurd (cc none)
    by_param earlier false true is slashed p =
        let inner = earlier (behind path) (slash_rows params) k (omega (arith, behind_short path, less)) (slash_plain params (step_plain 256 rows plain)) (behind_bytes path rest)
        (sym (after_slashed params b path (param_ends rows plain) is slashed) ∙ p) in
        param_fits inner.pattern (slash_has params inner.pattern k inner.has) is inner.fits
    by_param earlier false false is none p =
        param_fits [] (own_has params k (sym (after_last params b path (param_ends rows plain) is none) ∙ p)) is
        (rw ((no_slash path none).behind_is) refl)

    by_rest : Earlier → (after_param params (b ∷ path) ≡ Some k) ⊎ (own (step 257 rows) ≡ Some k) → Fits rows (b ∷ path) k
    by_rest earlier (inl p) = by_param earlier (b == 47) (has_slash path) refl refl p
    by_rest earlier (inr p) = let none = ap own (sym (no_catch_all rows plain)) ∙ p in absurd (cc none)

    by : Earlier → (seek 0 (step b rows) path ≡ Some k) ⊎ (or_else (after_param params (b ∷ path)) (own (step 257 rows)) ≡ Some k) → Fits rows (b ∷ path) k
    by earlier (inl p) =
        let inner = earlier path (step b rows) k less (step_plain b rows plain) rest p in
        record { pattern = b ∷ inner.pattern; has = step_has b rows inner.pattern k inner.has; fits = byte_fits b inner.pattern path small inner.fits }
    by earlier (inr p) = by_rest earlier (or_else_cases _ _ k p)

-- and where one fits, one is found
pub fitting_found : (n : ℕ) (path : List ℕ) (rows : Rows) (t : List ℕ) (k : ℕ) → length path ≤ n → AllPlain rows → are_bytes path ≡ true
    → Has rows t k → token_fits t path ≡ true → is_some (seek 0 rows path) ≡ true
unfolding seek
fitting_found n [] rows [] k short plain bytes has fit = has_own rows k has
fitting_found n [] rows (x ∷ t) k short plain bytes has fit = absurd (true≢false (sym fit))
fitting_found zero (b ∷ path) rows t k short plain bytes has fit = absurd (omega arith)
fitting_found (suc n) (b ∷ path) rows [] k short plain bytes has fit = absurd (true≢false (sym fit))
fitting_found (suc n) (b ∷ path) rows (x ∷ t) k short plain bytes has fit = by (fitting_found n) (x == 256) refl fit
  where
    params : Rows
    params = step 256 rows

    less : length path ≤ n
    less = omega arith

    rest : are_bytes path ≡ true
    rest = (and_parts (ltb b 256) (are_bytes path) bytes).1

    Earlier : Type 0
    Earlier = (path : List ℕ) (rows : Rows) (t : List ℕ) (k : ℕ) → length path ≤ n → AllPlain rows → are_bytes path ≡ true → Has rows t k → token_fits t path ≡ true → is_some (seek 0 rows path) ≡ true

    behind_some : Earlier → (u : List ℕ) → has_slash path ≡ true → Has params u k → token_fits u (behind path) ≡ true → is_some (seek 0 (slash_rows params) (behind path)) ≡ true
    behind_some earlier [] slashed here f = absurd (behind_not_empty path slashed f)
    behind_some earlier (y ∷ u) slashed here f =
        earlier (behind path) (slash_rows params) (y ∷ u) k (omega (arith, behind_short path, less)) (slash_plain params (step_plain 256 rows plain)) (behind_bytes path rest)
        (has_slash_rows params y u k (has_end params (y ∷ u) k (param_ends rows plain) here) here) f

    last_some : (u : List ℕ) → Has params u k → token_fits u [] ≡ true → is_some (own params) ≡ true
    last_some [] here f = has_own params k here
    last_some (y ∷ u) here f = absurd (true≢false (sym f))

    by_param : Earlier → (w : Bool) → (b == 47) ≡ false → has_slash path ≡ w → Has params t k → token_fits t (behind path) ≡ true → is_some (after_param params (b ∷ path)) ≡ true
    by_param earlier true other slashed here f = rw (after_slashed params b path (param_ends rows plain) other slashed) (behind_some earlier t slashed here f)
    by_param earlier false other none here f =
        rw (after_last params b path (param_ends rows plain) other none)
        (last_some t here (subst (λ (l : List ℕ). token_fits t l ≡ true) (no_slash path none).behind_is f))

    by : Earlier → (v : Bool) → (x == 256) ≡ v → cond v (not (b == 47) && token_fits t (behind path)) (x == b && token_fits t path) ≡ true
        → is_some (or_else (seek 0 (step b rows) path) (or_else (after_param params (b ∷ path)) (own (step 257 rows)))) ≡ true
    by earlier true is f =
        let both = and_parts _ _ f in
        let here : Has params t k = has_step 256 rows t k (subst (λ (v : ℕ). Has rows (v ∷ t) k) (eqb-true x 256 is) has) in
        or_else_right (seek 0 (step b rows) path) _ (or_else_left (after_param params (b ∷ path)) (own (step 257 rows)) (by_param earlier (has_slash path) (not-true _ both.0) refl here both.1))
    by earlier false is f =
        let both = and_parts _ _ f in
        let here : Has (step b rows) t k = has_step b rows t k (subst (λ (v : ℕ). Has rows (v ∷ t) k) (eqb-true x b both.0) has) in
        or_else_left (seek 0 (step b rows) path) _ (earlier path (step b rows) t k less (step_plain b rows plain) rest here both.1)
