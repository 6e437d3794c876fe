-- From the rows after a batch back to those before it.
use Rattle.std.proofs.lemmas.List.{map-append}
use Rattle.std.proofs.Common.{◌≡◌, List, [], ◌∷◌, ◌++◌, map, refl, sym, ap, ap₂, subst, subst₂, ◌∙◌, append_assoc, append-nil, IsPermutation, Bool, false, cond, find, Some}
use Rattle.std.specs.List.{AllByRecursion}
use Rattle.std.proofs.lemmas.List.Sorted.{IsPermutation-refl, IsPermutation-sym, IsPermutation-cons, IsPermutation-trans, IsPermutation-middle, IsPermutation-append_left}
use Rattle.sqlite.specs.Tree.{IsAscending}
use Rattle.sqlite_keyed.proofs.ListLemmas.{along_permutation}

module _ {X : Type 0} where
  -- an element of a list, with what stands before and after it
  pub record Splits (x : X) (others : List X) (xs : List X) : Type 0 where
    pub front : List X
    pub back : List X
    pub is : xs ≡ front ++ x ∷ back
    pub rest : IsPermutation others (front ++ back)

  -- a permutation that leaves an element somewhere
  pub record Carries (xs ys : List X) : Type 0 where
    pub same : IsPermutation xs ys
    pub each : (x : X) (front back : List X) → xs ≡ front ++ x ∷ back → Splits x (front ++ back) ys

  carries_same : (xs : List X) → Carries xs xs
  carries_same xs = record { same = IsPermutation-refl xs; each = λ x front back is. record { front = front; back = back; is = is; rest = IsPermutation-refl (front ++ back) } }

  skip_each : (a : X) (xs ys : List X) → Carries xs ys → (x : X) (front back : List X) → a ∷ xs ≡ front ++ x ∷ back → Splits x (front ++ back) (a ∷ ys)
  skip_each a xs ys h x [] back is =
      let first : a ≡ x = cc in
      let rest : xs ≡ back = cc in
      record { front = []; back = ys; is = ap (λ y. y ∷ ys) first; rest = subst (λ l. IsPermutation l ys) rest h.same }
  skip_each a xs ys h x (b ∷ front) back is =
      let first : a ≡ b = cc in
      let later : xs ≡ front ++ x ∷ back = cc in
      let it = h.each x front back later in
      record { front = a ∷ it.front; back = it.back; is = ap (λ l. a ∷ l) it.is; rest = subst (λ y. IsPermutation (y ∷ (front ++ back)) (a ∷ (it.front ++ it.back))) first (IsPermutation-cons a _ _ it.rest) }

  carries_skip : (a : X) (xs ys : List X) → Carries xs ys → Carries (a ∷ xs) (a ∷ ys)
  carries_skip a xs ys h = record { same = IsPermutation-cons a xs ys h.same; each = skip_each a xs ys h }

  turned : (a b : X) (xs : List X) → IsPermutation (a ∷ b ∷ xs) (b ∷ a ∷ xs)
  turned a b xs = IsPermutation-middle (a ∷ []) b xs

  turn_each : (a b : X) (xs : List X) (x : X) (front back : List X) → a ∷ b ∷ xs ≡ front ++ x ∷ back → Splits x (front ++ back) (b ∷ a ∷ xs)
  turn_each a b xs x [] back is =
      let first : a ≡ x = cc in
      let rest : b ∷ xs ≡ back = cc in
      record { front = b ∷ []; back = xs; is = ap (λ y. b ∷ y ∷ xs) first; rest = subst (λ l. IsPermutation l (b ∷ xs)) rest (IsPermutation-refl (b ∷ xs)) }
  turn_each a b xs x (c ∷ []) back is =
      let first : a ≡ c = cc in
      let second : b ≡ x = cc in
      let rest : xs ≡ back = cc in
      record { front = []; back = a ∷ xs; is = ap (λ y. y ∷ a ∷ xs) second; rest = subst (λ l. IsPermutation l (a ∷ xs)) (ap₂ (λ y l. y ∷ l) first rest) (IsPermutation-refl (a ∷ xs)) }
  turn_each a b xs x (c ∷ d ∷ front) back is =
      let first : a ≡ c = cc in
      let second : b ≡ d = cc in
      let rest : xs ≡ front ++ x ∷ back = cc in
      record {
        front = b ∷ a ∷ front;
        back = back;
        is = ap (λ l. b ∷ a ∷ l) rest;
        rest = subst (λ l. IsPermutation l (b ∷ a ∷ (front ++ back))) (ap₂ (λ y z. y ∷ z ∷ (front ++ back)) first second) (turned a b (front ++ back));
      }

  carries_turn : (a b : X) (xs : List X) → Carries (a ∷ b ∷ xs) (b ∷ a ∷ xs)
  carries_turn a b xs = record { same = turned a b xs; each = turn_each a b xs }

  carries_chain : (xs ys zs : List X) → Carries xs ys → Carries ys zs → Carries xs zs
  carries_chain xs ys zs one two = record {
    same = IsPermutation-trans xs ys zs one.same two.same;
    each = λ x front back is.
        let mid = one.each x front back is in
        let it = two.each x mid.front mid.back mid.is in
        record { front = it.front; back = it.back; is = it.is; rest = IsPermutation-trans _ _ _ mid.rest it.rest };
  }

  pub carries : (xs ys : List X) → IsPermutation xs ys → Carries xs ys
  carries = along_permutation Carries carries_same carries_skip carries_turn carries_chain

module _ {X Y : Type 0} (f : X → Y) where
  pub record Unmaps (front : List Y) (y : Y) (back : List Y) (xs : List X) : Type 0 where
    pub before : List X
    pub it : X
    pub after : List X
    pub is : xs ≡ before ++ it ∷ after
    pub before_is : map f before ≡ front
    pub it_is : f it ≡ y
    pub after_is : map f after ≡ back

  pub unmaps : (front : List Y) (y : Y) (back : List Y) (xs : List X) → map f xs ≡ front ++ y ∷ back → Unmaps front y back xs
  unmaps [] y back [] is = absurd (cc)
  unmaps (z ∷ front) y back [] is = absurd (cc)
  unmaps [] y back (x ∷ xs) is = record { before = []; it = x; after = xs; is = refl; before_is = refl; it_is = cc; after_is = cc }
  unmaps (z ∷ front) y back (x ∷ xs) is =
      let first : f x ≡ z = cc in
      let later : map f xs ≡ front ++ y ∷ back = cc in
      let h = unmaps front y back xs later in
      record { before = x ∷ h.before; it = h.it; after = h.after; is = ap (λ l. x ∷ l) h.is; before_is = ap₂ (λ a l. a ∷ l) first h.before_is; it_is = h.it_is; after_is = h.after_is }

module _ {X : Type 0} where
  all_less : (P : X → Type 0) (front : List X) (x : X) (back : List X) → AllByRecursion P (front ++ x ∷ back) → AllByRecursion P (front ++ back)
  all_less P [] x back h = h.1
  all_less P (y ∷ front) x back h = (h.0, all_less P front x back h.1)

  ascending_less : (R : X → X → Type 0) (front : List X) (x : X) (back : List X) → IsAscending R (front ++ x ∷ back) → IsAscending R (front ++ back)
  ascending_less R [] x back h = h.1
  ascending_less R (y ∷ front) x back h = (all_less (R y) front x back h.0, ascending_less R front x back h.1)

  find_less : (test : X → Bool) (front : List X) (x : X) (back : List X) → test x ≡ false → find test (front ++ x ∷ back) ≡ find test (front ++ back)
  find_less test [] x back h = rw h refl
  find_less test (y ∷ front) x back h = ap (λ o. cond (test y) (Some y) o) (find_less test front x back h)

  shifted : (front : List X) (x : X) (back more : List X) → IsPermutation ((front ++ back) ++ x ∷ more) ((front ++ x ∷ back) ++ more)
  shifted front x back more =
      let one = IsPermutation-middle (front ++ back) x more in
      let two : IsPermutation ((front ++ x ∷ back) ++ more) (x ∷ ((front ++ back) ++ more)) = IsPermutation-append_left more _ _ (IsPermutation-middle front x back) in
      IsPermutation-trans _ _ _ one (IsPermutation-sym _ _ two)

module _ {X Y : Type 0} (f : X → Y) (only : (a b : X) → f a ≡ f b → a ≡ b) (R : X → X → Type 0) (P : X → Type 0) where
  -- what the rows stood for before these came
  pub record Before (rows : List Y) (bs xs : List X) : Type 0 where
    pub us : List X
    pub are : IsPermutation (map f us) rows
    pub together : IsPermutation (us ++ bs) xs
    pub rise : IsAscending R us
    pub all : AllByRecursion P us
    -- a search for what none of these are finds the same
    pub finds : (test : X → Bool) → AllByRecursion (λ b. test b ≡ false) bs → find test us ≡ find test xs

  pub before : (rows : List Y) (bs xs : List X) → IsPermutation (rows ++ map f bs) (map f xs) → IsAscending R xs → AllByRecursion P xs → Before rows bs xs
  before rows [] xs same rise all =
      record { us = xs; are = IsPermutation-sym _ _ (subst (λ l. IsPermutation l (map f xs)) (append-nil rows) same); together = subst (λ l. IsPermutation l xs) (sym (append-nil xs)) (IsPermutation-refl xs); rise = rise; all = all; finds = λ test none. refl }
  before rows (b ∷ bs) xs same rise all =
      let h = before (rows ++ f b ∷ []) bs xs (subst (λ l. IsPermutation l (map f xs)) (sym (append_assoc rows (f b ∷ []) (map f bs))) same) rise all in
      let cut = (carries _ _ (IsPermutation-sym _ _ h.are)).each (f b) rows [] refl in
      let un = unmaps f cut.front (f b) cut.back h.us cut.is in
      let is : h.us ≡ un.before ++ b ∷ un.after = un.is ∙ ap (λ x. un.before ++ x ∷ un.after) (only _ _ un.it_is) in
      let images : map f (un.before ++ un.after) ≡ cut.front ++ cut.back = map-append f un.before un.after ∙ ap₂ ◌++◌ un.before_is un.after_is in
      record {
        us = un.before ++ un.after;
        are = subst₂ IsPermutation (sym images) (append-nil rows) (IsPermutation-sym _ _ cut.rest);
        together = IsPermutation-trans _ _ _ (shifted un.before b un.after bs) (subst (λ l. IsPermutation (l ++ bs) xs) is h.together);
        rise = ascending_less R un.before b un.after (subst (IsAscending R) is h.rise);
        all = all_less P un.before b un.after (subst (AllByRecursion P) is h.all);
        finds = λ test none. sym (find_less test un.before b un.after none.0) ∙ ap (find test) (sym is) ∙ h.finds test none.1;
      }
