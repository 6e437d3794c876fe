-- Beginnings of one list.
use Rattle.std.proofs.Common.{◌≡◌, ◌⊎◌, inl, inr, ◌≤◌, List, [], ◌∷◌, ◌++◌, length, refl, ap, sym, subst, ◌∙◌, arith, append_assoc, length-append}
use Rattle.std.specs.Prelude.{Bool, true, false, nat_lt}
use mathlib.Core.List.{IsPrefix}
use Rattle.std.proofs.lemmas.Bool.{ltb-true, ltb-false}
use Rattle.std.proofs.lemmas.List.{append-nil}
use Rattle.book_rows.specs.declared.rows.ActRow.{ActRow}
use Rattle.desk_history.specs.Moves.{longer}

pub prefix_self : {A : Type 0} (xs : List A) → IsPrefix xs xs
prefix_self xs = ([], append-nil xs)

-- what begins a list begins it with more rows too
pub prefix_more : {A : Type 0} (xs ys zs : List A) → IsPrefix xs ys → IsPrefix xs (ys ++ zs)
prefix_more xs ys zs p = (p.0 ++ zs, sym (append_assoc xs p.0 zs) ∙ ap (λ w. w ++ zs) p.1)

-- of two beginnings of one list the shorter begins the longer
pub prefix_shorter : {A : Type 0} (xs ys zs : List A) → IsPrefix xs zs → IsPrefix ys zs → length xs ≤ length ys → IsPrefix xs ys
prefix_shorter [] ys zs p q le = (ys, refl)
prefix_shorter (x ∷ xs) [] zs p q le = absurd (omega arith)
prefix_shorter (x ∷ xs) (y ∷ ys) [] p q le = absurd (cc (p.1))
prefix_shorter (x ∷ xs) (y ∷ ys) (z ∷ zs) p q le =
    let heads : x ≡ y = cc (p.1, q.1) in
    let rest = prefix_shorter xs ys zs (p.0, cc (p.1)) (q.0, cc (q.1)) (omega arith) in
    (rest.0, cc (heads, rest.1))

pub prefix_length : {A : Type 0} (xs ys : List A) → IsPrefix xs ys → length xs ≤ length ys
prefix_length xs ys p = omega (arith, sym (ap length p.1) ∙ length-append xs p.0)

-- the longer of two beginnings of one list is a beginning of it, and each of the two begins the longer
pub record IsLonger (xs ys zs : List ActRow) : Type 0 where
  pub front : IsPrefix (longer xs ys) zs
  pub first : IsPrefix xs (longer xs ys)
  pub other : IsPrefix ys (longer xs ys)

pub longer_is : (xs ys zs : List ActRow) → IsPrefix xs zs → IsPrefix ys zs → IsLonger xs ys zs
longer_is xs ys zs p q = by_length (nat_lt (length xs) (length ys)) refl
  where
    by_length : (less : Bool) → nat_lt (length xs) (length ys) ≡ less → IsLonger xs ys zs
    by_length true is =
        let same : longer xs ys ≡ ys = rw is refl in
        record {
          front = subst (λ (w : List ActRow). IsPrefix w zs) (sym same) q;
          first = subst (λ (w : List ActRow). IsPrefix xs w) (sym same) (prefix_shorter xs ys zs p q (omega (arith, ltb-true (length xs) (length ys) is)));
          other = subst (λ (w : List ActRow). IsPrefix ys w) (sym same) (prefix_self ys);
        }
    by_length false is =
        let same : longer xs ys ≡ xs = rw is refl in
        record {
          front = subst (λ (w : List ActRow). IsPrefix w zs) (sym same) p;
          first = subst (λ (w : List ActRow). IsPrefix xs w) (sym same) (prefix_self xs);
          other = subst (λ (w : List ActRow). IsPrefix ys w) (sym same) (prefix_shorter ys xs zs q p (ltb-false (length xs) (length ys) is));
        }

-- of two beginnings of one list, the one begins the other
pub fronts_are_along : (xs ys zs : List ActRow) → IsPrefix xs zs → IsPrefix ys zs → IsPrefix xs ys ⊎ IsPrefix ys xs
fronts_are_along xs ys zs p q = by_length (nat_lt (length xs) (length ys)) refl
  where
    by_length : (less : Bool) → nat_lt (length xs) (length ys) ≡ less → IsPrefix xs ys ⊎ IsPrefix ys xs
    by_length true is = inl (prefix_shorter xs ys zs p q (omega (arith, ltb-true (length xs) (length ys) is)))
    by_length false is = inr (prefix_shorter ys xs zs q p (ltb-false (length xs) (length ys) is))
