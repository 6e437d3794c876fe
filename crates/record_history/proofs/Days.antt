-- More days of one key in stretches of days.
use Rattle.record_history.proofs.Words.{◌≡◌, ◌≢◌, ◌⊎◌, inl, inr, ℕ, ◌+◌, ◌-◌, ◌<◌, ◌≤◌, List, [], ◌∷◌, ◌++◌, length, get_or, set, Bool, true, false, refl, ap, sym, ◌∙◌, arith, cases_lt, Stretch, stretches, IsOther, CoverLongest, Decides}
use Rattle.record_history.proofs.EachDay.{only, stretches_cover}

module _ {K : Type 0} (key_on : ℕ → K) (next last : ℕ) (order : next ≤ last) (key : K) (alike : (day : ℕ) → next ≤ day → day ≤ last → key_on day ≡ key) where
  -- the newest stretch goes on to the last day where it has their key
  module _ (newest : Stretch K) (has : newest.key ≡ key) where
    abbrev longer : Stretch K
    longer = record newest { last = last }

    still_other : (k : K) (s : Stretch K) (rest : List (Stretch K)) → newest ≡ get_or (s ∷ rest) (length rest) newest → IsOther k (s ∷ rest) → IsOther k (set (s ∷ rest) (length rest) longer)
    still_other k s [] is other = rw is other
    still_other k s (t ∷ rest) is other = other

    joined : (first : ℕ) (s : Stretch K) (rest : List (Stretch K)) → newest ≡ get_or (s ∷ rest) (length rest) newest → CoverLongest key_on first next (s ∷ rest) →
        CoverLongest key_on first (last + 1) (set (s ∷ rest) (length rest) longer)
    joined first s [] is covers = (ap (λ (t : Stretch K). t.first) is ∙ covers.0, omega (arith, covers.1, covers.4), λ day from to. by_place day from to (cases_lt s.last day), tt, refl)
      where
        by_place : (day : ℕ) → first ≤ day → day ≤ last → (s.last < day) ⊎ (day ≤ s.last) → newest.key ≡ key_on day
        by_place day from to (inl after) = has ∙ sym (alike day (omega (arith, covers.4)) to)
        by_place day from to (inr within) = ap (λ (t : Stretch K). t.key) is ∙ covers.2 day from within
    joined first s (t ∷ rest) is covers = (covers.0, covers.1, covers.2, still_other s.key t rest is covers.3, joined (s.last + 1) t rest is covers.4)

  -- and else they are one of their own
  abbrev added : Stretch K
  added = record { first = next; last = last; key = key }

  begun : (newest : Stretch K) (other : newest.key ≢ key) (first : ℕ) (s : Stretch K) (rest : List (Stretch K)) → newest ≡ get_or (s ∷ rest) (length rest) newest →
      CoverLongest key_on first next (s ∷ rest) → CoverLongest key_on first (last + 1) (s ∷ rest ++ added ∷ [])
  begun newest other first s [] is covers =
      (covers.0, covers.1, covers.2, λ same. other (ap (λ (t : Stretch K). t.key) is ∙ same), (sym covers.4, omega (arith, covers.4), λ day from to. sym (alike day (omega (arith, from, covers.4)) to), tt, refl))
  begun newest other first s (t ∷ rest) is covers = (covers.0, covers.1, covers.2, covers.3, begun newest other (s.last + 1) t rest is covers.4)

  begun_first : (first : ℕ) → first ≡ next → CoverLongest key_on first (last + 1) (added ∷ [])
  begun_first first is = (sym is, omega arith, λ day from to. sym (alike day (omega arith) to), tt, refl)

  -- so the stretches of the days before them become those of all
  module _ (same : K → K → Bool) (exact : (a b : K) → Decides (same a b) (a ≡ b)) (start : ℕ) (low : start ≤ next) where
    are_all : (xs : List (Stretch K)) → CoverLongest key_on start (last + 1) xs → xs ≡ stretches same key_on start (last + 1)
    are_all xs covers = only key_on start (last + 1) xs _ covers (stretches_cover key_on same exact (last + 1) start (omega arith))

    module _ (days : List (Stretch K)) (is : days ≡ stretches same key_on start next) where
      covered : CoverLongest key_on start next days
      covered = rw is (stretches_cover key_on same exact next start low)

      pub joins : (n : ℕ) (newest : Stretch K) → n ≡ length days → 0 < n → newest ≡ get_or days (n - 1) newest → same newest.key key ≡ true →
          set days (n - 1) (record newest { last = last }) ≡ stretches same key_on start (last + 1)
      joins n newest count some at test = of_list days count at covered
        where
          of_list : (xs : List (Stretch K)) → n ≡ length xs → newest ≡ get_or xs (n - 1) newest → CoverLongest key_on start next xs →
              set xs (n - 1) (record newest { last = last }) ≡ stretches same key_on start (last + 1)
          of_list [] count at covers = absurd (omega arith)
          of_list (s ∷ rest) count at covers =
              let place : n - 1 ≡ length rest = omega (arith, count) in
              rw place (are_all _ (joined newest ((exact newest.key key).0 test) start s rest (rw place at at) covers))

      pub begins : (n : ℕ) (newest : Stretch K) → n ≡ length days → 0 < n → newest ≡ get_or days (n - 1) newest → same newest.key key ≡ false →
          days ++ added ∷ [] ≡ stretches same key_on start (last + 1)
      begins n newest count some at test = of_list days count at covered
        where
          of_list : (xs : List (Stretch K)) → n ≡ length xs → newest ≡ get_or xs (n - 1) newest → CoverLongest key_on start next xs →
              xs ++ added ∷ [] ≡ stretches same key_on start (last + 1)
          of_list [] count at covers = absurd (omega arith)
          of_list (s ∷ rest) count at covers =
              let place : n - 1 ≡ length rest = omega (arith, count) in
              are_all _ (begun newest (λ is. (let passes = (exact newest.key key).1 is in cc)) start s rest (rw place at at) covers)

      pub begins_first : length days ≡ 0 → days ++ added ∷ [] ≡ stretches same key_on start (last + 1)
      begins_first none = of_list days none covered
        where
          of_list : (xs : List (Stretch K)) → length xs ≡ 0 → CoverLongest key_on start next xs → xs ++ added ∷ [] ≡ stretches same key_on start (last + 1)
          of_list [] count covers = are_all _ (begun_first start covers)
          of_list (s ∷ rest) count covers = absurd (omega arith)
