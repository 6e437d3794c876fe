-- The elements of one number, among those of earlier numbers and those of a later one.
use Rattle.std.proofs.Common.{◌≡◌, ◌∙◌, ap, ap₂, ℕ, ◌<◌, ◌==◌, arith, Bool, true, false, List, ◌++◌, Option, All, filter, find, append-nil, eq-eqb}
use Rattle.std.specs.Option.{option_or}
use Rattle.std.proofs.lemmas.{Bool.ne_eqb, List.Elements.All-weaker, List.Elements.filter-append, List.Folds.find-append}
use Rattle.list_laws.proofs.{Filters.filter_all, Filters.filter_none, Finds.find_fails, Options.option_or-none}

module _ {X : Type 0} (n : X → ℕ) where
  abbrev of : ℕ → X → Bool
  of k x = n x == k

  none_earlier : (act : ℕ) (xs : List X) → All (λ x. n x < act) xs → All (λ x. of act x ≡ false) xs
  none_earlier act xs before =
      All-weaker (λ x. n x < act) (λ x. of act x ≡ false) (λ x less. ne_eqb (n x) act (λ same. absurd (omega (arith, less, same)))) xs before

  none_later : (k act : ℕ) (ys : List X) → k < act → All (λ y. n y ≡ act) ys → All (λ y. of k y ≡ false) ys
  none_later k act ys before own =
      All-weaker (λ y. n y ≡ act) (λ y. of k y ≡ false) (λ y is. ne_eqb (n y) k (λ same. absurd (omega (arith, before, is, same)))) ys own

  -- where more elements have a later number, those of an earlier one are the same
  pub filter_earlier : (k act : ℕ) (xs ys : List X) → k < act → All (λ y. n y ≡ act) ys → filter (of k) (xs ++ ys) ≡ filter (of k) xs
  filter_earlier k act xs ys before own =
      filter-append (of k) xs ys
      ∙ ap (λ (later : List X). filter (of k) xs ++ later) (filter_none (of k) ys (none_later k act ys before own))
      ∙ append-nil (filter (of k) xs)

  pub find_earlier : (k act : ℕ) (xs ys : List X) → k < act → All (λ y. n y ≡ act) ys → find (of k) (xs ++ ys) ≡ find (of k) xs
  find_earlier k act xs ys before own =
      find-append (of k) xs ys
      ∙ ap (option_or (find (of k) xs)) (find_fails (of k) ys (none_later k act ys before own))
      ∙ option_or-none (find (of k) xs)

  -- and those of the later number are the new ones
  pub filter_last : (act : ℕ) (xs ys : List X) → All (λ x. n x < act) xs → All (λ y. n y ≡ act) ys → filter (of act) (xs ++ ys) ≡ ys
  filter_last act xs ys before own =
      filter-append (of act) xs ys
      ∙ ap₂ (λ (earlier later : List X). earlier ++ later) (filter_none (of act) xs (none_earlier act xs before))
      (filter_all (of act) ys (All-weaker (λ y. n y ≡ act) (λ y. of act y ≡ true) (λ y is. eq-eqb (n y) act is) ys own))

  pub find_last : (act : ℕ) (xs ys : List X) → All (λ x. n x < act) xs → find (of act) (xs ++ ys) ≡ find (of act) ys
  find_last act xs ys before =
      find-append (of act) xs ys
      ∙ ap (λ (found : Option X). option_or found (find (of act) ys)) (find_fails (of act) xs (none_earlier act xs before))
