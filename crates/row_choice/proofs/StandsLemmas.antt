-- What the latest row comes to in plain facts about two numbers of the rows.
use Rattle.std.proofs.Common.{◌≡◌, sym, ℕ, ◌≤◌, Bool, true, false, List, arith, refl}
use Rattle.std.specs.Prelude.{◌↔◌, Option, Some, None, filter, Contains, IsSomeAnd}
use Rattle.std.proofs.lemmas.{Bool.Decides.nat_tests}
use Rattle.std.proofs.lemmas.List.Elements.{All-contains}
use Rattle.row_choice.specs.Latest.{comes_before, latest, IsLatest}
use Rattle.row_choice.proofs.LatestLemmas.{latest-is, pairs_order}

-- The row counts, none that counts has a greater first number, and none with the same one a greater second number.
pub record IsLast {Row : Type 0} (first second : Row → ℕ) (Counts : Row → Type 0) (row : Row) : Type 0 where
  pub counts : Counts row
  pub greatest : (other : Row) → Counts other → first other ≤ first row
  pub then_greatest : (other : Row) → Counts other → first other ≡ first row → second other ≤ second row

module _ {Row : Type 0} (first second : Row → ℕ) (passes : Row → Bool) (Counts : Row → Type 0) (rows : List Row)
    (exact : (row : Row) → (Contains rows row × (passes row ≡ true)) ↔ Counts row) where
  abbrev before : Row → Row → Bool
  before row other = comes_before (first row) (second row) (first other) (second other)

  abbrev answer : Option Row
  answer = latest before (filter passes rows)

  law : IsLatest before passes rows answer
  law = latest-is before passes rows (pairs_order first second)

  -- a row that counts is no later than the answer
  not_later : (row : Row) → Counts row → IsSomeAnd answer (λ best. before best row ≡ false)
  not_later row counts =
      let held = (exact row).1 counts in
      All-contains (λ row. passes row ≡ true → IsSomeAnd answer (λ best. before best row ≡ false)) rows row law.last held.0 held.1

  -- the answer is the last of those that count
  pub latest-last : (row : Row) → answer ≡ Some row → IsLast first second Counts row
  latest-last row is = record {
    counts = (exact row).0 (rw is at law.among);
    greatest = λ other counts. (let behind = rw is at (not_later other counts) in grind (arith, nat_tests, behind));
    then_greatest = λ other counts same. (let behind = rw is at (not_later other counts) in grind (arith, nat_tests, behind));
  }

  -- and where rows that count have second numbers of their own, the last is the answer
  pub last-latest : ((row other : Row) → Counts row → Counts other → second row ≡ second other → row ≡ other) →
      (row : Row) → IsLast first second Counts row → answer ≡ Some row
  last-latest own row last = by_answer answer refl (not_later row last.counts)
    where
      by_answer : (found : Option Row) → answer ≡ found → IsSomeAnd found (λ best. before best row ≡ false) → answer ≡ Some row
      by_answer (Some best) is behind =
          let best_last = latest-last best is in
          let from = last.greatest best best_last.counts in
          let from_best = best_last.greatest row last.counts in
          let same : first best ≡ first row = omega (arith, from, from_best) in
          let second_same : second best ≡ second row = omega (arith, last.then_greatest best best_last.counts same, best_last.then_greatest row last.counts (sym same)) in
          let is_best : best ≡ row = own best row best_last.counts last.counts second_same in
          cc
      by_answer None is behind = absurd behind

  -- there is none exactly where none counts
  pub latest-none : answer ≡ None → (row : Row) → ¬ Counts row
  latest-none is row counts = rw is at (not_later row counts)

  pub none-latest : ((row : Row) → ¬ Counts row) → answer ≡ None
  none-latest none = by_answer answer refl
    where
      by_answer : (found : Option Row) → answer ≡ found → answer ≡ None
      by_answer (Some best) is = absurd (none best (latest-last best is).counts)
      by_answer None is = is
