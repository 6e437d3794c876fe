-- The first day on which a test passes is found among the beginnings.
use Rattle.std.proofs.Common.{◌≡◌, ℕ, zero, suc, ◌+◌, ◌<◌, ◌≤◌, Bool, true, false, List, [], ◌∷◌, Option, Some, None, inl, inr, arith}
use Rattle.std.specs.Prelude.{◌&&◌, nat_le, nat_lt, All, IsSomeAnd}
use Rattle.std.proofs.lemmas.Bool.{cases_Bool, cond_both, Decides.nat_tests}
use Rattle.std.proofs.lemmas.Grind.{common_steps}
use Rattle.std.proofs.lemmas.List.Elements.{All-nil, All-cons, All-head, All-tail}
use Rattle.row_choice.specs.Latest.{IsRowOrder, IsLatest}
use Rattle.row_choice.specs.FirstDay.{first_day, is_within, NothingBegins, ChangesAtBeginnings, FirstDayIsABeginning}
use Rattle.row_choice.proofs.LatestLemmas.{latest-is}

-- what a search among days in a row finds: the first that passes
abbrev pub IsFirst : (ℕ → Bool) → ℕ → ℕ → Option ℕ → Type 0
IsFirst passes first count None = (day : ℕ) → first ≤ day → day < first + count → passes day ≡ false
IsFirst passes first count (Some found) =
    (first ≤ found) × (found < first + count) × (passes found ≡ true)
    × ((day : ℕ) → first ≤ day → day < found → passes day ≡ false)

-- a day that fails stands before the days that were searched
goes_on : (passes : ℕ → Bool) (first count : ℕ) → passes first ≡ false → (found : Option ℕ) →
    IsFirst passes (first + 1) count found → IsFirst passes first (suc count) found
goes_on passes first count fails found is = grind arith

pub first-is : (passes : ℕ → Bool) (first count : ℕ) → IsFirst passes first count (first_day passes first count)
first-is passes first zero = λ day from to. absurd (omega (arith, from, to))
first-is passes first (suc count) =
    cond_both (passes first) _ _ (IsFirst passes first (suc count))
    (λ is. (omega arith, omega arith, is, λ day from to. absurd (omega (arith, from, to))))
    (λ is. goes_on passes first count is (first_day passes (first + 1) count) (first-is passes (first + 1) count))

-- there is one first day at most
pub same_first : (passes : ℕ → Bool) (first count : ℕ) (found other : Option ℕ) → IsFirst passes first count found → IsFirst passes first count other → found ≡ other
same_first passes first count found other is that = grind arith

-- the last of the beginnings by a day has what each of them has, and nothing begins between
last_beginning : (P : ℕ → Type 0) (beginnings : List ℕ) (first day : ℕ) → P first → All P beginnings → first ≤ day →
    (b : ℕ) × P b × (first ≤ b) × (b ≤ day) × NothingBegins beginnings b day
last_beginning P [] first day of_first all le = (first, of_first, omega arith, le, All-nil (λ b. nat_le b first ≡ nat_le b day))
last_beginning P (c ∷ cs) first day of_first all le = by_rest (last_beginning P cs first day of_first (All-tail P c cs all) le)
  where
    -- where the first of them begins between, it is the last
    by_rest : (b : ℕ) × P b × (first ≤ b) × (b ≤ day) × NothingBegins cs b day →
        (b : ℕ) × P b × (first ≤ b) × (b ≤ day) × NothingBegins (c ∷ cs) b day
    by_rest (b, p, from, to, none) = elim (cases_Bool (nat_lt b c && nat_le c day)) [
      | inl between ↦ (
        c,
        All-head P c cs all,
        grind (arith, nat_tests),
        grind (arith, nat_tests),
        All-cons (λ x. nat_le x c ≡ nat_le x day) c cs (grind (arith, nat_tests)) (λ k d within. grind (arith, nat_tests, none k d within)),
      )
      | inr outside ↦ (b, p, from, to, All-cons (λ x. nat_le x b ≡ nat_le x day) c cs (grind (arith, nat_tests)) none)
    ]

pub earliest_order : IsRowOrder (λ (day other : ℕ). nat_lt other day)
earliest_order = record { itself = λ day. grind (arith, nat_tests); ahead = λ best day other earlier not_later. grind (arith, nat_tests) }

module _ (passes : ℕ → Bool) (beginnings : List ℕ) (first count : ℕ) (changes : ChangesAtBeginnings passes beginnings) where
  abbrev counts : ℕ → Bool
  counts day = is_within first count day && passes day

  -- where the day counts, the answer is no later
  abbrev NoLater : Option ℕ → ℕ → Type 0
  NoLater answer day = counts day ≡ true → IsSomeAnd answer (λ best. nat_lt day best ≡ false)

  -- an answer no later than the beginnings that count is no later than any day that does
  no_later : (answer : Option ℕ) → All (NoLater answer) (first ∷ beginnings) → (day : ℕ) → first ≤ day → day < first + count → passes day ≡ true →
      IsSomeAnd answer (λ best. nat_lt day best ≡ false)
  no_later answer all day from to is =
      by_beginning (last_beginning (NoLater answer) beginnings first day (All-head (NoLater answer) first beginnings all) (All-tail (NoLater answer) first beginnings all) from)
    where
      by_beginning : (b : ℕ) × NoLater answer b × (first ≤ b) × (b ≤ day) × NothingBegins beginnings b day → IsSomeAnd answer (λ best. nat_lt day best ≡ false)
      by_beginning (b, not_later, after, by, nothing) = grind (arith, nat_tests, common_steps, changes b day by nothing, not_later)

  is_first : (answer : Option ℕ) → IsLatest (λ day other. nat_lt other day) counts (first ∷ beginnings) answer → IsFirst passes first count answer
  is_first answer law = grind (arith, nat_tests, common_steps, law.among, no_later answer law.last)

pub first_day-is : FirstDayIsABeginning
first_day-is passes beginnings first count changes =
    same_first passes first count _ _ (first-is passes first count)
    (is_first passes beginnings first count changes _ (latest-is _ (counts passes beginnings first count changes) (first ∷ beginnings) earliest_order))
