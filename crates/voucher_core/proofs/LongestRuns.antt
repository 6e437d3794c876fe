-- Runs that cover some days with their pairs are the longest runs of these days, and all of them.
use Rattle.voucher_core.proofs.Words.{◌≡◌, ◌⊎◌, inl, inr, ℕ, suc, ◌+◌, ◌-◌, ◌<◌, ◌≤◌, List, [], ◌∷◌, refl, ap, sym, ◌∙◌, arith, All, Any, AllPairs, All-nil, All-cons, All-weaker, AllPairs-cons, cases_lt, Stretch, Change, Record, number_on, change_on, CoverLongest, IsOther, HasPair, IsLongestRun}

-- the next run, if any, has another old or another new record
abbrev pub IsOtherPair : Change → List (Stretch Change) → Type 0
IsOtherPair key [] = Unit {0}
IsOtherPair key (next ∷ rest) = ¬ ((key.old ≡ next.key.old) × (key.new ≡ next.key.new))

-- the runs cover their days, and each names the records of each of its days
abbrev pub CoverByPairs : (ℕ → ℕ) → (ℕ → ℕ) → ℕ → ℕ → List (Stretch Change) → Type 0
CoverByPairs old_on new_on first next [] = first ≡ next
CoverByPairs old_on new_on first next (run ∷ rest) =
    (run.first ≡ first) × (first ≤ run.last)
    × ((day : ℕ) → first ≤ day → day ≤ run.last → (run.key.old ≡ old_on day) × (run.key.new ≡ new_on day))
    × IsOtherPair run.key rest × CoverByPairs old_on new_on (run.last + 1) next rest

module _ (old new : List Record) where
  other_pair : (key : Change) (rest : List (Stretch Change)) → IsOther key rest → IsOtherPair key rest
  other_pair key [] other = tt
  other_pair key (next ∷ rest) other = λ same.
      let itself : key ≡ record { old = key.old; new = key.new } = refl in
      let its : next.key ≡ record { old = next.key.old; new = next.key.new } = refl in
      other (cc (same.0, same.1, itself, its))

  pub by_pairs : (first next : ℕ) (runs : List (Stretch Change)) → CoverLongest (change_on old new) first next runs → CoverByPairs (number_on old) (number_on new) first next runs
  by_pairs first next [] covers = covers
  by_pairs first next (run ∷ rest) covers = (
    covers.0,
    covers.1,
    λ day low high. (ap (λ (c : Change). c.old) (covers.2 day low high), ap (λ (c : Change). c.new) (covers.2 day low high)),
    other_pair run.key rest covers.3,
    by_pairs (run.last + 1) next rest covers.4,
  )

module _ (old_on new_on : ℕ → ℕ) where
  covers_up : (first next : ℕ) (runs : List (Stretch Change)) → CoverByPairs old_on new_on first next runs → first ≤ next
  covers_up first next [] covers = omega arith
  covers_up first next (run ∷ rest) covers = omega (arith, covers.1, covers_up (run.last + 1) next rest covers.4)

  -- they come one after another
  pub ascending : (first next : ℕ) (runs : List (Stretch Change)) → CoverByPairs old_on new_on first next runs →
      All (λ run. first ≤ run.first) runs × AllPairs (λ run later. run.first < later.first) runs
  ascending first next [] covers = (All-nil (λ (run : Stretch Change). first ≤ run.first), λ i j d before within. absurd (omega arith))
  ascending first next (run ∷ rest) covers =
      let later = ascending (run.last + 1) next rest covers.4 in (
        All-cons (λ (run : Stretch Change). first ≤ run.first) run rest (omega (arith, covers.0))
            (All-weaker (λ (r : Stretch Change). run.last + 1 ≤ r.first) (λ r. first ≤ r.first) (λ r past. omega (arith, past, covers.1)) rest later.0),
        AllPairs-cons (λ (run later : Stretch Change). run.first < later.first) run rest
            (All-weaker (λ (r : Stretch Change). run.last + 1 ≤ r.first) (λ r. run.first < r.first) (λ r past. omega (arith, past, covers.0, covers.1)) rest later.0)
            later.1,
      )

  module _ (lowest highest : ℕ) where
    abbrev IsLongest : Stretch Change → Type 0
    IsLongest run = IsLongestRun old_on new_on lowest highest run.first run.last run.key.old run.key.new

    -- the day before has another pair
    abbrev Begins : ℕ → Type 0
    Begins first = lowest < first → ¬ (HasPair old_on new_on (old_on first) (new_on first) (first - 1))

    longest : (first : ℕ) (run : Stretch Change) (rest : List (Stretch Change)) → lowest ≤ first → Begins first → CoverByPairs old_on new_on first (highest + 1) (run ∷ rest) →
        (run.last < highest → ¬ (HasPair old_on new_on run.key.old run.key.new (run.last + 1))) → IsLongest run
    longest first run rest from begins covers after =
        let here = covers.2 first (omega arith) covers.1 in
        record {
          from = omega (arith, covers.0);
          in_order = omega (arith, covers.0, covers.1);
          to = omega (arith, covers_up (run.last + 1) (highest + 1) rest covers.4);
          on_each = λ day low high. (let on = covers.2 day (omega (arith, low, covers.0)) high in (sym on.0, sym on.1));
          before = rw covers.0 (λ later pair. begins later (pair.0 ∙ here.0, pair.1 ∙ here.1));
          after = after;
        }

    pub each_longest : (first : ℕ) (runs : List (Stretch Change)) → lowest ≤ first → Begins first → CoverByPairs old_on new_on first (highest + 1) runs → All IsLongest runs
    each_longest first [] from begins covers = All-nil IsLongest
    each_longest first (run ∷ []) from begins covers =
        All-cons IsLongest run [] (longest first run [] from begins covers (λ more. absurd (omega (arith, more, covers.4)))) (All-nil IsLongest)
    each_longest first (run ∷ next ∷ rest) from begins covers =
        let last = covers.2 run.last covers.1 (omega arith) in
        let there = covers.4.2 (run.last + 1) (omega arith) covers.4.1 in
        let back : run.last + 1 - 1 ≡ run.last = omega arith in
        All-cons IsLongest run (next ∷ rest)
        (longest first run (next ∷ rest) from begins covers (λ more pair. covers.3 (sym (there.0 ∙ pair.0), sym (there.1 ∙ pair.1))))
        (each_longest (run.last + 1) (next ∷ rest) (omega (arith, covers.1))
        (rw back (λ later pair. covers.3 (last.0 ∙ pair.0 ∙ sym there.0, last.1 ∙ pair.1 ∙ sym there.1))) covers.4)

    module _ (first last old new : ℕ) (is : IsLongestRun old_on new_on lowest highest first last old new) where
      abbrev pub IsThat : Stretch Change → Type 0
      IsThat run = (run.first ≡ first) × (run.last ≡ last) × (run.key.old ≡ old) × (run.key.new ≡ new)

      -- the run on its first day begins with it
      same_first : (mid : ℕ) (run : Stretch Change) → lowest ≤ mid → mid ≤ first → first ≤ run.last →
          ((day : ℕ) → mid ≤ day → day ≤ run.last → (run.key.old ≡ old_on day) × (run.key.new ≡ new_on day)) → mid ≡ first
      same_first mid run low from within on = by_place (cases_lt mid first)
        where
          by_place : (mid < first) ⊎ (first ≤ mid) → mid ≡ first
          by_place (inl later) =
              let there = on (first - 1) (omega arith) (omega arith) in
              let here = on first from within in
              let pair = is.on_each first (omega arith) is.in_order in
              absurd (is.before (omega arith) (sym there.0 ∙ here.0 ∙ pair.0, sym there.1 ∙ here.1 ∙ pair.1))
          by_place (inr at) = omega arith

      -- and ends with it
      not_longer : (run : Stretch Change) → first ≤ run.last → run.last ≤ highest →
          ((day : ℕ) → first ≤ day → day ≤ run.last → (run.key.old ≡ old_on day) × (run.key.new ≡ new_on day)) → run.last ≤ last
      not_longer run within to on = by_place (cases_lt last run.last)
        where
          by_place : (last < run.last) ⊎ (run.last ≤ last) → run.last ≤ last
          by_place (inl later) =
              let there = on (last + 1) (omega (arith, is.in_order)) (omega arith) in
              let here = on first (omega arith) within in
              let pair = is.on_each first (omega arith) is.in_order in
              absurd (is.after (omega arith) (sym there.0 ∙ here.0 ∙ pair.0, sym there.1 ∙ here.1 ∙ pair.1))
          by_place (inr at) = at

      not_shorter : (run : Stretch Change) (rest : List (Stretch Change)) → CoverByPairs old_on new_on first (highest + 1) (run ∷ rest) → last ≤ run.last
      not_shorter run [] covers = omega (arith, is.to, covers.4)
      not_shorter run (next ∷ rest) covers = by_place (cases_lt run.last last)
        where
          by_place : (run.last < last) ⊎ (last ≤ run.last) → last ≤ run.last
          by_place (inl shorter) =
              let here = covers.2 run.last covers.1 (omega arith) in
              let there = covers.4.2 (run.last + 1) (omega arith) covers.4.1 in
              let pair = is.on_each run.last covers.1 (omega arith) in
              let later = is.on_each (run.last + 1) (omega (arith, covers.1)) (omega arith) in
              absurd (covers.3 (here.0 ∙ pair.0 ∙ sym later.0 ∙ sym there.0, here.1 ∙ pair.1 ∙ sym later.1 ∙ sym there.1))
          by_place (inr at) = at

      -- so it is among them
      pub found : (mid : ℕ) (runs : List (Stretch Change)) → lowest ≤ mid → mid ≤ first → CoverByPairs old_on new_on mid (highest + 1) runs → Any IsThat runs
      found mid [] low from covers = absurd (omega (arith, is.in_order, is.to, covers))
      found mid (run ∷ rest) low from covers = by_place (cases_lt run.last first) (λ past. found (run.last + 1) rest (omega (arith, covers.1)) past covers.4)
        where
          later : Any IsThat rest → Any IsThat (run ∷ rest)
          later (k, that, within, at, same) = (suc k, that, omega arith, at, same)

          by_place : (run.last < first) ⊎ (first ≤ run.last) → (run.last + 1 ≤ first → Any IsThat rest) → Any IsThat (run ∷ rest)
          by_place (inl past) others = later (others (omega arith))
          by_place (inr within) others =
              let begins : mid ≡ first = same_first mid run low from within covers.2 in
              let covers' : CoverByPairs old_on new_on first (highest + 1) (run ∷ rest) = rw begins at covers in
              let to : run.last ≤ highest = omega (arith, covers_up (run.last + 1) (highest + 1) rest covers.4) in
              let long = not_longer run within to covers'.2 in
              let short = not_shorter run rest covers' in
              let here = covers'.2 first (omega arith) within in
              let pair = is.on_each first (omega arith) is.in_order in
              (0, run, omega arith, refl, (covers'.0, omega arith, here.0 ∙ pair.0, here.1 ∙ pair.1))
