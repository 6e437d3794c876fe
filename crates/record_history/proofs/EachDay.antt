-- The stretches of some days cover them, each with the key of each of its days and none with its neighbour's, and they alone do.
use Rattle.std.proofs.Common.{◌∙◌}
use Rattle.record_history.proofs.Words.{◌≡◌, ◌≢◌, ◌⊎◌, inl, inr, ℕ, zero, suc, ◌+◌, ◌-◌, ◌<◌, ◌≤◌, List, [], ◌∷◌, length, Bool, true, false, not, refl, ap, sym, arith, map, filter, filter_alike, ◌==◌, cases_lt, eq-eqb, ne_eqb, All, All-nil, All-cons, Stretch, begins, ends, stretches, IsOther, CoverLongest, Decides}
use Rattle.std.specs.{Prelude.zip, List.range_with_len}

-- the stretch lies between the first day and the one before the next, and has the key of each of its days
pub record IsOfItsDays {K : Type 0} (key_on : ℕ → K) (first next : ℕ) (s : Stretch K) : Type 0 where
  pub from : first ≤ s.first
  pub in_order : s.first ≤ s.last
  pub to : s.last < next
  pub key : (day : ℕ) → s.first ≤ day → day ≤ s.last → s.key ≡ key_on day

module _ {K : Type 0} (key_on : ℕ → K) where
  -- there are no more of them than days
  pub cover_few : (first next : ℕ) (xs : List (Stretch K)) → CoverLongest key_on first next xs → length xs + first ≤ next
  cover_few first next [] covers = omega arith
  cover_few first next (s ∷ rest) covers = omega (arith, covers.1, cover_few (s.last + 1) next rest covers.4)

  each_from : (first next mid : ℕ) (xs : List (Stretch K)) → first ≤ mid → CoverLongest key_on mid next xs → All (IsOfItsDays key_on first next) xs
  each_from first next mid [] low covers = All-nil (IsOfItsDays key_on first next)
  each_from first next mid (s ∷ rest) low covers =
      let few = cover_few (s.last + 1) next rest covers.4 in
      All-cons (IsOfItsDays key_on first next) s rest
      (record { from = omega arith; in_order = omega arith; to = omega arith; key = λ day from to. covers.2 day (omega (arith, from)) to })
      (each_from first next (s.last + 1) rest (omega arith) covers.4)

  pub of_their_days : (first next : ℕ) (xs : List (Stretch K)) → CoverLongest key_on first next xs → All (IsOfItsDays key_on first next) xs
  of_their_days first next xs covers = each_from first next first xs (omega arith) covers

  -- Only one list does ----

  not_longer : (first next : ℕ) (s t : Stretch K) (xs ys : List (Stretch K)) → CoverLongest key_on first next (s ∷ xs) → CoverLongest key_on first next (t ∷ ys) → t.last ≤ s.last
  not_longer first next s t [] ys covers others = omega (arith, covers.4, cover_few (t.last + 1) next ys others.4)
  not_longer first next s t (u ∷ xs) ys covers others = by_place (cases_lt s.last t.last)
    where
      by_place : (s.last < t.last) ⊎ (t.last ≤ s.last) → t.last ≤ s.last
      by_place (inl longer) =
          let low : first ≤ first = omega arith in
          let after : first ≤ s.last + 1 = omega (arith, covers.1) in
          let within : s.last + 1 ≤ t.last = omega arith in
          let start : s.last + 1 ≤ s.last + 1 = omega arith in
          absurd (covers.3 (covers.2 first low covers.1 ∙ sym (others.2 first low others.1) ∙ others.2 (s.last + 1) after within ∙ sym (covers.4.2 (s.last + 1) start covers.4.1)))
      by_place (inr within) = within

  pub only : (first next : ℕ) (xs ys : List (Stretch K)) → CoverLongest key_on first next xs → CoverLongest key_on first next ys → xs ≡ ys
  only first next [] [] covers others = refl
  only first next [] (t ∷ ys) covers others = absurd (omega (arith, covers, cover_few first next (t ∷ ys) others))
  only first next (s ∷ xs) [] covers others = absurd (omega (arith, others, cover_few first next (s ∷ xs) covers))
  only first next (s ∷ xs) (t ∷ ys) covers others =
      let last : s.last ≡ t.last = omega (arith, not_longer first next s t xs ys covers others, not_longer first next t s ys xs others covers) in
      let low : first ≤ first = omega arith in
      let key : s.key ≡ t.key = covers.2 first low covers.1 ∙ sym (others.2 first low others.1) in
      let rest : xs ≡ ys = only (s.last + 1) next xs ys covers.4 (rw last others.4) in
      let itself : s ≡ record { first = s.first; last = s.last; key = s.key } = refl in
      let other : t ≡ record { first = t.first; last = t.last; key = t.key } = refl in
      cc (covers.0, others.0, last, key, rest, itself, other)

  -- The stretches do ----

  module _ (same : K → K → Bool) (exact : (a b : K) → Decides (same a b) (a ≡ b)) (next : ℕ) where
    -- the day before has another key
    abbrev is_new : ℕ → Bool
    is_new day = not (same (key_on (day - 1)) (key_on day))

    -- the stretches from a start on, of which the first goes on to the day at least, and so many days more come after it
    abbrev from_on : ℕ → ℕ → ℕ → List (Stretch K)
    from_on start day count =
        map (λ stretch. record { first = stretch.0; last = stretch.1; key = key_on stretch.0 })
        (zip (start ∷ filter is_new (range_with_len (day + 1) count)) (filter (ends same key_on next) (range_with_len day (suc count))))

    -- what begins with another key is another
    apart : (key : K) (first : ℕ) (xs : List (Stretch K)) → CoverLongest key_on first next xs → key ≢ key_on first → IsOther key xs
    apart key first [] covers other = tt
    apart key first (t ∷ rest) covers other = λ is. (let low : first ≤ first = omega arith in other (is ∙ covers.2 first low covers.1))

    goes_on : (start day count : ℕ) → start ≤ day → ((other : ℕ) → start ≤ other → other ≤ day → key_on start ≡ key_on other) → day + suc count ≡ next →
        CoverLongest key_on start next (from_on start day count)
    goes_on start day zero low alike is =
        let last : day + 1 ≡ next = omega arith in
        rw (eq-eqb (day + 1) next last) (refl, low, alike, tt, last)
    goes_on start day (suc count) low alike is =
        let itself : day + 1 ≤ day + 1 = omega arith in
        by_test (same (key_on day) (key_on (day + 1))) refl (λ longer. goes_on start (day + 1) count (omega (arith, low)) longer (omega (arith, is)))
        (goes_on (day + 1) (day + 1) count itself (λ other from to. (let at : day + 1 ≡ other = omega (arith, from, to) in ap key_on at)) (omega (arith, is)))
      where
        back : day + 1 - 1 ≡ day
        back = omega arith

        more : (day + 1 == next) ≡ false
        more = ne_eqb (day + 1) next (λ last. absurd (omega (arith, last, is)))

        by_test : (test : Bool) → same (key_on day) (key_on (day + 1)) ≡ test →
            (((other : ℕ) → start ≤ other → other ≤ day + 1 → key_on start ≡ key_on other) → CoverLongest key_on start next (from_on start (day + 1) count)) →
            CoverLongest key_on (day + 1) next (from_on (day + 1) (day + 1) count) → CoverLongest key_on start next (from_on start day (suc count))
        by_test true e further anew = rw (back, more, e) (further longer)
          where
            longer : (other : ℕ) → start ≤ other → other ≤ day + 1 → key_on start ≡ key_on other
            longer other from to = by_place (cases_lt day other)
              where
                by_place : (day < other) ⊎ (other ≤ day) → key_on start ≡ key_on other
                by_place (inl after) =
                    let at : day + 1 ≡ other = omega arith in
                    let itself : day ≤ day = omega arith in
                    rw at at (alike day low itself ∙ (exact (key_on day) (key_on (day + 1))).0 e)
                by_place (inr within) = alike other from within
        by_test false e further anew =
            let itself : day ≤ day = omega arith in
            rw (back, more, e) (
              refl,
              low,
              alike,
              apart (key_on start) (day + 1) _ anew (λ is. (let passes = (exact (key_on day) (key_on (day + 1))).1 (sym (alike day low itself) ∙ is) in cc)),
              anew,
            )

    pub stretches_cover : (first : ℕ) → first ≤ next → CoverLongest key_on first next (stretches same key_on first next)
    stretches_cover first order = by_count (next - first) refl
      where
        -- after the first day one begins just where the key is another
        later : (mid count : ℕ) → first < mid → All (λ day. begins same key_on first day ≡ is_new day) (range_with_len mid count)
        later mid zero after = All-nil (λ (day : ℕ). begins same key_on first day ≡ is_new day)
        later mid (suc count) after =
            All-cons (λ (day : ℕ). begins same key_on first day ≡ is_new day) mid (range_with_len (mid + 1) count)
            (let other : (mid == first) ≡ false = ne_eqb mid first (λ is. absurd (omega (arith, is, after))) in rw other refl)
            (later (mid + 1) count (omega arith))

        by_count : (count : ℕ) → next - first ≡ count → CoverLongest key_on first next (stretches same key_on first next)
        by_count zero is = rw is (let all : first ≡ next = omega (arith, is) in all)
        by_count (suc count) is =
            let itself : first ≤ first = omega arith in
            rw (is, eq-eqb first first refl, filter_alike (begins same key_on first) is_new (range_with_len (first + 1) count) (later (first + 1) count (omega arith)))
            (goes_on first first count itself (λ other from to. (let at : first ≡ other = omega arith in ap key_on at)) (omega (arith, is)))
