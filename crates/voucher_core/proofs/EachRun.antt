-- The lines of a closing tell each run, once.
use Rattle.voucher_core.proofs.Words.{◌≡◌, inl, inr, ℕ, zero, suc, ◌+◌, ◌-◌, ◌<◌, ◌≤◌, List, [], ◌∷◌, length, true, false, pos, ◌-ℤ◌, refl, ap, sym, ◌∙◌, arith, All, Any, AllPairs, Contains, All-nil, AllPairs-filter, AllPairs-append, Contains-append_left, Contains-append_right, Contains-get_or, Contains-map, get_or, map, not, ne_eqb, eq-eqb, cond_both, false_from_ne_true, range_with_len, flat_map, int_eq, Decides-int_eq, first_of, last_of, Record, AreNumbered, as_of, number_on, Stretch, Change, Closing, Line, AreOfOne, is_first, changes, difference, line_of, month_lines, known_as_of, lines_for, adjustment_lines, closing_lines, placed, shares_of, old_on, new_on, IsLongestRun, IsPaidFor, TellsRun, ComesBefore, LinesTellEachRun}
use Rattle.list_laws.proofs.{Elements.AllPairs-map, Filters.Contains-filter, Pieces.all_pieces, Pieces.Contains-pieces, Pieces.AllPairs-pieces}
use Rattle.voucher_core.proofs.{Paid.each_passing, Paid.each_line, Settled.all_months, Settled.all_for, Settled.all_closing, Settled.nothing}
use Rattle.voucher_core.proofs.{Covered.changes_of_days, Covered.month_covered, Named.are_of_one, Named.as_of_own, Named.line_amount, Gathered.length-placed}
use Rattle.voucher_core.proofs.LongestRuns.{CoverByPairs, by_pairs, ascending, each_longest, found}

-- Places ----

placed_at : (place : ℕ) (lines : List Line) (k : ℕ) (d : Line) → k < length lines → get_or (placed place lines) k d ≡ record (get_or lines k d) { place = place + k }
placed_at place [] k d within = absurd (omega arith)
placed_at place (l ∷ lines) zero d within = (let same : place ≡ place + 0 = omega arith in ap (λ (n : ℕ). record l { place = n }) same)
placed_at place (l ∷ lines) (suc k) d within =
    let same : place + 1 + k ≡ place + suc k = omega arith in
    placed_at (place + 1) lines k d (omega arith) ∙ ap (λ (n : ℕ). record (get_or lines k d) { place = n }) same

-- Lines of a household and month ----

module _ (own : ℕ → List Record) (count : ℕ) (closing : Closing) (numbered : (household : ℕ) → AreNumbered (own household)) where
  abbrev Tells : Line → Type 0
  Tells = TellsRun own count closing

  module _ (before : ℕ → List Record) (own_before : (h : ℕ) → All (Contains (own h)) (before h)) (month : ℕ) (paid_for : IsPaidFor closing month)
      (known : (household : ℕ) → old_on own closing household month ≡ number_on (before household))
    where
      abbrev runs_of : ℕ → List (Stretch Change)
      runs_of h = changes (before h) (as_of closing.act (own h)) month

      of_one : (h : ℕ) → AreOfOne (own h) (before h) (as_of closing.act (own h))
      of_one = are_of_one own before closing.act numbered own_before

      -- its line amounts to the shares of its two records
      abbrev Amounts : ℕ → Stretch Change → Type 0
      Amounts h run =
          difference (before h) (as_of closing.act (own h)) month run
          ≡ pos (shares_of (own h) run.key.new (line_of closing h month (before h) (as_of closing.act (own h)) run)) -ℤ pos (shares_of (own h) run.key.old (line_of closing h month (before h) (as_of closing.act (own h)) run))

      amounts : (h : ℕ) → All (Amounts h) (runs_of h)
      amounts h k d within =
          line_amount (own h) (before h) (as_of closing.act (own h)) (of_one h) month (get_or (runs_of h) k d) (changes_of_days (before h) (as_of closing.act (own h)) month k d within) closing h

      covers : (h : ℕ) → CoverByPairs (number_on (before h)) (number_on (as_of closing.act (own h))) (first_of month) (last_of month + 1) (runs_of h)
      covers h = by_pairs (before h) (as_of closing.act (own h)) (first_of month) (last_of month + 1) (runs_of h) (month_covered (before h) (as_of closing.act (own h)) month)

      longest_runs : (h : ℕ) → All (λ run. IsLongestRun (old_on own closing h month) (new_on own closing h) (first_of month) (last_of month) run.first run.last run.key.old run.key.new) (runs_of h)
      longest_runs h k d within =
          rw (known h) (each_longest _ _ (first_of month) (last_of month) (first_of month) (runs_of h) (omega arith) (λ later. absurd (omega (arith, later))) (covers h) k d within)

      tells : (h : ℕ) → 1 ≤ h → h < 1 + count → All Tells (month_lines closing h month (before h) (as_of closing.act (own h)))
      tells h low high =
          each_passing Tells closing h month (before h) (as_of closing.act (own h))
          (λ k d within passes. record {
            of_act = refl;
            closes = refl;
            is_household = (low, omega (arith, high));
            is_paid_for = paid_for;
            run = longest_runs h k d within;
            amount = amounts h k d within;
            not_for_nothing = λ none. (let test = (Decides-int_eq (difference (before h) (as_of closing.act (own h)) month (get_or (runs_of h) k d)) (pos 0)).1 none in let passed = rw test at passes in cc);
          })

      pub all_tell : All Tells (lines_for before (known_as_of own closing.act) count closing month)
      all_tell = all_pieces Tells (λ (h : ℕ). month_lines closing h month (before h) (as_of closing.act (own h))) 1 count tells

      -- each run is told
      the_line : (l : Line) (run : Stretch Change) → Tells l → l.for_month ≡ month → run.first ≡ l.first → run.last ≡ l.last → run.key.old ≡ l.old → run.key.new ≡ l.new → Amounts l.household run →
          line_of closing l.household month (before l.household) (as_of closing.act (own l.household)) run ≡ record l { place = 0 }
      the_line l run is of_month first last old new amount = cc (is.of_act, is.closes, is.amount)

      pub told : (l : Line) → Tells l → l.for_month ≡ month → Contains (lines_for before (known_as_of own closing.act) count closing month) (record l { place = 0 })
      told l is of_month =
          Contains-pieces (λ (h : ℕ). month_lines closing h month (before h) (as_of closing.act (own h))) 1 count l.household (record l { place = 0 })
          is.is_household.0 (omega (arith, is.is_household.1))
          (Contains-filter (λ (m : Line). not (int_eq m.amount (pos 0))) (map (line_of closing l.household month (before l.household) (as_of closing.act (own l.household))) (runs_of l.household)) (record l { place = 0 })
          (of_run (found _ _ (first_of month) (last_of month) l.first l.last l.old l.new its_run (first_of month) (runs_of l.household) (omega arith) its_run.from (covers l.household))) passes)
        where
          passes : not (int_eq l.amount (pos 0)) ≡ true
          passes = rw (false_from_ne_true (int_eq l.amount (pos 0)) (λ zero. is.not_for_nothing ((Decides-int_eq l.amount (pos 0)).0 zero))) refl

          its_run : IsLongestRun (number_on (before l.household)) (number_on (as_of closing.act (own l.household))) (first_of month) (last_of month) l.first l.last l.old l.new
          its_run = rw (← known l.household) (rw of_month at is.run)

          of_run : Any (λ run. (run.first ≡ l.first) × (run.last ≡ l.last) × (run.key.old ≡ l.old) × (run.key.new ≡ l.new)) (runs_of l.household) →
              Contains (map (line_of closing l.household month (before l.household) (as_of closing.act (own l.household))) (runs_of l.household)) (record l { place = 0 })
          of_run (k, run, within, at, (first, last, old, new)) =
              let amount = rw at at (amounts l.household k run within) in
              rw (← the_line l run is of_month first last old new amount)
              (Contains-map (line_of closing l.household month (before l.household) (as_of closing.act (own l.household))) (runs_of l.household) run (k, within, at))

  -- they stand in the order of their households and first days
  module _ (before : ℕ → List Record) (own_before : (h : ℕ) → All (Contains (own h)) (before h)) (month : ℕ) where
    of_household : (h : ℕ) → AllPairs ComesBefore (map (line_of closing h month (before h) (as_of closing.act (own h))) (changes (before h) (as_of closing.act (own h)) month))
    of_household h =
        let runs = changes (before h) (as_of closing.act (own h)) month in
        let up = ascending _ _ (first_of month) (last_of month + 1) runs (by_pairs (before h) (as_of closing.act (own h)) (first_of month) (last_of month + 1) runs (month_covered (before h) (as_of closing.act (own h)) month)) in
        AllPairs-map ComesBefore (line_of closing h month (before h) (as_of closing.act (own h))) runs (λ i j d before within. inr (refl, inr (refl, up.1 i j d before within)))

    pub month_in_order : AllPairs ComesBefore (lines_for before (known_as_of own closing.act) count closing month)
    month_in_order =
        AllPairs-pieces (λ (l : Line). l.household) (λ (l : Line). l.for_month ≡ month) ComesBefore
        (λ (h : ℕ). month_lines closing h month (before h) (as_of closing.act (own h)))
        (λ h. each_line (λ (l : Line). (l.household ≡ h) × (l.for_month ≡ month)) closing h month (before h) (as_of closing.act (own h)) (λ run. (refl, refl)))
        (λ l m first second lower. inr (first ∙ sym second, inl lower))
        (λ h. AllPairs-filter ComesBefore (λ (l : Line). not (int_eq l.amount (pos 0))) _ (of_household h)) 1 count

  -- Lines of all months ----

  nothing_own : (household : ℕ) → All (Contains (own household)) (nothing household)
  nothing_own household = All-nil (Contains (own household))

  earlier_own : (household : ℕ) → All (Contains (own household)) (known_as_of own closing.last_close household)
  earlier_own household = as_of_own closing.last_close (own household)

  now_known : (household : ℕ) → old_on own closing household closing.closed ≡ number_on (nothing household)
  now_known household = λ i. λ day. of_day day i
    where
      of_day : (day : ℕ) → old_on own closing household closing.closed day ≡ 0
      of_day day = rw (eq-eqb closing.closed closing.closed refl) refl

  before_known : (month : ℕ) → month < closing.closed → (household : ℕ) → old_on own closing household month ≡ number_on (known_as_of own closing.last_close household)
  before_known month earlier household = λ i. λ day. of_day day i
    where
      of_day : (day : ℕ) → old_on own closing household month day ≡ number_on (as_of closing.last_close (own household)) day
      of_day day = rw (ne_eqb month closing.closed (λ same. absurd (omega (arith, same, earlier)))) refl

  abbrev earlier_lines : List Line
  earlier_lines = flat_map (lines_for (known_as_of own closing.last_close) (known_as_of own closing.act) count closing) (range_with_len closing.first_month (closing.closed - closing.first_month))

  -- where there was no closing there are none
  adjusted : (P : List Line → Type 0) → P [] → (is_first closing ≡ false → P earlier_lines) → P (adjustment_lines own count closing)
  adjusted P none some = cond_both (is_first closing) _ _ P (λ _. none) some

  earlier_tell : All Tells (adjustment_lines own count closing)
  earlier_tell =
      adjusted (All Tells) (All-nil Tells)
      (λ some. all_pieces Tells (lines_for (known_as_of own closing.last_close) (known_as_of own closing.act) count closing) closing.first_month (closing.closed - closing.first_month)
      (λ month low high. all_tell (known_as_of own closing.last_close) earlier_own month (inr (some, low, omega (arith, high))) (before_known month (omega (arith, high)))))

  closing_told : (l : Line) → Tells l → Contains (closing_lines own count closing) (record l { place = 0 })
  closing_told l is = by_month is.is_paid_for
    where
      by_month : IsPaidFor closing l.for_month → Contains (closing_lines own count closing) (record l { place = 0 })
      by_month (inl now) =
          Contains-append_right (adjustment_lines own count closing) _ _ (told nothing nothing_own closing.closed (inl refl) now_known l is now)
      by_month (inr (some, low, high)) =
          Contains-append_left (adjustment_lines own count closing) _ _
          (rw some
          (Contains-pieces (lines_for (known_as_of own closing.last_close) (known_as_of own closing.act) count closing) closing.first_month (closing.closed - closing.first_month) l.for_month (record l { place = 0 }) low (omega arith)
          (told (known_as_of own closing.last_close) earlier_own l.for_month (inr (some, low, high)) (before_known l.for_month high) l is refl)))

  closing_in_order : AllPairs ComesBefore (closing_lines own count closing)
  closing_in_order =
      AllPairs-append ComesBefore (adjustment_lines own count closing) (lines_for nothing (known_as_of own closing.act) count closing closing.closed)
      (adjusted (AllPairs ComesBefore) (λ i j d before within. absurd (omega arith))
      (λ _. AllPairs-pieces (λ (l : Line). l.for_month) (λ (l : Line). Unit {0}) ComesBefore (lines_for (known_as_of own closing.last_close) (known_as_of own closing.act) count closing)
      (λ m. all_for own count closing (known_as_of own closing.last_close) m (λ (k : ℕ). (k ≡ m) × Unit {0}) (refl, tt))
      (λ l m _ _ lower. inl lower) (month_in_order (known_as_of own closing.last_close) earlier_own) closing.first_month (closing.closed - closing.first_month)))
      (month_in_order nothing nothing_own closing.closed)
      (λ k l d first second. inl (omega (
        arith,
        all_months own count closing (λ (m : ℕ). m < closing.closed) (λ m low high. high) k d first,
        all_for own count closing nothing closing.closed (λ (m : ℕ). m ≡ closing.closed) refl l d second,
      )))

-- Places ----

module _ (place : ℕ) (lines : List Line) where
  placed_told : (l : Line) → Contains lines (record l { place = 0 }) → Any (λ told. told ≡ record l { place = told.place }) (placed place lines)
  placed_told l (k, within, at) =
      let is : get_or (placed place lines) k (record l { place = 0 }) ≡ record l { place = place + k } =
      placed_at place lines k (record l { place = 0 }) within ∙ ap (λ (m : Line). record m { place = place + k }) at in
      let there = Contains-get_or (placed place lines) k (record l { place = 0 }) (rw length-placed within) in
      (there.0, get_or (placed place lines) k (record l { place = 0 }), there.1, there.2, rw is refl)

  placed_in_order : AllPairs ComesBefore lines → AllPairs ComesBefore (placed place lines)
  placed_in_order pairs i j d before within =
      let inside : j < length lines = rw length-placed at within in
      rw (placed_at place lines i d (omega arith), placed_at place lines j d inside) (pairs i j d before inside)

pub lines_tell_each_run : LinesTellEachRun
lines_tell_each_run own count closing place numbered = record {
  each_line = all_closing own count closing (TellsRun own count closing) (λ l at tells. assumption) place
      (earlier_tell own count closing numbered)
      (all_tell own count closing numbered nothing (nothing_own own count closing numbered) closing.closed (inl refl) (now_known own count closing numbered));
  each_run = λ l is. placed_told place _ l (closing_told own count closing numbered l is);
  in_order = placed_in_order place _ (closing_in_order own count closing numbered);
  places = λ at d within. (let is = placed_at place _ at d (rw length-placed at within) in ap (λ (l : Line). l.place) is);
}
