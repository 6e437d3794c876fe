-- Before the first day that new records touch, nothing has changed.
use Rattle.voucher_core.proofs.Words.{◌≡◌, ℕ, ◌<◌, ◌≤◌, List, [], ◌∷◌, Bool, true, false, refl, ap, sym, ◌∙◌, arith, nat_tests, common_steps, All, filter, nat_le, nat_lt, ◌==◌, ◌&&◌, get_or, Option, option_map_or, list_any, or_parts, ltb-false, le-leb, lt-leb, last_of, filter_alike, filter-filter, Record, Stretch, as_of, is_live, latest, in_force, Change, Closing, changes, lines_for, month_lines, known_as_of, changed_since, touched_household, is_newly_corrected, is_touched, TouchesFrom, BeginsUntouched, IsTouchedAfter, Touched, Line, map, flat_map, All-head, All-tail}
use Rattle.voucher_core.proofs.{Covered.changes_of_days, DayShares.certified_alike, Unchanged.IsUnchanged, Unchanged.no_line, Unchanged.all_of_changed}

never : (a b : Bool) → (a && (b && false)) ≡ false
never a b = grind (arith, common_steps)

module _ (last act : ℕ) (order : last ≤ act) where
  -- where no new record passes the test, as many known ones pass it as before
  any_known : (test : Record → Bool) (records : List Record) → list_any (λ o. nat_lt last o.act && test o) records ≡ false →
      list_any test (as_of last records) ≡ list_any test (as_of act records)
  any_known test [] none = refl
  any_known test (o ∷ os) none =
      let parts = or_parts (nat_lt last o.act && test o) (list_any (λ o. nat_lt last o.act && test o) os) none in
      grind (arith, common_steps, nat_tests, parts.0, any_known test os parts.1)

  module _ (own : List Record) (first day : ℕ) (touches : TouchesFrom last own first) (before : day < first) where
    abbrev counts : ℕ → Record → Bool
    counts known r = nat_le r.act known && (is_live (as_of known own) r && nat_le r.from day)

    -- a record that isn't touched counts now where it counted before
    untouched_counts : (r : Record) → is_touched last own r ≡ false → counts last r ≡ counts act r
    untouched_counts r none =
        let parts = or_parts (nat_lt last r.act) (is_newly_corrected last own r.number) none in
        let old : r.act ≤ last = ltb-false last r.act parts.0 in
        rw (le-leb r.act last old, le-leb r.act act (omega arith), any_known (λ (o : Record). o.corrects == r.number) own parts.1)

    -- and so does one that hasn't begun
    counts_alike : All (λ r. counts last r ≡ counts act r) own
    counts_alike k d within = by_touch (is_touched last own (get_or own k d)) refl
      where
        by_touch : (touch : Bool) → is_touched last own (get_or own k d) ≡ touch → counts last (get_or own k d) ≡ counts act (get_or own k d)
        by_touch true is =
            let from : first ≤ (get_or own k d).from = touches.from k d within is in
            rw (lt-leb (get_or own k d).from day (omega arith)) (never _ _ ∙ sym (never _ _))
        by_touch false is = untouched_counts (get_or own k d) is

    counted : (known : ℕ) → in_force (as_of known own) day ≡ latest (filter (counts known) own)
    counted known =
        ap latest
        (filter-filter (λ (r : Record). nat_le r.from day) (is_live (as_of known own)) (as_of known own)
        ∙ filter-filter (λ (r : Record). is_live (as_of known own) r && nat_le r.from day) (λ (r : Record). nat_le r.act known) own)

    pub same_force : in_force (as_of last own) day ≡ in_force (as_of act own) day
    same_force = counted last ∙ ap latest (filter_alike (counts last) (counts act) own counts_alike) ∙ sym (counted act)

-- so a month that ends before it has no lines
pub none_before : (own : ℕ → List Record) (closing : Closing) → closing.last_close ≤ closing.act → (household month first : ℕ) →
    TouchesFrom closing.last_close (own household) first → last_of month < first → month_lines closing household month (known_as_of own closing.last_close household) (known_as_of own closing.act household) ≡ []
none_before own closing order household month first touches before =
    no_line closing household month (known closing.last_close) (known closing.act) (changes (known closing.last_close) (known closing.act) month) unchanged
  where
    known : ℕ → List Record
    known last = as_of last (own household)

    unchanged : All (IsUnchanged (known closing.last_close) (known closing.act) month) (changes (known closing.last_close) (known closing.act) month)
    unchanged k d within =
        let run : Stretch Change = get_or (changes (known closing.last_close) (known closing.act) month) k d in
        let is = changes_of_days (known closing.last_close) (known closing.act) month k d within in
        certified_alike (known closing.last_close) (known closing.act) month run.first run.last
        (λ day low high. ap (λ (o : Option Record). option_map_or (λ r. r.assistance) o 0)
        (same_force closing.last_close closing.act order (own household) first day touches (omega (arith, high, before, is.to))))

-- and one that ends before each of their first days has none at all
pub month_untouched : (own : ℕ → List Record) (count : ℕ) (closing : Closing) (changed : List Touched) → closing.last_close ≤ closing.act →
    map touched_household changed ≡ changed_since closing.last_close own count → All (BeginsUntouched closing.last_close own) changed →
    (month : ℕ) → All (IsTouchedAfter month) changed → lines_for (known_as_of own closing.last_close) (known_as_of own closing.act) count closing month ≡ []
month_untouched own count closing changed order same untouched month after =
    sym (all_of_changed own count closing month order) ∙ ap (flat_map of_household) (sym same) ∙ none_of changed untouched after
  where
    of_household : ℕ → List Line
    of_household h = month_lines closing h month (known_as_of own closing.last_close h) (known_as_of own closing.act h)

    none_of : (touched : List Touched) → All (BeginsUntouched closing.last_close own) touched → All (IsTouchedAfter month) touched →
        flat_map of_household (map touched_household touched) ≡ []
    none_of [] all later = refl
    none_of (t ∷ ts) all later =
        rw (none_before own closing order t.household month t.first
        (All-head (BeginsUntouched closing.last_close own) t ts all) (All-head (IsTouchedAfter month) t ts later).after)
        (none_of ts (All-tail (BeginsUntouched closing.last_close own) t ts all) (All-tail (IsTouchedAfter month) t ts later))
