-- The law of one closing.
use Rattle.voucher_core.proofs.Words.{◌≡◌, ◌≢◌, ◌⊎◌, inl, inr, ℕ, ◌+◌, ◌-◌, ◌<◌, ◌≤◌, List, [], ◌++◌, pos, ◌+ℤ◌, ◌-ℤ◌, false, ap, refl, ◌∙◌, arith, All, nat_le, nat_lt, ◌&&◌, true, ints, nat_tests, cases_lt, lt-leb, All-append, All-nil, filter-append, append-nil, sum_by-le, days_in, first_of, last_of, days, Record, as_of, day_share, share_on, is_first, Closing, Line, certified_amount, month_lines, known_as_of, lines_for, adjustment_lines, closing_lines, placed, paid, filter_none, cond_both, ClosingSettles, NothingIsSettled, SettledPaysNoOther, CertifiedStays, SettledStays}
use Rattle.list_laws.proofs.Pieces.{all_pieces}
use Rattle.voucher_core.proofs.Paid.{paid-append, paid-placed, paid_elsewhere, paid_by_one, paid_month, paid_other, each_line, all_placed}

no_share : (place days : ℕ) → day_share 0 place days ≤ 0
no_share place days = grind arith

-- where nothing is known, nothing is certified
none_certified : (month : ℕ) → certified_amount [] month ≡ 0
none_certified month =
    omega (arith, sum_by-le (share_on [] month) 0 (days (first_of month) (last_of month + 1)) (λ k d within. no_share _ (days_in month)))

-- the records of each household before it has any
abbrev pub nothing : ℕ → List Record
nothing household = []

-- Lines for one month ----

module _ (own : ℕ → List Record) (count : ℕ) (closing : Closing) where
  -- those of one household
  abbrev lines_of : (ℕ → List Record) → ℕ → ℕ → List Line
  lines_of before month h = month_lines closing h month (before h) (as_of closing.act (own h))

  -- they are all for it
  pub all_for : (before : ℕ → List Record) (month : ℕ) (P : ℕ → Type 0) → P month → All (λ l. P l.for_month) (lines_for before (known_as_of own closing.act) count closing month)
  all_for before month P p =
      all_pieces (λ (l : Line). P l.for_month) (lines_of before month) 1 count
      (λ h low high. each_line (λ (l : Line). P l.for_month) closing h month (before h) (as_of closing.act (own h)) (λ run. p))

  -- so they pay nothing for another
  paid_for_other : (before : ℕ → List Record) (household month other : ℕ) → month ≢ other → paid household other (lines_for before (known_as_of own closing.act) count closing month) ≡ pos 0
  paid_for_other before household month other apart = paid_elsewhere household other _ (all_for before month (λ (m : ℕ). m ≢ other) apart)

  -- and for it what has changed
  paid_for : ((household : ℕ) → count < household → own household ≡ []) → (before : ℕ → List Record) → ((household : ℕ) → count < household → before household ≡ []) →
      (household month : ℕ) → 1 ≤ household →
      paid household month (lines_for before (known_as_of own closing.act) count closing month)
      ≡ pos (certified_amount (as_of closing.act (own household)) month) -ℤ pos (certified_amount (before household) month)
  paid_for past before past_before household month low =
      let by_one =
      paid_by_one household month (lines_of before month) 1 count household
      (λ h apart. paid_other closing h household month (before h) (as_of closing.act (own h)) apart) in
      elim (cases_lt count household) [
        | inl after ↦
            (let none : (nat_le 1 household && nat_lt household (1 + count)) ≡ false = grind (arith, nat_tests) in
            rw (past household after, past_before household after) (omega (arith, ints, rw none at by_one)))
        | inr within ↦
            (let one : (nat_le 1 household && nat_lt household (1 + count)) ≡ true = grind (arith, nat_tests) in
            rw one at by_one ∙ paid_month closing household month (before household) (as_of closing.act (own household)))
      ]

  -- Lines for the months before ----

  -- what is true of the lines of each month
  pub all_earlier : (P : Line → Type 0) → ((month : ℕ) → closing.first_month ≤ month → month < closing.closed → All P (lines_for (known_as_of own closing.last_close) (known_as_of own closing.act) count closing month)) → All P (adjustment_lines own count closing)
  all_earlier P each =
      cond_both (is_first closing) _ _ (All P) (λ _. All-nil P)
      (λ _. all_pieces P (lines_for (known_as_of own closing.last_close) (known_as_of own closing.act) count closing) closing.first_month (closing.closed - closing.first_month) (λ month low high. each month low (omega (arith, high))))

  pub all_months : (P : ℕ → Type 0) → ((month : ℕ) → closing.first_month ≤ month → month < closing.closed → P month) → All (λ l. P l.for_month) (adjustment_lines own count closing)
  all_months P each = all_earlier (λ (l : Line). P l.for_month) (λ month low high. all_for (known_as_of own closing.last_close) month P (each month low high))

  paid_earlier : ((household : ℕ) → count < household → own household ≡ []) → (is_first closing ≡ true → closing.closed ≡ closing.first_month) →
      (household month : ℕ) → 1 ≤ household → closing.first_month ≤ month → month < closing.closed →
      paid household month (adjustment_lines own count closing)
      ≡ pos (certified_amount (as_of closing.act (own household)) month) -ℤ pos (certified_amount (as_of closing.last_close (own household)) month)
  paid_earlier past first household month low from to =
      let by_month = paid_for past (known_as_of own closing.last_close) (λ h after. ap (as_of closing.last_close) (past h after)) household month low in
      let by_one =
      paid_by_one household month (lines_for (known_as_of own closing.last_close) (known_as_of own closing.act) count closing) closing.first_month (closing.closed - closing.first_month) month
      (λ m apart. paid_for_other (known_as_of own closing.last_close) household m month apart) in
      cond_both (is_first closing) _ _ (λ lines. paid household month lines
      ≡ pos (certified_amount (as_of closing.act (own household)) month) -ℤ pos (certified_amount (as_of closing.last_close (own household)) month))
      (λ is. absurd (omega (arith, first is))) (λ _. grind (arith, nat_tests))

  -- what is true of all lines of a closing, whatever their places
  pub all_closing : (P : Line → Type 0) → ((l : Line) (place : ℕ) → P l → P (record l { place = place })) → (place : ℕ) →
      All P (adjustment_lines own count closing) → All P (lines_for nothing (known_as_of own closing.act) count closing closing.closed) →
      All P (placed place (closing_lines own count closing))
  all_closing P moves place earlier now =
      all_placed P moves place (closing_lines own count closing)
      (All-append P (adjustment_lines own count closing) (lines_for nothing (known_as_of own closing.act) count closing closing.closed) earlier now)

-- The law ----

pub closing_settles : ClosingSettles
closing_settles own count closing place lines past order first settled =
    record {
      months = λ household month low from to. by_month household month low from to (cases_lt month closing.closed);
      earlier = All-append (λ (l : Line). closing.first_month ≤ l.for_month) lines _ settled.earlier (all_new (λ (m : ℕ). closing.first_month ≤ m) (λ m low high. low));
      later = All-append (λ (l : Line). l.for_month < closing.closed + 1) lines _
          (λ k d within. omega (arith, settled.later k d within)) (all_new (λ (m : ℕ). m < closing.closed + 1) (λ m low high. high));
    }
  where
    earlier_lines : List Line
    earlier_lines = adjustment_lines own count closing

    of_month : List Line
    of_month = lines_for nothing (known_as_of own closing.act) count closing closing.closed

    new_lines : List Line
    new_lines = closing_lines own count closing

    -- the lines so far, those for earlier months and those of the closing.closed month
    split : (household month : ℕ) → paid household month (lines ++ placed place new_lines)
        ≡ paid household month lines +ℤ (paid household month earlier_lines +ℤ paid household month of_month)
    split household month =
        rw (paid-append household month lines, paid-placed household month place new_lines, paid-append household month earlier_lines)

    by_month : (household month : ℕ) → 1 ≤ household → closing.first_month ≤ month → month < closing.closed + 1 → (month < closing.closed) ⊎ (closing.closed ≤ month) →
        paid household month (lines ++ placed place new_lines) ≡ pos (certified_amount (as_of closing.act (own household)) month)
    by_month household month low from to (inl earlier) =
        let parts = split household month in
        let before = settled.months household month low from earlier in
        let adjusted = paid_earlier own count closing past first household month low from earlier in
        let now = paid_for_other own count closing nothing household closing.closed month (λ same. omega (arith, same, earlier)) in
        omega (arith, ints)
    by_month household month low from to (inr after) =
        let same : closing.closed ≡ month = omega arith in
        let parts = split household closing.closed in
        let before = paid_elsewhere household closing.closed lines (λ k d within is. omega (arith, settled.later k d within, is)) in
        let adjusted = paid_elsewhere household closing.closed earlier_lines (all_months own count closing (λ (m : ℕ). m ≢ closing.closed) (λ m low high is. omega (arith, high, is))) in
        let now = paid_for own count closing past nothing (λ h after. refl) household closing.closed low in
        rw (← same) (omega (arith, ints, none_certified closing.closed))

    all_new : (P : ℕ → Type 0) → ((month : ℕ) → closing.first_month ≤ month → month < closing.closed + 1 → P month) → All (λ l. P l.for_month) (placed place new_lines)
    all_new P each =
        all_closing own count closing (λ (l : Line). P l.for_month) (λ l at p. p) place
        (all_months own count closing P (λ month low high. each month low (omega (arith, high))))
        (all_for own count closing nothing closing.closed P (each closing.closed order (omega arith)))

pub none_settled : NothingIsSettled
none_settled own first_month act = record {
  months = λ household month low from to. absurd (omega arith);
  earlier = All-nil (λ (l : Line). first_month ≤ l.for_month);
  later = All-nil (λ (l : Line). l.for_month < first_month);
}

pub pays_no_other : SettledPaysNoOther
pays_no_other own span lines household month settled (inl before) =
    paid_elsewhere household month lines (λ k d within is. omega (arith, settled.earlier k d within, is))
pays_no_other own span lines household month settled (inr after) =
    paid_elsewhere household month lines (λ k d within is. omega (arith, settled.later k d within, is))

-- Later acts ----

-- what is known as of an act stays known
pub known_stays : (records more : List Record) (act : ℕ) → All (λ r. act < r.act) more → as_of act (records ++ more) ≡ as_of act records
known_stays records more act all =
    let unknown = filter_none (λ (r : Record). nat_le r.act act) more (λ k d within. lt-leb _ act (all k d within)) in
    rw (filter-append, unknown, append-nil)

pub certified_stays : CertifiedStays
certified_stays records more act month all = rw (known_stays records more act all)

pub settled_stays : SettledStays
settled_stays own more span lines all settled =
    record {
      months = λ household month low from to.
          rw (known_stays (own household) (more household) span.act (all household)) (settled.months household month low from to);
      earlier = settled.earlier;
      later = settled.later;
    }
