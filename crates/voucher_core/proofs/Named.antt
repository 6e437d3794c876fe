-- Each line of a closing names its pair.
use Rattle.voucher_core.proofs.Words.{common_steps, ◌≡◌, ℕ, ◌+◌, ◌-◌, ◌<◌, ◌≤◌, List, get_or, pos, ◌-ℤ◌, true, Option, Some, None, refl, ap, arith, All, IfSome, find, not, ◌==◌, ne_eqb, eq-eqb, Decides-int_eq, Record, as_of, in_force, AreNumbered, int_eq, days_in, first_of, last_of, Stretch, Change, Closing, Line, day_share, run_share, assistance_on, share_on, certified_on, change_on, changes, difference, line_of, month_lines, known_as_of, known_before, lines_for, adjustment_lines, closing_lines, placed, IsOfItsDays, option_map_or, number_on, in_force_among, assistance_of, shares_of, NamesItsPair, NameTheirPairs, LinesNameTheirPairs, NumberTellsAssistance, find_first, find_fails, Contains, All-nil, All-contains, All-contains_itself, All-filter, nat_le, AreOfOne}
use Rattle.list_laws.proofs.Pieces.{all_pieces}
use Rattle.voucher_core.proofs.{Covered.changes_of_days, DayShares.shifted, Paid.each_passing, Settled.all_earlier, Settled.all_months, Settled.all_for, Settled.all_closing, Settled.nothing}

-- Numbers lead to records ----

module _ (records : List Record) (numbered : AreNumbered records) where
  -- each record is found by its own number
  pub lead_back : All (λ r. find (λ q. q.number == r.number) records ≡ Some r) records
  lead_back k d within =
      find_first (λ (q : Record). q.number == (get_or records k d).number) records k d within (eq-eqb _ _ refl)
      (λ i before. ne_eqb _ _ (λ same. absurd (omega (arith, numbered.number i d (omega (arith, before, within)), numbered.number k d within, same))))

  no_assistance : assistance_of records 0 ≡ 0
  no_assistance =
      ap (λ (o : Option Record). option_map_or (λ r. r.assistance) o 0)
      (find_fails (λ (q : Record). q.number == 0) records
      (λ k d within. ne_eqb _ _ (λ same. absurd (omega (arith, numbered.number k d within, same)))))

  of_force : (o : Option Record) → IfSome o (λ r. find (λ q. q.number == r.number) records ≡ Some r) →
      assistance_of records (option_map_or (λ r. r.number) o 0) ≡ option_map_or (λ r. r.assistance) o 0
  of_force o found = grind (arith, common_steps, no_assistance)

  abbrev LeadsBack : Record → Type 0
  LeadsBack r = find (λ q. q.number == r.number) records ≡ Some r

  -- so the number of the record in force leads to its assistance
  pub leads : (known : List Record) → All (Contains records) known → (day : ℕ) → assistance_of records (number_on known day) ≡ assistance_on known day
  leads known own day =
      of_force (in_force known day) (in_force_among LeadsBack known day
      (λ k d within. All-contains LeadsBack records (get_or known k d) lead_back (own k d within)))

pub as_of_own : (act : ℕ) (records : List Record) → All (Contains records) (as_of act records)
as_of_own act records = All-filter (λ (r : Record). nat_le r.act act) (Contains records) records (All-contains_itself records)

pub are_of_one : (own before : ℕ → List Record) (act : ℕ) → ((household : ℕ) → AreNumbered (own household)) →
    ((household : ℕ) → All (Contains (own household)) (before household)) → (household : ℕ) → AreOfOne (own household) (before household) (as_of act (own household))
are_of_one own before act numbered own_before household =
    record { numbered = numbered household; old_own = own_before household; new_own = as_of_own act (own household) }

pub before_own : (paid_at : Option ℕ) (records : List Record) → All (Contains records) (known_before paid_at records)
before_own None records = All-nil (Contains records)
before_own (Some act) records = as_of_own act records

-- One line ----

module _ (records known : List Record) (numbered : AreNumbered records) (own : All (Contains records) known) (month : ℕ) where
  -- what is certified for days on which one record is in force is the shares of these days in its assistance
  pub by_record : (number first last : ℕ) → first_of month ≤ first → first ≤ last → ((day : ℕ) → first ≤ day → day ≤ last → number ≡ number_on known day) →
      certified_on known month first last ≡ run_share (assistance_of records number) (first + 1 - first_of month) (last + 1 - first_of month) (days_in month)
  by_record number first last from order on =
      let count : last + 1 - first_of month + 1 - (first + 1 - first_of month) ≡ last + 1 - first = omega (arith, from, order) in
      rw count (shifted (share_on known month) (λ day. day_share (assistance_of records number) day (days_in month)) first (first + 1 - first_of month) (last + 1 - first) each)
    where
      each : (k : ℕ) → k < last + 1 - first → share_on known month (first + k) ≡ day_share (assistance_of records number) (first + 1 - first_of month + k) (days_in month)
      each k low =
          let place : first + k + 1 - first_of month ≡ first + 1 - first_of month + k = omega (arith, from) in
          let is : number ≡ number_on known (first + k) = on (first + k) (omega arith) (omega (arith, low, order)) in
          rw (place, is, leads records numbered known own (first + k)) refl

module _ (records before now : List Record) (of_one : AreOfOne records before now) (month : ℕ) (run : Stretch Change)
    (is : IsOfItsDays (change_on before now) (first_of month) (last_of month + 1) run)
  where
    old_on_each : (day : ℕ) → run.first ≤ day → day ≤ run.last → run.key.old ≡ number_on before day
    old_on_each day low high = ap (λ (c : Change). c.old) (is.key day low high)

    new_on_each : (day : ℕ) → run.first ≤ day → day ≤ run.last → run.key.new ≡ number_on now day
    new_on_each day low high = ap (λ (c : Change). c.new) (is.key day low high)

    -- the line of a change amounts to the shares of the two records
    pub line_amount : (closing : Closing) (household : ℕ) →
        difference before now month run
        ≡ pos (shares_of records run.key.new (line_of closing household month before now run)) -ℤ pos (shares_of records run.key.old (line_of closing household month before now run))
    line_amount closing household = cc (
      by_record records before of_one.numbered of_one.old_own month run.key.old run.first run.last is.from is.in_order old_on_each,
      by_record records now of_one.numbered of_one.new_own month run.key.new run.first run.last is.from is.in_order new_on_each,
    )

    -- the line of a change that isn't for 0 names its pair
    pub line_names : (closing : Closing) (household : ℕ) → not (int_eq (difference before now month run) (pos 0)) ≡ true → NamesItsPair records before now (line_of closing household month before now run)
    line_names closing household passes = record {
      from = is.from;
      in_order = is.in_order;
      to = omega (arith, is.to);
      old = old_on_each;
      new = new_on_each;
      amount = line_amount closing household;
      not_for_nothing = λ none. (let test = (Decides-int_eq (difference before now month run) (pos 0)).1 none in let passed = rw test at passes in cc);
    }

-- and so do all lines of a month
month_names : (records before now : List Record) → AreOfOne records before now → (month : ℕ) (closing : Closing) (household : ℕ) →
    All (λ run. not (int_eq (difference before now month run) (pos 0)) ≡ true → NamesItsPair records before now (line_of closing household month before now run)) (changes before now month)
month_names records before now of_one month closing household k d within passes =
    line_names records before now of_one month (get_or (changes before now month) k d) (changes_of_days before now month k d within) closing household passes

-- All lines ----

-- a place more or less changes nothing of it
moved : (records before now : List Record) (l : Line) (place : ℕ) → NamesItsPair records before now l → NamesItsPair records before now (record l { place = place })
moved records before now l place names = assumption

module _ (own : ℕ → List Record) (count : ℕ) (closing : Closing) (place : ℕ) (numbered : (household : ℕ) → AreNumbered (own household)) where
  -- the line names what was known before of its household, and what is known now
  abbrev Names : (ℕ → List Record) → Line → Type 0
  Names before l = NamesItsPair (own l.household) (before l.household) (as_of closing.act (own l.household)) l

  lines_name : (before : ℕ → List Record) → ((household : ℕ) → All (Contains (own household)) (before household)) → (month : ℕ) →
      All (Names before) (lines_for before (known_as_of own closing.act) count closing month)
  lines_name before own_before month =
      all_pieces (Names before) (λ (h : ℕ). month_lines closing h month (before h) (as_of closing.act (own h))) 1 count
      (λ h low high. each_passing (Names before) closing h month (before h) (as_of closing.act (own h))
      (month_names (own h) (before h) (as_of closing.act (own h)) (are_of_one own before closing.act numbered own_before h) month closing h))

  are_before : All (λ l. l.for_month < closing.closed) (adjustment_lines own count closing)
  are_before = all_months own count closing (λ (m : ℕ). m < closing.closed) (λ m low high. high)

  are_of_it : All (λ l. l.for_month ≡ closing.closed) (lines_for nothing (known_as_of own closing.act) count closing closing.closed)
  are_of_it = all_for own count closing nothing closing.closed (λ (m : ℕ). m ≡ closing.closed) refl

  all_now : All (λ l. l.for_month ≡ closing.closed → Names nothing l) (placed place (closing_lines own count closing))
  all_now =
      all_closing own count closing (λ (l : Line). l.for_month ≡ closing.closed → Names nothing l) (λ l at names now. moved _ _ _ l at (names now)) place
      (λ k d within now. absurd (omega (arith, are_before k d within, now))) (λ k d within now. lines_name nothing (λ h. All-nil (Contains (own h))) closing.closed k d within)

  pub name_their_pairs : NameTheirPairs own closing (placed place (closing_lines own count closing))
  name_their_pairs = record {
    months = all_closing own count closing (λ (l : Line). l.for_month ≤ closing.closed) (λ l at p. p) place
        (λ k d within. omega (arith, are_before k d within)) (λ k d within. omega (arith, are_of_it k d within));
    earlier = all_closing own count closing (λ (l : Line). l.for_month < closing.closed → Names (known_as_of own closing.last_close) l)
        (λ l at names before. moved _ _ _ l at (names before)) place
        (all_earlier own count closing (λ (l : Line). l.for_month < closing.closed → Names (known_as_of own closing.last_close) l) (λ month from to k d within before. lines_name (known_as_of own closing.last_close) (λ h. as_of_own closing.last_close (own h)) month k d within))
        (λ k d within before. absurd (omega (arith, are_of_it k d within, before)));
    none_before = λ k d within now. (let names = all_now k d within now in names.old _ (omega arith) names.in_order);
    closed_month = all_now;
  }

pub lines_name_their_pairs : LinesNameTheirPairs
lines_name_their_pairs = name_their_pairs

pub number_tells : NumberTellsAssistance
number_tells records old new day next of_one same =
    cc (leads records of_one.numbered old of_one.old_own day, leads records of_one.numbered new of_one.new_own next)
