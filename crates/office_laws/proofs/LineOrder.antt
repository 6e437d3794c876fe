-- The lines of a book stand by closing, month and household.
use Rattle.std.proofs.Common.{◌≡◌, ◌∙◌, sym, ap, refl, inl, inr, ℕ, zero, suc, ◌+◌, ◌-◌, ◌<◌, ◌≤◌, arith, List, [], ◌∷◌, Option, Some, None, length, get_or, append-nil, length-append, filter_map, All}
use Rattle.std.specs.Prelude.{IsSomeAnd}
use Rattle.std.specs.Option.{option_map_or, option_or}
use Rattle.std.proofs.lemmas.Bool.{cond_both}
use Rattle.std.proofs.lemmas.List.{Elements.All-nil, Elements.All-append, FromFn.length-map-range_with_len}
use Rattle.list_laws.proofs.{Elements.AllPairs-append, Pieces.all_pieces, Pieces.AllPairs-pieces, FilterMaps.filter_map_more}
use Rattle.record_history.specs.declared.records.Record.{Record}
use Rattle.voucher_core.specs.{declared.closing.Closing.Closing, declared.line.Line.Line, Lines.month_lines, Lines.lines_for, Lines.known_as_of, Lines.is_first, Lines.adjustment_lines, Lines.closing_lines, Lines.placed}
use Rattle.voucher_core.proofs.{Paid.each_line, Paid.all_placed, Settled.all_earlier}
use Rattle.book_rows.specs.{declared.rows.Batch.Batch, declared.command.Command.Command, declared.closings.CloseAct.CloseAct, Book.Book, Book.appended}
use Rattle.office_step.specs.{declared.call.Capacity.Capacity, declared.known.Closed.Closed, Acts.act_of, Acts.acts_of, Acts.name_given, Acts.applications_of, Acts.closing_of, Acts.last_in, Acts.household_count, Households.own_of, Known.known_of, Known.own_in, Made.closing_by, Step.IsAppended, Step.IsReached, Step.reached_empty, Step.reached_more}
use Rattle.office_laws.proofs.{Inversion.accepted, Inversion.passes, Makes.lines_name_month, Reached.acts_appended, Reached.act_made, Reached.plan_there, Conserved.next_closed, Lists.last_in-append}
use Rattle.office_laws.specs.AtHand.{StandsBefore, StandInOrder, LinesStandInOrder, LinesNameHouseholds}

-- ---- the lines of one closing

module _ (own : ℕ → List Record) (count : ℕ) (closing : Closing) where
  -- it is of the closing, and for that month
  abbrev IsForMonth : ℕ → Line → Type 0
  IsForMonth month l = (l.month ≡ closing.closed) × (l.for_month ≡ month)

  -- it is of the closing, and for one of the households
  abbrev IsOfClosing : Line → Type 0
  IsOfClosing l = (l.month ≡ closing.closed) × (l.household ≤ count)

  earlier_months : (a b : Line) → a.month ≡ closing.closed → b.month ≡ closing.closed → a.for_month < b.for_month → StandsBefore a b
  earlier_months a b of_a of_b less = inr (of_a ∙ sym of_b, inl less)

  module _ (old new : ℕ → List Record) (month : ℕ) where
    pieces_are : (h : ℕ) → All (λ l. (l.household ≡ h) × IsForMonth month l) (month_lines closing h month (old h) (new h))
    pieces_are h = each_line (λ l. (l.household ≡ h) × IsForMonth month l) closing h month (old h) (new h) (λ run. (refl, (refl, refl)))

    no_later_household : (a b : Line) → IsForMonth month a → IsForMonth month b → a.household ≤ b.household → StandsBefore a b
    no_later_household a b of_a of_b order = inr (of_a.0 ∙ sym of_b.0, inr (of_a.1 ∙ sym of_b.1, order))

    month_in_order : StandInOrder (lines_for old new count closing month)
    month_in_order =
        AllPairs-pieces (λ (l : Line). l.household) (IsForMonth month) StandsBefore (λ h. month_lines closing h month (old h) (new h)) pieces_are
        (λ a b of_a of_b less. no_later_household a b of_a of_b (omega (arith, less)))
        (λ h i j d before within.
        let lines = month_lines closing h month (old h) (new h) in
        let first = pieces_are h i d (omega (arith, before, within)) in
        let second = pieces_are h j d within in
        no_later_household (get_or lines i d) (get_or lines j d) first.1 second.1 (omega (arith, first.0, second.0)))
        1 count

    month_is : All (λ l. (l.for_month ≡ month) × IsOfClosing l) (lines_for old new count closing month)
    month_is =
        all_pieces (λ (l : Line). (l.for_month ≡ month) × IsOfClosing l) (λ h. month_lines closing h month (old h) (new h)) 1 count
        (λ h low high. each_line (λ l. (l.for_month ≡ month) × IsOfClosing l) closing h month (old h) (new h) (λ run. (refl, (refl, omega (arith, high)))))

  adjustments_in_order : StandInOrder (adjustment_lines own count closing)
  adjustments_in_order =
      let old = known_as_of own closing.last_close in
      let new = known_as_of own closing.act in
      cond_both (is_first closing) _ _ StandInOrder (λ _ i j d before within. absurd (omega arith))
      (λ _. AllPairs-pieces (λ (l : Line). l.for_month) (λ l. IsOfClosing l) StandsBefore (lines_for old new count closing) (λ month. month_is old new month)
      (λ a b of_a of_b less. earlier_months a b of_a.0 of_b.0 less)
      (λ month. month_in_order old new month) closing.first_month (closing.closed - closing.first_month))

  adjustments_are : All (λ l. (l.for_month < closing.closed) × IsOfClosing l) (adjustment_lines own count closing)
  adjustments_are =
      all_earlier own count closing (λ l. (l.for_month < closing.closed) × IsOfClosing l)
      (λ month low high k d within.
      let is = month_is (known_as_of own closing.last_close) (known_as_of own closing.act) month k d within in
      (omega (arith, is.0, high), is.1))

  closing_in_order : StandInOrder (closing_lines own count closing)
  closing_in_order =
      let none : ℕ → List Record = λ h. [] in
      let new = known_as_of own closing.act in
      let adjustments = adjustment_lines own count closing in
      let lines = lines_for none new count closing closing.closed in
      AllPairs-append StandsBefore adjustments lines adjustments_in_order (month_in_order none new closing.closed)
      (λ k l d here there.
      let first = adjustments_are k d here in
      let second = month_is none new closing.closed l d there in
      earlier_months (get_or adjustments k d) (get_or lines l d) first.1.0 second.1.0 (omega (arith, first.0, second.0)))

  closing_names : All (λ l. l.household ≤ count) (placed 1 (closing_lines own count closing))
  closing_names =
      all_placed (λ l. l.household ≤ count) (λ l place is. is) 1 (closing_lines own count closing)
      (All-append (λ (l : Line). l.household ≤ count) (adjustment_lines own count closing) (lines_for (λ h. []) (known_as_of own closing.act) count closing closing.closed)
      (λ k d within. (adjustments_are k d within).1.1) (λ k d within. (month_is (λ h. []) (known_as_of own closing.act) closing.closed k d within).1.1))

-- their places are no part of it
placed_in_order : (place : ℕ) (lines : List Line) → StandInOrder lines → StandInOrder (placed place lines)
placed_in_order place [] in_order = in_order
placed_in_order place (line ∷ lines) in_order =
    AllPairs-append StandsBefore (record line { place = place } ∷ []) (placed (place + 1) lines) (λ i j d before within. absurd (omega (arith, before, within)))
    (placed_in_order (place + 1) lines (λ i j d before within. in_order (suc i) (suc j) d (omega (arith, before)) (omega (arith, within)))) ahead
  where
    behind : All (λ next. StandsBefore line next) lines
    behind k d within = in_order 0 (suc k) d (omega arith) (omega (arith, within))

    ahead : (k l : ℕ) (d : Line) → k < 1 → l < length (placed (place + 1) lines) → StandsBefore (get_or (record line { place = place } ∷ []) k d) (get_or (placed (place + 1) lines) l d)
    ahead zero l d here there = all_placed (λ next. StandsBefore line next) (λ next place is. is) (place + 1) lines behind l d there
    ahead (suc k) l d here there = absurd (omega (arith, here))

-- ---- the households of a book

length-filter_map : {X Y : Type 0} (h : X → Option Y) (xs : List X) → length (filter_map h xs) ≤ length xs
length-filter_map h [] = omega arith
length-filter_map {X} {Y} h (x ∷ xs) = by_one (h x) refl (length-filter_map h xs)
  where
    by_one : (found : Option Y) → h x ≡ found → length (filter_map h xs) ≤ length xs → length (filter_map h (x ∷ xs)) ≤ length (x ∷ xs)
    by_one None is fewer = rw is (omega (arith, fewer))
    by_one (Some y) is fewer = rw is (omega (arith, fewer))

-- no more than it has acts
households_few : (book : Book) → length (known_of book).households ≤ length book.acts
households_few book =
    omega (
      arith,
      length-map-range_with_len (own_of book.records) 1 (household_count (acts_of book.acts)),
      length-filter_map (λ act. name_given (applications_of (acts_of book.acts)) act.command) (acts_of book.acts),
      length-filter_map act_of book.acts,
    )

-- ---- one act more

-- what is closed next is later than what was closed so far
before_close : (first month : ℕ) (closing : Option Closed) (of : ℕ) → option_map_or (λ closing. closing.month + 1) closing first ≡ month →
    IsSomeAnd closing (λ closing. of ≤ closing.month) → of < month
before_close first month None of is there = absurd there
before_close first month (Some closing) of is there = omega (arith, is, there)

module _ (capacity : Capacity) (book : Book) (rows : Batch) (reached : IsReached capacity book) (appends : IsAppended capacity book rows) where
  closing_after : (known_of (appended book rows)).closing ≡ option_or (closing_of (act_made appends)) (known_of book).closing
  closing_after =
      ap (λ acts. last_in (filter_map closing_of acts)) (acts_appended appends)
      ∙ ap (λ (closings : List Closed). last_in closings) (filter_map_more closing_of (acts_of book.acts) (act_made appends))
      ∙ last_in-append (filter_map closing_of (acts_of book.acts)) (closing_of (act_made appends))

  module _ (close : CloseAct) (closes : appends.call.command ≡ Command.Close close) where
    -- each line so far is of an earlier closing
    earlier : (l : Line) → IsSomeAnd (known_of book).closing (λ closing. l.month ≤ closing.month) → l.month < close.month
    earlier l there =
        let plan = plan_there capacity book rows reached appends (rw closes refl) in
        let right = rw (closes, plan.1) at (passes capacity book rows appends).wrong_month in
        before_close plan.0.first close.month (known_of book).closing l.month (next_closed plan.0.first close.month (known_of book).closing right) there

    -- and each new one is of this
    of_closing : All (λ l. l.month ≡ close.month) rows.lines
    of_closing =
        let plan = plan_there capacity book rows reached appends (rw closes refl) in
        let names : All (λ l. (l.act ≡ (known_of book).count + 1) × (l.month ≡ close.month)) rows.lines =
        rw ((accepted capacity book rows appends).lines, closes, plan.1) (lines_name_month (known_of book) close.month plan.0) in
        λ k d within. (names k d within).1

    new_in_order : StandInOrder rows.lines
    new_in_order =
        let plan = plan_there capacity book rows reached appends (rw closes refl) in
        let known = known_of book in
        rw ((accepted capacity book rows appends).lines, closes, plan.1)
        (placed_in_order 1 _ (closing_in_order (own_in known) (length known.households) (closing_by known close plan.0 (known.count + 1))))

    new_named : All (λ l. l.household ≤ length (known_of book).households) rows.lines
    new_named =
        let plan = plan_there capacity book rows reached appends (rw closes refl) in
        let known = known_of book in
        rw ((accepted capacity book rows appends).lines, closes, plan.1)
        (closing_names (own_in known) (length known.households) (closing_by known close plan.0 (known.count + 1)))

-- every line is of the last closing or an earlier one
abbrev IsLate : Option Closed → Line → Type 0
IsLate closing l = IsSomeAnd closing (λ closing. l.month ≤ closing.month)

late : (capacity : Capacity) (book : Book) → IsReached capacity book → All (IsLate (known_of book).closing) book.lines
late capacity _ reached_empty = λ k d within. absurd (omega arith)
late capacity _ (reached_more {book} {rows} reached appends) = by_command appends.call.command refl (late capacity book reached)
  where
    by_command : (asked : Command) → appends.call.command ≡ asked → All (IsLate (known_of book).closing) book.lines →
        All (IsLate (known_of (appended book rows)).closing) (appended book rows).lines
    by_command (Command.Close close) closes so_far =
        rw (closing_after capacity book rows reached appends, closes)
        (All-append (λ (l : Line). l.month ≤ close.month) book.lines rows.lines
        (λ k d within. let before = earlier capacity book rows reached appends close closes (get_or book.lines k d) (so_far k d within) in omega (arith, before))
        (λ k d within. let same = of_closing capacity book rows reached appends close closes k d within in omega (arith, same)))
    by_command asked other so_far =
        let none : rows.lines ≡ [] = (accepted capacity book rows appends).lines ∙ rw other refl in
        rw (closing_after capacity book rows reached appends, other, none, append-nil book.lines) so_far

pub lines_stand_in_order : LinesStandInOrder
lines_stand_in_order capacity _ reached_empty = λ i j d before within. absurd (omega arith)
lines_stand_in_order capacity _ (reached_more {book} {rows} reached appends) = by_command appends.call.command refl (lines_stand_in_order capacity book reached)
  where
    by_command : (asked : Command) → appends.call.command ≡ asked → StandInOrder book.lines → StandInOrder (appended book rows).lines
    by_command (Command.Close close) closes so_far =
        AllPairs-append StandsBefore book.lines rows.lines so_far (new_in_order capacity book rows reached appends close closes)
        (λ k l d here there.
        let before = earlier capacity book rows reached appends close closes (get_or book.lines k d) (late capacity book reached k d here) in
        let same = of_closing capacity book rows reached appends close closes l d there in
        inl (omega (arith, before, same)))
    by_command asked other so_far =
        let none : rows.lines ≡ [] = (accepted capacity book rows appends).lines ∙ rw other refl in
        rw (none, append-nil book.lines) so_far

pub lines_name_households : LinesNameHouseholds
lines_name_households capacity _ reached_empty = All-nil (λ (l : Line). l.household ≤ 0)
lines_name_households capacity _ (reached_more {book} {rows} reached appends) = by_command appends.call.command refl (lines_name_households capacity book reached)
  where
    more : length (appended book rows).acts ≡ length book.acts + 1
    more = length-append book.acts (rows.act ∷ [])

    by_command : (asked : Command) → appends.call.command ≡ asked → All (λ l. l.household ≤ length book.acts) book.lines →
        All (λ l. l.household ≤ length (appended book rows).acts) (appended book rows).lines
    by_command (Command.Close close) closes so_far =
        All-append (λ (l : Line). l.household ≤ length (appended book rows).acts) book.lines rows.lines
        (λ k d within. omega (arith, so_far k d within, more))
        (λ k d within. omega (arith, new_named capacity book rows reached appends close closes k d within, households_few book, more))
    by_command asked other so_far =
        let none : rows.lines ≡ [] = (accepted capacity book rows appends).lines ∙ rw other refl in
        rw (none, append-nil book.lines) (λ k d within. omega (arith, so_far k d within, more))
