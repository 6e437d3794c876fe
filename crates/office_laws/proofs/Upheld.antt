-- What every book of an office upholds, of all that it holds.
use Rattle.office_laws.proofs.Words.{Done, again, subst, ◌≤◌, All-nil, IsLater, option_or, Plan, ◌≡◌, ◌∙◌, sym, ap, refl, ℕ, ◌+◌, ◌<◌, arith, true, ◌==◌, List, [], ◌∷◌, ◌++◌, Option, Some, option_map_or, IfSome, length, All, Contains, get_or, option_to_list, append-nil, eq-eqb, All-contains, Contains-push, filter_map_more, places_push, option_map_none, option_or-none, Record, as_of, Line, ActRow, Batch, Book, appended, CloseAct, Command, command_in, Capacity, acts_of, plan_in, plan_of, closing_of, Closed, last_in, known_of, own_in, last_close, closing_by, is_plan, IsAppended, IsReached, reached_empty, reached_more, Past, RowsCameByActs}
use Rattle.std.proofs.Common.{subst₂}
use Rattle.std.proofs.lemmas.List.Elements.{All-contains_itself}
use Rattle.list_laws.proofs.Filters.{All-passing}
use Rattle.voucher_core.specs.Naming.{NamesItsPair, NameTheirPairs}
use Rattle.office_laws.specs.{Allowed.IsAllowed, Conserved.LinesTotalWhatIsDue, Taken.NextIsTaken, Taken.TakesNext, Tenancy.NoUnitIsShared, Terms.MeetsTerms, Upheld.BooksAreUpheld, Closing.ClosingsNameTheirPairs, InPlace.book_before, InPlace.rows_by, InPlace.IsInPlace, Upheld.NamesItsRecords, Upheld.closings_of, Upheld.FollowFrom, Upheld.HasRentsDone, Upheld.AnswersAgain, Certifies.CertifiesRightly}
use Rattle.office_laws.proofs.{Allowed.acts_are_allowed, Inversion.accepted, Inversion.passes, Makes.lines_name_month, Reached.acts_appended, Reached.act_made, Reached.books_are_kept, Reached.batches_follow, Reached.plan_there, Grown.plan-more, Known.unplanned, Replies.still_there, Replies.replies_stay, Replies.repeats_are_answered, InOrder.own_in_order, Pairs.NamesItsPairs, Pairs.in_plain_facts, InPlace.acts_are_in_place, InPlace.of_each_act, Conserved.next_closed, RentsDone.rents_are_done_at_closings, Requests.last_of, Requests.requests_are_last, Placed.households_are_in_order, Terms.acts_meet_their_terms, CertifiedActs.records_certify_rightly, CertifiedWaiting.those_wait_who_applied, RepliesTold.replies_tell_records}

-- ---- lines

-- the records of the line's household
abbrev its_own : Book → Line → List Record
its_own book l = own_in (known_of book) l.household

-- a line of the act that closes the month, by what it says of that act and month
names_it : (book : Book) (row : ActRow) (month : ℕ) → Contains book.acts row → command_in row.body ≡ Some (Command.Close (record { month = month })) →
    (l : Line) → (l.act ≡ row.n) × (l.month ≡ month) → l.for_month ≤ month →
    (l.for_month < month → NamesItsPair (its_own book l) (as_of (last_close (known_of (book_before book row.n))) (its_own book l)) (as_of row.n (its_own book l)) l) →
    (l.for_month ≡ month → l.old ≡ 0) →
    (l.for_month ≡ month → NamesItsPair (its_own book l) [] (as_of row.n (its_own book l)) l) →
    NamesItsPairs book l
names_it book row month there reads l (of_act, of_month) months earlier none_before closed = record {
  closing = record { row = row; there = there; is = sym of_act; reads = subst (λ (m : ℕ). command_in row.body ≡ Some (Command.Close (record { month = m }))) (sym of_month) reads };
  months = omega (arith, of_month, months);
  earlier = subst₂ (λ (act m : ℕ). l.for_month < m → NamesItsPair (its_own book l) (as_of (last_close (known_of (book_before book act))) (its_own book l)) (as_of act (its_own book l)) l)
      (sym of_act) (sym of_month) earlier;
  none_before = λ same. none_before (same ∙ of_month);
  closed = subst₂ (λ (act m : ℕ). l.for_month ≡ m → NamesItsPair (its_own book l) [] (as_of act (its_own book l)) l) (sym of_act) (sym of_month) closed;
}

module _ (capacity : Capacity) (found : Book) (rows : Batch) (reached : IsReached capacity found) (appends : IsAppended capacity found rows) where
  -- the lines of a closing name its act and its month
  of_closing : (close : CloseAct) → appends.call.command ≡ Command.Close close → All (λ line. (line.act ≡ rows.act.n) × (line.month ≡ close.month)) rows.lines
  of_closing close closes =
      let own = accepted capacity found rows appends in
      let plan = plan_there capacity found rows reached appends (ap is_plan closes) in
      rw (own.n, own.lines, closes, plan.1) (lines_name_month (known_of found) close.month plan.0)

  -- the lines of an act name their records, by each book that comes later, where the act found these there
  lines_name : ClosingsNameTheirPairs → (book : Book) → Contains book.acts rows.act → found ≡ book_before book rows.act.n →
      IsLater capacity (appended found rows) book → All (NamesItsPairs book) rows.lines
  lines_name pairs book there is later = by_command appends.call.command refl
    where
      none : rows.lines ≡ [] → All (NamesItsPairs book) rows.lines
      none no_lines = rw no_lines (All-nil (NamesItsPairs book))

      by_command : (asked : Command) → appends.call.command ≡ asked → All (NamesItsPairs book) rows.lines
      by_command (Command.Close close) closes =
          let named = pairs capacity found rows reached appends close closes book later in
          let its : NameTheirPairs (own_in (known_of book)) (closing_by (known_of (book_before book rows.act.n)) close named.0 rows.act.n) rows.lines =
          subst (λ (found : Book). NameTheirPairs (own_in (known_of book)) (closing_by (known_of found) close named.0 rows.act.n) rows.lines) is named.2 in
          λ k d within.
          names_it book rows.act close.month there (appends.read ∙ ap (λ (c : Command). Some c) closes) (get_or rows.lines k d) (of_closing close closes k d within)
          (its.months k d within) (its.earlier k d within) (its.none_before k d within) (its.closed_month k d within)
      by_command asked other = none ((accepted capacity found rows appends).lines ∙ rw other refl)

module _ (came : RowsCameByActs) (pairs : ClosingsNameTheirPairs) (capacity : Capacity) (book : Book) (reached : IsReached capacity book) where
  -- a line is of one of the book's acts, and so one of those that the act made
  names : (l : Line) → Contains book.lines l → NamesItsPairs book l
  names l there =
      let past : Past capacity book = ((came capacity book reached).lines l there).0 in
      let row : ActRow = past.rows.act in
      let its_act : Contains book.acts row =
      still_there capacity (appended past.earlier past.rows) book past.later row (Contains-push past.earlier.acts row) in
      let is : l.act ≡ row.n =
      All-contains (λ line. line.act ≡ row.n) past.rows.lines l (batches_follow capacity past.earlier past.rows past.reached past.appends).0.lines
      ((came capacity book reached).lines l there).1 in
      let place : IsInPlace capacity book row = acts_are_in_place capacity book reached row its_act in
      All-contains (λ line. (line.act == row.n) ≡ true → NamesItsPairs book line) book.lines l
      (All-passing (λ (line : Line). line.act == row.n) (NamesItsPairs book) book.lines
      (lines_name capacity (book_before book row.n) (rows_by book row) place.reached place.appends pairs book its_act refl place.later))
      there (eq-eqb l.act row.n is)

  pub lines_named : All (NamesItsRecords book) book.lines
  lines_named = λ k d within.
      in_plain_facts book (get_or book.lines k d) (own_in_order capacity book reached (get_or book.lines k d).household).numbered
      (names (get_or book.lines k d) (All-contains_itself book.lines k d within))

-- ---- closings

-- closings that follow each other come to the month before the next
next_of : (first : ℕ) (closings : List Closed) → FollowFrom first closings → option_map_or (λ closing. closing.month + 1) (last_in closings) first ≡ first + length closings
next_of first [] follow = omega arith
next_of first (closing ∷ closings) follow =
    rw (last_of closing closings) (omega (arith, follow (length closings) closing (omega arith)))

module _ (capacity : Capacity) (book : Book) (rows : Batch) (reached : IsReached capacity book) (appends : IsAppended capacity book rows) where
  abbrev Follow : Option Plan → List Closed → Type 0
  Follow plan closings = IfSome plan (λ plan. FollowFrom plan.first closings)

  follow_more : (asked : Command) → appends.call.command ≡ asked → Follow (known_of book).plan (closings_of book) →
      Follow (option_or (known_of book).plan (plan_in asked)) (closings_of book ++ option_to_list (closing_of (record { n = rows.act.n; command = asked })))
  follow_more (Command.Close close) closes follow =
      let plan = plan_there capacity book rows reached appends (ap is_plan closes) in
      let right = rw (closes, plan.1) at (passes capacity book rows appends).wrong_month in
      let so_far : FollowFrom plan.0.first (closings_of book) = rw plan.1 at follow in
      rw plan.1 (places_push (λ place (closing : Closed). closing.month ≡ plan.0.first + place) (closings_of book) (record { act = rows.act.n; month = close.month }) so_far
      (sym (next_closed plan.0.first close.month (last_in (closings_of book)) right) ∙ next_of plan.0.first (closings_of book) so_far))
  follow_more (Command.Plan plan) given follow =
      let none = unplanned (acts_of book.acts) (option_map_none _ _ (rw given at (passes capacity book rows appends).plan_given)) in
      rw ((books_are_kept capacity book reached).names.planned none) (λ place d within. absurd (omega arith))
  follow_more asked other follow = rw (option_or-none (plan_of (acts_of book.acts)), append-nil (closings_of book)) follow

closed_in_turn : (capacity : Capacity) (book : Book) → IsReached capacity book → IfSome (known_of book).plan (λ plan. FollowFrom plan.first (closings_of book))
closed_in_turn capacity _ reached_empty = tt
closed_in_turn capacity _ (reached_more {book} {rows} reached appends) =
    rw (acts_appended appends, plan-more (acts_of book.acts) (act_made appends), filter_map_more closing_of (acts_of book.acts) (act_made appends))
    (follow_more capacity book rows reached appends appends.call.command refl (closed_in_turn capacity book reached))

rents_done : (capacity : Capacity) (book : Book) (rows : Batch) → IsReached capacity book → (appends : IsAppended capacity book rows) →
    HasRentsDone (known_of book) appends.call.command
rents_done capacity book rows reached appends = by_command appends.call.command refl
  where
    by_command : (asked : Command) → appends.call.command ≡ asked → HasRentsDone (known_of book) asked
    by_command (Command.Close close) closes = rents_are_done_at_closings capacity book rows reached appends close closes
    by_command asked other = tt

-- ---- replies

answers_again : (capacity : Capacity) (book : Book) → IsReached capacity book → (row : ActRow) → Contains book.acts row → AnswersAgain capacity book row
answers_again capacity book reached row there call is session clock =
    let place : IsInPlace capacity book row = acts_are_in_place capacity book reached row there in
    repeats_are_answered capacity book reached row there call is session clock
    ∙ ap (λ (done : Done). again done)
    (replies_stay capacity (appended (book_before book row.n) (rows_by book row)) book (reached_more place.reached place.appends) place.later row
    (Contains-push (book_before book row.n).acts row))

-- ---- the book

pub books_are_upheld : RowsCameByActs → ClosingsNameTheirPairs → LinesTotalWhatIsDue → NoUnitIsShared → NextIsTaken → BooksAreUpheld
books_are_upheld came pairs totals apart taken capacity book reached = record {
  total = totals capacity book reached;
  named = lines_named came pairs capacity book reached;
  closings = closed_in_turn capacity book reached;
  rents = of_each_act (λ known rows asked. HasRentsDone known asked) capacity (rents_done capacity) book reached;
  order = households_are_in_order capacity book reached;
  apart = apart capacity book reached;
  requests = requests_are_last capacity book reached;
  next = of_each_act (λ known rows asked. TakesNext known asked) capacity (taken capacity) book reached;
  allowed = of_each_act (IsAllowed capacity.acts) capacity (acts_are_allowed capacity) book reached;
  terms = of_each_act MeetsTerms capacity (acts_meet_their_terms capacity) book reached;
  certified = of_each_act CertifiesRightly capacity (records_certify_rightly capacity) book reached;
  waiting = those_wait_who_applied book;
  replies = answers_again capacity book reached;
  told = λ row r there. replies_tell_records capacity book reached row there r;
}
