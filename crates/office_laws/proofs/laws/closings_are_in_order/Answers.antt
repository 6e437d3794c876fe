-- What was known as of an act stays known, each line of a closing names its records on every later book, and rents are done.
use Rattle.office_laws.proofs.Words.{common_steps, ◌≡◌, ◌∙◌, ap, refl, ℕ, ◌+◌, ◌-◌, ◌≤◌, arith, List, [], ◌++◌, Some, length, if◌then◌else◌, ◌==◌, range_with_len, flat_map, length_push, Record, as_of, Plan, Closing, month_lines, closing_lines, Batch, Book, appended, Command, Capacity, Known, known_of, own_in, record_of, last_close, closing_by, names_given, IsAppended, IsReached, reached_more, is_plan, Accepted, IsLater, later_same, later_more, KnownAsOfStays, known_stays}
use Rattle.voucher_core.specs.Naming.{NameTheirPairs}
use Rattle.voucher_core.proofs.Named.{lines_name_their_pairs}
use Rattle.office_laws.proofs.{Inversion.accepted, Inversion.passes, Known.next, Known.known_next, Reached.plan_there, Replies.reached_later, InOrder.own_in_order, Conserved.closing_there, Own.own-longer, Own.own_after, Own.later_than, Own.more_of, RentsDone.rents_are_done_at_closings}
use Rattle.office_laws.proofs.laws.closings_are_in_order.Goals as goal

-- ---- what is known as of an act

as_of_stays : (capacity : Capacity) (book : Book) (rows : Batch) → IsReached capacity book → IsAppended capacity book rows →
    (act household : ℕ) → act ≤ length book.acts →
    as_of act (own_in (known_of (appended book rows)) household) ≡ as_of act (own_in (known_of book) household)
as_of_stays capacity book rows reached appends act household by =
    ap (λ (known : Known). as_of act (own_in known household)) (known_next capacity book rows reached appends)
    ∙ ap (as_of act) (own_after (known_of book) appends.call.command (passes capacity book rows appends).no_such household)
    ∙ known_stays (own_in (known_of book) household) (more_of (record_of (known_of book) appends.call.command) household) act
    (later_than (known_of book) appends.call.command act by household)

longer : (capacity : Capacity) (book later : Book) → IsLater capacity book later → length book.acts ≤ length later.acts
longer capacity book _ later_same = omega arith
longer capacity book _ (later_more {later} {rows} is appends) =
    omega (arith, longer capacity book later is, length_push later.acts rows.act)

known_as_of_stays : KnownAsOfStays
known_as_of_stays capacity book _ reached later_same act household by = refl
known_as_of_stays capacity book _ reached (later_more {later} {rows} is appends) act household by =
    as_of_stays capacity later rows (reached_later capacity book later reached is) appends act household
    (omega (arith, by, longer capacity book later is))
    ∙ known_as_of_stays capacity book later reached is act household by

pub returns-clause-stays : goal.returns-clause-stays
returns-clause-stays c = known_as_of_stays

-- ---- the lines of a closing

-- they are made of what was known at the last closing and is known at this one
same_lines : (count : ℕ) (closing : Closing) (own other : ℕ → List Record) →
    ((household : ℕ) → as_of closing.last_close (own household) ≡ as_of closing.last_close (other household)) →
    ((household : ℕ) → as_of closing.act (own household) ≡ as_of closing.act (other household)) →
    closing_lines own count closing ≡ closing_lines other count closing
same_lines count closing own other before now =
    λ i. (if closing.last_close == 0 then []
    else flat_map (λ month. flat_map (λ h. month_lines closing h month (before h i) (now h i)) (range_with_len 1 count))
    (range_with_len closing.first_month (closing.closed - closing.first_month)))
    ++ flat_map (λ h. month_lines closing h closing.closed [] (now h i)) (range_with_len 1 count)

pub returns-clause-lines : goal.returns-clause-lines
returns-clause-lines c capacity book rows reached appends close closes later is_later =
    let plan = plan_there capacity book rows reached appends (ap is_plan closes) in
    (plan.0, plan.1, by_plan plan.0 plan.1)
  where
    -- the closing makes no record
    own_same : (household : ℕ) → own_in (known_of (appended book rows)) household ≡ own_in (known_of book) household
    own_same household =
        ap (λ (known : Known). own_in known household) (known_next capacity book rows reached appends)
        ∙ ap (λ (asked : Command). own_in (next (known_of book) asked) household) closes
        ∙ own-longer (known_of book).households (names_given (known_of book) (Command.Close close)) household

    known_same : (act household : ℕ) → act ≤ length book.acts + 1 → as_of act (own_in (known_of later) household) ≡ as_of act (own_in (known_of book) household)
    known_same act household by =
        known_as_of_stays capacity (appended book rows) later (reached_more reached appends) is_later act household
        (omega (arith, length_push book.acts rows.act))
        ∙ ap (as_of act) (own_same household)

    by_plan : (plan : Plan) → (known_of book).plan ≡ Some plan →
        NameTheirPairs (own_in (known_of later)) (closing_by (known_of book) close plan rows.act.n) rows.lines
    by_plan plan planned =
        let is : Accepted capacity book appends.call rows = accepted capacity book rows appends in
        let known : Known = known_of book in
        let closing : Closing = closing_by known close plan (length book.acts + 1) in
        let same = same_lines (length known.households) closing (own_in (known_of later)) (own_in known)
        (λ household. known_same (last_close known) household (grind (arith, common_steps, closing_there capacity book reached)))
        (λ household. known_same (length book.acts + 1) household (omega arith)) in
        rw (is.n, is.lines, closes, planned, ← same)
        (lines_name_their_pairs (own_in (known_of later)) (length known.households) closing 1
        (λ household. (own_in_order capacity later (reached_later capacity (appended book rows) later (reached_more reached appends) is_later) household).numbered))

-- ---- rents

pub returns-clause-rents : goal.returns-clause-rents
returns-clause-rents c = rents_are_done_at_closings
