-- An act is accepted exactly where no cause stands against it.
use Rattle.std.proofs.Common.{◌≡◌, ◌∙◌, sym, ap, refl, subst, ℕ, ◌+◌, ◌≤◌, arith, Bool, false, List, [], ◌∷◌, Option, Some, None, length, ◌&&◌, not, IfSome, bytes_eq, eqb, find, if◌then◌else◌}
use Rattle.std.specs.Prelude.{Contains}
use Rattle.std.specs.Option.{option_map, option_map_or}
use Rattle.std.proofs.lemmas.{Bool.false_from_ne_true, Bool.and_parts, Bool.and_left, Bool.eqb-true, Bool.le-ltb}
use Rattle.list_laws.proofs.Finds.{find_fails}
use Rattle.days_core.specs.OfficeDays.{last_office_day}
use Rattle.record_history.specs.{declared.records.Dates.Dates}
use Rattle.tenancy_rules.proofs.Numbers.{rise}
use Rattle.tenancy_rules.specs.Changed.{NumbersRise}
use Rattle.book_rows.specs.{declared.rows.ActRow.ActRow, declared.rows.Batch.Batch, Book.Book, Book.is_request_of}
use Rattle.command_forms.specs.Commands.{body_of}
use Rattle.office_step.specs.{declared.call.Call.Call, declared.call.Capacity.Capacity, declared.refusal.Refusal.Refusal, Known.known_of, Made.lines_of, Matter.Matter, Matter.matter_of, Matter.household_of, Matter.own, Refusals.first_of, Refusals.repeated, Refusals.request_reused, Refusals.lines_full, Reply.done_of}
use Rattle.office_step.specs.Against as against
use Rattle.office_step.specs.Step.{act_day, step, first_step, refusal_of, rows_for, again, refused, appends}
use Rattle.office_step.proofs.{Days.days_in_range, Days.told_in_turn, Days.ToldInTurn, Passed.none_at, Passed.first_of-around}
use Rattle.office_step.specs.plain.Rightful.{AreKnownDays}
use Rattle.office_step.specs.plain.Acceptance.{StandsAgainst, no_plan, plan_given, book_full, no_such, stale, unseen, facts_rule, day_range, no_rent, no_limits, not_live, wrong_day, disorder, name_taken, size_misfit, unit_taken, not_next, ineligible, no_assistance, wrong_month, rent_due, overdue, IsSound, TestsArePlain, RefusalIsPlain, IsNew, HasRoom, AcceptanceIsPlain}
use Rattle.office_step.proofs.Exactly.{Options.none_stands, Options.stands_none, Options.of_each, Planned.no_plan_is_plain, Planned.plan_given_is_plain, Planned.book_full_is_plain, Named.no_such_is_plain, Seen.stale_is_plain, Seen.unseen_is_plain, Facts.facts_rule_is_plain, Days.day_range_is_plain, Standing.no_rent_is_plain, Standing.no_limits_is_plain, Standing.not_live_is_plain, Rightful.wrong_day_is_plain, Tenancy.disorder_is_plain, Tenancy.unit_taken_is_plain, Units.name_taken_is_plain, Units.size_misfit_is_plain, Turns.not_next_is_plain, Admitted.ineligible_is_plain, Admitted.no_assistance_is_plain, Months.wrong_month_is_plain, Closing.rent_due_is_plain, Closing.overdue_is_plain}

-- ---- the tests

-- the first of some tests refuses, or the others do
by_first : {G : Type 0} (refusal : Refusal) (test : Option Refusal) (rest : List (Option Refusal)) → (test ≡ Some refusal → G) → (test ≡ None → first_of rest ≡ Some refusal → G) →
    first_of (test ∷ rest) ≡ Some refusal → G
by_first refusal (Some why) rest here later is = here is
by_first refusal None rest here later is = later refl is

-- none does where none of them does
and_none : (test : Option Refusal) (rest : List (Option Refusal)) → test ≡ None → first_of rest ≡ None → first_of (test ∷ rest) ≡ None
and_none None rest none more = more
and_none (Some why) rest none more = absurd (cc)

-- the days of a change that lie in their ranges are days that an office knows
pub told_known : (today : ℕ) (about : Matter) → today ≤ last_office_day → against.day_range today about ≡ None → AreKnownDays about.told
told_known today about by none dates told =
    let in_range = subst (λ (o : Option Dates). IfSome o (λ dates. first_of (against.told_days today dates) ≡ None)) told (days_in_range today about none).told in
    let turn : ToldInTurn today dates = told_in_turn today dates in_range in
    record {
      event = omega (arith, turn.notice, turn.done, turn.by_today, by);
      notice = omega (arith, turn.done, turn.by_today, by);
      done = omega (arith, turn.by_today, by);
    }

module _ (most today : ℕ) (about : Matter) (sound : IsSound about) (by : today ≤ last_office_day) where
  rises : NumbersRise (own about)
  rises = rise (own about) (sound.kept (household_of about)).numbered

  told : (refusal : Refusal) → first_of (against.tests_on most today about) ≡ Some refusal → StandsAgainst most today about refusal
  told refusal is =
      by_first refusal (against.no_plan about) _ (λ is. no_plan ((no_plan_is_plain about refusal).0 is)) (λ _ is.
      by_first refusal (against.plan_given about) _ (λ is. plan_given ((plan_given_is_plain about refusal).0 is)) (λ _ is.
      by_first refusal (against.book_full most about) _ (λ is. book_full ((book_full_is_plain most about refusal).0 is)) (λ _ is.
      by_first refusal (against.no_such about) _ (λ is. no_such ((no_such_is_plain about refusal rises).0 is)) (λ _ is.
      by_first refusal (against.stale about) _ (λ is. stale ((stale_is_plain about refusal).0 is)) (λ _ is.
      by_first refusal (against.unseen about) _ (λ is. unseen ((unseen_is_plain about refusal).0 is)) (λ _ is.
      by_first refusal (against.facts_rule about) _ (λ is. facts_rule ((facts_rule_is_plain about refusal).0 is)) (λ _ is.
      by_first refusal (against.day_range today about) _ (λ is. day_range ((day_range_is_plain today about refusal).0 is)) (λ in_range is.
      by_first refusal (against.no_rent about) _ (λ is. no_rent ((no_rent_is_plain about refusal sound.numbered).0 is)) (λ _ is.
      by_first refusal (against.no_limits about) _ (λ is. no_limits ((no_limits_is_plain about refusal).0 is)) (λ _ is.
      by_first refusal (against.not_live about) _ (λ is. not_live ((not_live_is_plain about refusal).0 is)) (λ _ is.
      by_first refusal (against.wrong_day about) _
      (λ is. wrong_day ((wrong_day_is_plain about refusal sound.kept sound.numbered sound.rents (told_known today about by in_range) sound.dates).0 is)) (λ _ is.
      by_first refusal (against.disorder about) _ (λ is. disorder ((disorder_is_plain about refusal sound.kept).0 is)) (λ _ is.
      by_first refusal (against.name_taken about) _ (λ is. name_taken ((name_taken_is_plain about refusal sound.named).0 is)) (λ _ is.
      by_first refusal (against.size_misfit about) _ (λ is. size_misfit ((size_misfit_is_plain about refusal sound.numbered).0 is)) (λ _ is.
      by_first refusal (against.unit_taken about) _ (λ is. unit_taken ((unit_taken_is_plain about refusal sound.kept).0 is)) (λ _ is.
      by_first refusal (against.not_next about) _ (λ is. not_next ((not_next_is_plain about refusal sound.numbered sound.waiting).0 is)) (λ _ is.
      by_first refusal (against.ineligible about) _ (λ is. ineligible ((ineligible_is_plain about refusal sound.limits).0 is)) (λ _ is.
      by_first refusal (against.no_assistance about) _ (λ is. no_assistance ((no_assistance_is_plain about refusal).0 is)) (λ _ is.
      by_first refusal (against.wrong_month about) _ (λ is. wrong_month ((wrong_month_is_plain about refusal).0 is)) (λ _ is.
      by_first refusal (against.rent_due about) _ (λ is. rent_due ((rent_due_is_plain about refusal sound.kept sound.numbered sound.rents).0 is)) (λ _ is.
      by_first refusal (against.overdue about) [] (λ is. overdue ((overdue_is_plain about refusal sound.kept).0 is)) (λ _ is. absurd (cc)) is)
      is) is) is) is) is) is) is) is) is) is) is) is) is) is) is) is) is) is) is) is) is

  abbrev tests : List (Option Refusal)
  tests = against.tests_on most today about

  none_against : first_of (against.tests_on most today about) ≡ None → (refusal : Refusal) → ¬ StandsAgainst most today about refusal
  none_against none refusal (no_plan is) = none_stands _ _ (no_plan_is_plain about) (none_at tests 0 none) refusal is
  none_against none refusal (plan_given is) = none_stands _ _ (plan_given_is_plain about) (none_at tests 1 none) refusal is
  none_against none refusal (book_full is) = none_stands _ _ (book_full_is_plain most about) (none_at tests 2 none) refusal is
  none_against none refusal (no_such is) = none_stands _ _ (λ refusal. no_such_is_plain about refusal rises) (none_at tests 3 none) refusal is
  none_against none refusal (stale is) = none_stands _ _ (stale_is_plain about) (none_at tests 4 none) refusal is
  none_against none refusal (unseen is) = none_stands _ _ (unseen_is_plain about) (none_at tests 5 none) refusal is
  none_against none refusal (facts_rule is) = none_stands _ _ (facts_rule_is_plain about) (none_at tests 6 none) refusal is
  none_against none refusal (day_range is) = none_stands _ _ (day_range_is_plain today about) (none_at tests 7 none) refusal is
  none_against none refusal (no_rent is) = none_stands _ _ (λ refusal. no_rent_is_plain about refusal sound.numbered) (none_at tests 8 none) refusal is
  none_against none refusal (no_limits is) = none_stands _ _ (no_limits_is_plain about) (none_at tests 9 none) refusal is
  none_against none refusal (not_live is) = none_stands _ _ (not_live_is_plain about) (none_at tests 10 none) refusal is
  none_against none refusal (wrong_day is) =
      none_stands _ _ (λ refusal. wrong_day_is_plain about refusal sound.kept sound.numbered sound.rents (told_known today about by (none_at tests 7 none)) sound.dates) (none_at tests 11 none) refusal is
  none_against none refusal (disorder is) = none_stands _ _ (λ refusal. disorder_is_plain about refusal sound.kept) (none_at tests 12 none) refusal is
  none_against none refusal (name_taken is) = none_stands _ _ (λ refusal. name_taken_is_plain about refusal sound.named) (none_at tests 13 none) refusal is
  none_against none refusal (size_misfit is) = none_stands _ _ (λ refusal. size_misfit_is_plain about refusal sound.numbered) (none_at tests 14 none) refusal is
  none_against none refusal (unit_taken is) = none_stands _ _ (λ refusal. unit_taken_is_plain about refusal sound.kept) (none_at tests 15 none) refusal is
  none_against none refusal (not_next is) = none_stands _ _ (λ refusal. not_next_is_plain about refusal sound.numbered sound.waiting) (none_at tests 16 none) refusal is
  none_against none refusal (ineligible is) = none_stands _ _ (λ refusal. ineligible_is_plain about refusal sound.limits) (none_at tests 17 none) refusal is
  none_against none refusal (no_assistance is) = none_stands _ _ (no_assistance_is_plain about) (none_at tests 18 none) refusal is
  none_against none refusal (wrong_month is) = none_stands _ _ (wrong_month_is_plain about) (none_at tests 19 none) refusal is
  none_against none refusal (rent_due is) = none_stands _ _ (λ refusal. rent_due_is_plain about refusal sound.kept sound.numbered sound.rents) (none_at tests 20 none) refusal is
  none_against none refusal (overdue is) = none_stands _ _ (λ refusal. overdue_is_plain about refusal sound.kept) (none_at tests 21 none) refusal is

  against_none : ((refusal : Refusal) → ¬ StandsAgainst most today about refusal) → first_of (against.tests_on most today about) ≡ None
  against_none never =
      let in_range = stands_none _ _ (day_range_is_plain today about) (λ r is. never r (day_range is)) in
      and_none (against.no_plan about) _ (stands_none _ _ (no_plan_is_plain about) (λ r is. never r (no_plan is)))
      (and_none (against.plan_given about) _ (stands_none _ _ (plan_given_is_plain about) (λ r is. never r (plan_given is)))
      (and_none (against.book_full most about) _ (stands_none _ _ (book_full_is_plain most about) (λ r is. never r (book_full is)))
      (and_none (against.no_such about) _ (stands_none _ _ (λ r. no_such_is_plain about r rises) (λ r is. never r (no_such is)))
      (and_none (against.stale about) _ (stands_none _ _ (stale_is_plain about) (λ r is. never r (stale is)))
      (and_none (against.unseen about) _ (stands_none _ _ (unseen_is_plain about) (λ r is. never r (unseen is)))
      (and_none (against.facts_rule about) _ (stands_none _ _ (facts_rule_is_plain about) (λ r is. never r (facts_rule is)))
      (and_none (against.day_range today about) _ in_range
      (and_none (against.no_rent about) _ (stands_none _ _ (λ r. no_rent_is_plain about r sound.numbered) (λ r is. never r (no_rent is)))
      (and_none (against.no_limits about) _ (stands_none _ _ (no_limits_is_plain about) (λ r is. never r (no_limits is)))
      (and_none (against.not_live about) _ (stands_none _ _ (not_live_is_plain about) (λ r is. never r (not_live is)))
      (and_none (against.wrong_day about) _
      (stands_none _ _ (λ r. wrong_day_is_plain about r sound.kept sound.numbered sound.rents (told_known today about by in_range) sound.dates) (λ r is. never r (wrong_day is)))
      (and_none (against.disorder about) _ (stands_none _ _ (λ r. disorder_is_plain about r sound.kept) (λ r is. never r (disorder is)))
      (and_none (against.name_taken about) _ (stands_none _ _ (λ r. name_taken_is_plain about r sound.named) (λ r is. never r (name_taken is)))
      (and_none (against.size_misfit about) _ (stands_none _ _ (λ r. size_misfit_is_plain about r sound.numbered) (λ r is. never r (size_misfit is)))
      (and_none (against.unit_taken about) _ (stands_none _ _ (λ r. unit_taken_is_plain about r sound.kept) (λ r is. never r (unit_taken is)))
      (and_none (against.not_next about) _ (stands_none _ _ (λ r. not_next_is_plain about r sound.numbered sound.waiting) (λ r is. never r (not_next is)))
      (and_none (against.ineligible about) _ (stands_none _ _ (λ r. ineligible_is_plain about r sound.limits) (λ r is. never r (ineligible is)))
      (and_none (against.no_assistance about) _ (stands_none _ _ (no_assistance_is_plain about) (λ r is. never r (no_assistance is)))
      (and_none (against.wrong_month about) _ (stands_none _ _ (wrong_month_is_plain about) (λ r is. never r (wrong_month is)))
      (and_none (against.rent_due about) _ (stands_none _ _ (λ r. rent_due_is_plain about r sound.kept sound.numbered sound.rents) (λ r is. never r (rent_due is)))
      (and_none (against.overdue about) [] (stands_none _ _ (λ r. overdue_is_plain about r sound.kept) (λ r is. never r (overdue is))) refl)))))))))))))))))))))

pub refusal_is_plain : RefusalIsPlain
refusal_is_plain most today about sound by = record {
  none = (none_against most today about sound by, against_none most today about sound by);
  told = told most today about sound by;
}

-- ---- a call

module _ (capacity : Capacity) (book : Book) (session clock : ℕ) (call : Call) (new : IsNew book call) (room : HasRoom capacity book call) where
  another_request : (row : ActRow) → Contains book.acts row → is_request_of call.clerk call.request row ≡ false
  another_request row held =
      false_from_ne_true (is_request_of call.clerk call.request row)
      (λ is. (let parts = and_parts (eqb row.clerk call.clerk) (eqb row.request call.request) is in
      new row held (eqb-true row.clerk call.clerk parts.0) (eqb-true row.request call.request parts.1)))

  never_found : (further : ActRow → Bool) → find (λ row. is_request_of call.clerk call.request row && further row) book.acts ≡ None
  never_found further =
      find_fails (λ row. is_request_of call.clerk call.request row && further row) book.acts
      (of_each (λ (row : ActRow). (is_request_of call.clerk call.request row && further row) ≡ false) book.acts
      (λ row held. and_left (is_request_of call.clerk call.request row) (further row) (another_request row held)))

  no_repeat : repeated book.acts call.clerk call.request (body_of call.command) ≡ None
  no_repeat = never_found (λ row. bytes_eq row.body (body_of call.command))

  unused : request_reused book.acts call.clerk call.request (body_of call.command) ≡ None
  unused = ap (option_map (λ (row : ActRow). Refusal.RequestReused row.n)) (never_found (λ row. not (bytes_eq row.body (body_of call.command))))

  fits : lines_full (length book.lines) (length (lines_of (known_of book) call.command)) capacity.lines ≡ None
  fits =
      ap (λ (b : Bool). if b then Some (Refusal.LinesFull (length book.lines) (length (lines_of (known_of book) call.command))) else None)
      (le-ltb capacity.lines (length book.lines + length (lines_of (known_of book) call.command)) room)

  abbrev today : ℕ
  today = act_day book.acts clock

  abbrev verdict : Option Refusal
  verdict = first_of (against.tests_on capacity.acts today (matter_of (known_of book) call.command))

  between : (before o after : Option Refusal) → before ≡ None → after ≡ None → first_of (before ∷ o ∷ after ∷ []) ≡ o
  between None None None none over = refl
  between None (Some why) after none over = refl
  between (Some why) o after none over = absurd (cc)
  between None None (Some why) none over = absurd (cc)

  refusal_is : refusal_of book capacity today call ≡ verdict
  refusal_is =
      first_of-around (request_reused book.acts call.clerk call.request (body_of call.command)) (against.tests_of (known_of book) capacity.acts today call.command)
      (lines_full (length book.lines) (length (lines_of (known_of book) call.command)) capacity.lines)
      ∙ between (request_reused book.acts call.clerk call.request (body_of call.command)) verdict
      (lines_full (length book.lines) (length (lines_of (known_of book) call.command)) capacity.lines) unused fits

  step_is : step book capacity session clock call ≡ option_map_or refused verdict (appends (rows_for book session today call))
  step_is =
      ap (λ (o : Option ActRow). option_map_or (λ row. again (done_of book row)) o (first_step book capacity session today call)) no_repeat
      ∙ ap (λ (o : Option Refusal). option_map_or refused o (appends (rows_for book session today call))) refusal_is

  appended : (rows : Batch) → step book capacity session clock call ≡ appends rows → verdict ≡ None
  appended rows is = by_verdict verdict refl (sym step_is ∙ is)
    where
      by_verdict : (o : Option Refusal) → verdict ≡ o → option_map_or refused o (appends (rows_for book session today call)) ≡ appends rows → verdict ≡ None
      by_verdict None none is = none
      by_verdict (Some why) some is = absurd (cc)

  was_refused : (refusal : Refusal) → step book capacity session clock call ≡ refused refusal → verdict ≡ Some refusal
  was_refused refusal is = by_verdict verdict refl (sym step_is ∙ is)
    where
      by_verdict : (o : Option Refusal) → verdict ≡ o → option_map_or refused o (appends (rows_for book session today call)) ≡ refused refusal → verdict ≡ Some refusal
      by_verdict None none is = absurd (cc)
      by_verdict (Some why) some is = some ∙ ap Some (cc)

pub acceptance_is_plain : AcceptanceIsPlain
acceptance_is_plain capacity book session clock call sound by new room =
    let plain : TestsArePlain capacity.acts (act_day book.acts clock) (matter_of (known_of book) call.command) =
    refusal_is_plain capacity.acts (act_day book.acts clock) (matter_of (known_of book) call.command) sound by in record {
      accepted = (
        λ (rows, is). plain.none.0 (appended capacity book session clock call new room rows is),
        λ never. (
          rows_for book session (act_day book.acts clock) call,
          step_is capacity book session clock call new room
              ∙ ap (λ (o : Option Refusal). option_map_or refused o (appends (rows_for book session (act_day book.acts clock) call))) (plain.none.1 never),
        ),
      );
      told = λ refusal is. plain.told refusal (was_refused capacity book session clock call new room refusal is);
    }
