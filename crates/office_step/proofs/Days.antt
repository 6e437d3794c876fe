-- What it comes to that the days of a command lie in their ranges.
use Rattle.std.proofs.Common.{◌≡◌, ℕ, ◌+◌, ◌<◌, ◌≤◌, ◌==◌, Bool, true, false, Option, Some, None, arith, nat_le, ◌&&◌, if◌then◌else◌}
use Rattle.std.specs.Prelude.{option_and_then, IfSome, All, unwrap_or}
use Rattle.std.specs.Option.{option_map, option_or}
use Rattle.std.proofs.lemmas.Bool.{and_parts, leb-true}
use Rattle.list_laws.proofs.{Finds.find_holds, Options.option_map_some}
use Rattle.days_core.specs.OfficeDays.{first_office_day, last_office_day}
use Rattle.record_history.specs.declared.records.{Dates.Dates, Record.Record}
use Rattle.office_step.specs.{declared.heading.Heading.Heading, declared.refusal.Refusal.Refusal, Households.record_at, Refusals.first_of}
use Rattle.office_step.specs.Matter.{Matter, certifies, household_of, own, begins_on}
use Rattle.office_step.specs.Made.{heading_in, heading_with, own_heading, heading_over, correction_heading, withdrawal_heading}
use Rattle.office_step.specs.Against as against
use Rattle.office_step.proofs.Passed.{none_at, test_passed}

-- a day in its range
pub in_range : (first last day : ℕ) → against.outside first last day ≡ None → (first ≤ day) × (day ≤ last)
in_range first last day none =
    let both = and_parts (nat_le first day) (nat_le day last) (test_passed (nat_le first day && nat_le day last) (Refusal.DayRange first last) none) in
    (leb-true first day both.0, leb-true day last both.1)

-- each day that a command tells lies in its range
pub record InRange (today : ℕ) (about : Matter) : Type 0 where
  pub told : IfSome about.told (λ dates. first_of (against.told_days today dates) ≡ None)
  pub from : IfSome about.from (λ from. (against.plan_day about.known ≤ from) × (from ≤ last_office_day))
  pub last : IfSome about.last (λ last. (against.plan_day about.known ≤ last) × (last ≤ against.last_day_lived))

pub days_in_range : (today : ℕ) (about : Matter) → against.day_range today about ≡ None → InRange today about
days_in_range today about none = record {
  told = each (λ dates. first_of (against.told_days today dates)) (λ dates is. is) about.told (none_at (against.days_in today about) 1 none);
  from = each (against.outside (against.plan_day about.known) last_office_day) (in_range (against.plan_day about.known) last_office_day) about.from
      (none_at (against.days_in today about) 2 none);
  last = each (against.outside (against.plan_day about.known) against.last_day_lived) (in_range (against.plan_day about.known) against.last_day_lived) about.last
      (none_at (against.days_in today about) 3 none);
}
  where
    each : {A : Type 0} (refused : A → Option Refusal) {P : A → Type 0} → ((a : A) → refused a ≡ None → P a) → (found : Option A) →
        option_and_then refused found ≡ None → IfSome found P
    each refused is None none = tt
    each refused is (Some a) none = is a none

-- a change that was told came about, was told and was worked on in that order, none of it before 2000-01-01 or after the act
pub record ToldInTurn (today : ℕ) (dates : Dates) : Type 0 where
  pub event : first_office_day ≤ dates.event
  pub notice : dates.event ≤ dates.notice
  pub done : dates.notice ≤ dates.done
  pub by_today : dates.done ≤ today

pub told_in_turn : (today : ℕ) (dates : Dates) → first_of (against.told_days today dates) ≡ None → ToldInTurn today dates
told_in_turn today dates none =
    let event = in_range first_office_day today dates.event (none_at (against.told_days today dates) 0 none) in
    let notice = in_range dates.event today dates.notice (none_at (against.told_days today dates) 1 none) in
    let done = in_range dates.notice today dates.done (none_at (against.told_days today dates) 2 none) in
    record { event = event.0; notice = notice.0; done = done.0; by_today = done.1 }

-- ---- the first day of a record

pub begins : (from last : Option ℕ) → IfSome from (λ day. day ≤ last_office_day) → IfSome last (λ day. day < last_office_day) →
    unwrap_or (option_or from (option_map (λ last. last + 1) last)) 0 ≤ last_office_day
begins (Some day) last by lived = by
begins None (Some day) by lived = omega (arith, lived)
begins None None by lived = omega arith

-- what is told of a day
pub told_of : {P Q : ℕ → Type 0} → ((day : ℕ) → P day → Q day) → (found : Option ℕ) → IfSome found P → IfSome found Q
told_of weaker None is = tt
told_of weaker (Some day) is = weaker day is

-- a record begins by 2099-12-31
pub begins_in_time : (today : ℕ) (about : Matter) → InRange today about → begins_on about ≤ last_office_day
begins_in_time today about in_range = begins about.from about.last
    (told_of (λ day is. is.1) about.from in_range.from) (told_of (λ day is. omega (arith, is.1)) about.last in_range.last)

-- and so does one that has the first day of another
pub heading_in_time : (today : ℕ) (about : Matter) → InRange today about → All (λ r. r.from ≤ last_office_day) (own about) →
    (heading : Heading) → heading_in about ≡ Some heading → heading.from ≤ last_office_day
heading_in_time today about in_range held heading is = by_target about.target is
  where
    by : begins_on about ≤ last_office_day
    by = begins_in_time today about in_range

    over : (target : Record) → target.from ≤ last_office_day → (rests : Bool) →
        (if rests then correction_heading (household_of about) target (begins_on about) else withdrawal_heading (household_of about) target).from ≤ last_office_day
    over target begun true = by
    over target begun false = begun

    by_target : (target : Option ℕ) → heading_with about target ≡ Some heading → heading.from ≤ last_office_day
    by_target None is =
        option_map_some (own_heading about) about.kind heading is (λ kind found same. rw (← same) by)
    by_target (Some number) is =
        option_map_some (heading_over about) (record_at (own about) number) heading is (λ target found same.
        rw (← same) (over target
        (find_holds (λ (held : Record). held.number == number) (λ (held : Record). held.from ≤ last_office_day) (own about) target found held).0 (certifies about.basis)))
