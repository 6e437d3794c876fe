-- Every record begins by 2099-12-31, so from then on a household has the unit that it has on that day.
use Rattle.office_laws.proofs.Words.{last_office_day, common_steps, nat_tests, ◌≡◌, ◌∙◌, sym, ap, ℕ, ◌≤◌, arith, true, List, Some, All, filter, nat_le, le-leb, All-filter, All-push, Record, is_live, live_records, latest, occupied_unit_on, unit_kept, Book, Capacity, Command, Known, known_of, own_in, record_of, Matter, matter_of, IsReached, Passed, IsHeaded, made_is_headed, filter_all, option_and_then}
use Rattle.office_step.specs.Matter.{household_of}
use Rattle.office_step.proofs.Days.{days_in_range, heading_in_time}
use Rattle.office_laws.proofs.{Inversion.passes, Known.by_acts, Own.owned}

abbrev BeginsInTime : Record → Type 0
BeginsInTime r = r.from ≤ last_office_day

made_in_time : (known : Known) (most today : ℕ) (asked : Command) (r : Record) → Passed known most today asked → record_of known asked ≡ Some r →
    ((household : ℕ) → All BeginsInTime (own_in known household)) → BeginsInTime r
made_in_time known most today asked r free is held =
    let about : Matter = matter_of known asked in
    let headed : IsHeaded known asked r = made_is_headed known asked r is in
    rw headed.under.is
    (heading_in_time today about (days_in_range today about free.day_range) (held (household_of about)) headed.heading headed.is_its)

pub begin_in_time : (capacity : Capacity) (book : Book) → IsReached capacity book → (household : ℕ) → All BeginsInTime (own_in (known_of book) household)
begin_in_time capacity =
    by_acts (λ known. (household : ℕ) → All BeginsInTime (own_in known household)) capacity
    (λ household k d within. grind (arith, common_steps, nat_tests, within))
    (λ book rows reached appends held household.
    owned (All BeginsInTime) (known_of book) appends.call.command (passes capacity book rows appends).no_such household (held household)
    (λ r is same. All-push BeginsInTime (own_in (known_of book) r.household) r (held r.household)
    (made_in_time (known_of book) capacity.acts rows.act.day appends.call.command r (passes capacity book rows appends) is held)))

-- ---- the unit that a household has

all_begun : (own : List Record) (day : ℕ) → All BeginsInTime own → last_office_day ≤ day → filter (λ r. nat_le r.from day) (live_records own) ≡ live_records own
all_begun own day in_time past =
    filter_all (λ (r : Record). nat_le r.from day) (live_records own)
    (All-filter (is_live own) (λ r. nat_le r.from day ≡ true) own (λ k d within. le-leb _ day (omega (arith, past, in_time k d within))))

-- on a later day it has the unit of 2099-12-31
pub unit_past : (own : List Record) (day : ℕ) → All BeginsInTime own → last_office_day ≤ day →
    occupied_unit_on (live_records own) day ≡ occupied_unit_on (live_records own) last_office_day
unit_past own day in_time past =
    ap (λ (begun : List Record). option_and_then unit_kept (latest begun)) (all_begun own day in_time past ∙ sym (all_begun own last_office_day in_time (omega arith)))
