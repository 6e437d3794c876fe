-- What stands against a command: every test in its one order, over what the command is about.
use Rattle.std.specs.Prelude.{ℕ, ◌-◌, ◌==◌, ◌&&◌, ◌||◌, not, nat_le, nat_lt, nat_eq, Bool, false, if◌then◌else◌, Option, Some, None, option_and_then, List, [], ◌∷◌, length, is_some}
use Rattle.std.specs.Option.{option_eq, option_map, option_map_or}
use Rattle.days_core.specs.{Calendar.first_of as first_day_of, Calendar.last_of as last_day_of, OfficeDays.first_office_day, OfficeDays.last_office_day}
use Rattle.facts_core.specs.Rules.{broken_rule}
use Rattle.payment_rules.specs.Payment.{gross_rent_of}
use Rattle.record_history.specs.{declared.records.Dates.Dates, declared.records.Kind.Kind, declared.records.Record.Record, Records.is_live_as_of, Records.live_records, Records.newest_number}
use Rattle.rent_table.specs.{declared.plan.Plan.Plan, declared.rows.Unit.Unit as UnitRow, Admission.suits, Admission.admission_limit, Table.unit_at, Table.unit_named, Table.rents_on, Table.limits_on}
use Rattle.due_dates.specs.Stale.{gross_day_of}
use Rattle.tenancy_rules.specs.{declared.change.Change.Change, Changed.changed_records, Order.first_out_of_order, Order.is_move_in, Occupancy.first_double_use}
use Rattle.wait_list.specs.{declared.ask.Candidate.Candidate, Next.next_candidate, Waiting.is_listed}
use Rattle.book_rows.specs.declared.command.Command.{Command}
use Rattle.office_step.specs.{declared.heading.Heading.Heading, declared.moving.MoveIn.MoveIn, declared.refusal.Named.Named, declared.refusal.Refusal.Refusal, declared.rightful.Rightful.Rightful, Known.Known, Known.own_in, Households.record_at, Households.change_by, Households.rests_on_facts, Candidates.asked_of}
use Rattle.office_step.specs.Matter.{Matter, Basis, from_facts, certifies, matter_of, own}
use Rattle.office_step.specs.Made.{heading_in, record_in}
use Rattle.office_step.specs.Refusals.{first_of, refused_if, refused_unless, annual_right, interim_right, resume_right, corrected_right, next_to_close, household_rent_due, household_overdue, first_household}

-- ---- 2 to 4: the plan and the room of the book

abbrev pub no_plan : Matter → Option Refusal
no_plan about = refused_if (not about.gives_plan && not (is_some about.known.plan_act)) Refusal.NoPlan

abbrev pub plan_given : Matter → Option Refusal
plan_given about = if about.gives_plan then option_map (λ act. Refusal.PlanGiven act) about.known.plan_act else None

-- the book holds as many acts as it may
abbrev pub book_full : ℕ → Matter → Option Refusal
book_full most about = refused_if (nat_le most about.known.count) (Refusal.BookFull about.known.count)

-- ---- 5: numbers that name nothing, the household before what it has

abbrev pub none_such : Named → (ℕ → Bool) → Option ℕ → Option Refusal
none_such what is_there named = option_and_then (λ number. refused_unless (is_there number) (Refusal.NoSuch what number)) named

abbrev pub is_household : Known → ℕ → Bool
is_household known household = nat_le 1 household && nat_le household (length known.households)

-- there is no such household
abbrev pub no_household : Known → ℕ → Option Refusal
no_household known household = none_such Named.Household (is_household known) (Some household)

-- the record may be withdrawn, and corrected if it was computed from facts
abbrev pub may_be_named : Matter → Record → Bool
may_be_named about r = not (certifies about.basis) || rests_on_facts r.kind

abbrev pub names_in : Matter → List (Option Refusal)
names_in about =
    none_such Named.Household (is_household about.known) about.household
    ∷ none_such Named.Applicant (is_listed about.known.waiting) about.applicant
    ∷ none_such Named.Unit (λ unit. is_some (unit_at about.known.units unit)) about.unit
    ∷ none_such Named.Record (λ target. option_map_or (may_be_named about) (record_at (own about) target) false) about.target ∷ []

abbrev pub no_such : Matter → Option Refusal
no_such about = first_of (names_in about)

-- ---- 6 and 7: what the clerk saw of the household

-- it has a newer record
abbrev pub stale : Matter → Option Refusal
stale about = option_and_then (λ seen. refused_if (nat_lt seen (newest_number (own about))) (Refusal.Stale (newest_number (own about)))) about.seen

-- it has no record so new
abbrev pub unseen : Matter → Option Refusal
unseen about = option_and_then (λ seen. refused_if (nat_lt (newest_number (own about)) seen) (Refusal.Unseen (newest_number (own about)))) about.seen

-- ---- 8: the facts, on the first day of the record

abbrev pub rule_broken : Basis → ℕ → Option Refusal
rule_broken (from_facts facts) from = option_map (λ rule. Refusal.FactsRule rule) (broken_rule facts from)
rule_broken _ from = None

abbrev pub facts_rule : Matter → Option Refusal
facts_rule about = option_and_then (rule_broken about.basis) about.from

-- ---- 9: the days, in the order of their fields

-- 2099-12-30
abbrev pub last_day_lived : ℕ
last_day_lived = last_office_day - 1

-- the first day of the plan, and 0 if there is none
abbrev pub plan_day : Known → ℕ
plan_day known = option_map_or (λ plan. first_day_of plan.first) known.plan 0

-- the day lies outside its range
abbrev pub outside : ℕ → ℕ → ℕ → Option Refusal
outside first last day = refused_unless (nat_le first day && nat_le day last) (Refusal.DayRange first last)

-- of the days of a change that was told, each lies from the one before it to the act's
abbrev pub told_days : ℕ → Dates → List (Option Refusal)
told_days today dates =
    outside first_office_day today dates.event ∷ outside dates.event today dates.notice ∷ outside dates.notice today dates.done ∷ []

abbrev pub days_in : ℕ → Matter → List (Option Refusal)
days_in today about =
    option_and_then (outside first_office_day last_office_day) about.sets_from
    ∷ option_and_then (λ dates. first_of (told_days today dates)) about.told
    ∷ option_and_then (outside (plan_day about.known) last_office_day) about.from
    ∷ option_and_then (outside (plan_day about.known) last_day_lived) about.last ∷ []

abbrev pub day_range : ℕ → Matter → Option Refusal
day_range today about = first_of (days_in today about)

-- ---- 10 and 11: rents, and for a move-in limits, on the first day of the record

abbrev pub no_rent_on : Known → Heading → Option Refusal
no_rent_on known heading = option_and_then (λ unit.
    refused_unless (is_some (rents_on known.rents unit.group heading.from)) (Refusal.NoRent unit.group heading.from)) (unit_at known.units heading.unit)

abbrev pub no_rent : Matter → Option Refusal
no_rent about = if certifies about.basis then option_and_then (no_rent_on about.known) (heading_in about) else None

abbrev pub no_limits : Matter → Option Refusal
no_limits about = option_and_then (λ heading.
    refused_unless (not (is_move_in heading.kind) || is_some (limits_on about.known.limits heading.from)) (Refusal.NoLimits heading.from)) (heading_in about)

-- ---- 12: the record that is corrected or withdrawn

abbrev pub not_live : Matter → Option Refusal
not_live about = option_and_then (λ target.
    refused_unless (is_live_as_of about.known.count (own about) target) (Refusal.NotLive target)) about.target

-- ---- 13: the rightful day

-- by the payment that it would come to
abbrev pub by_payment : Matter → (ℕ → ℕ → Rightful) → Rightful
by_payment about right = option_map_or (λ made.
    option_map_or (λ plan. right made.ttp plan.report_days) about.known.plan Rightful.Any) (record_in about) Rightful.Any

-- of a record of its own kind
abbrev pub own_right : Matter → Option Kind → Option Dates → Rightful
own_right about (Some Kind.AR) told = Rightful.Only (annual_right (own about))
own_right about (Some Kind.GR) told = Rightful.Only (gross_day_of (own about) about.known.units about.known.rents)
own_right about (Some Kind.IR) (Some dates) = by_payment about (interim_right (live_records (own about)) dates)
own_right about (Some Kind.IC) (Some dates) = Rightful.Only (Some (resume_right dates.done))
own_right about _ told = Rightful.Any

-- of a correction
abbrev pub right_of : Matter → Option ℕ → Rightful
right_of about None = own_right about about.kind about.told
right_of about (Some number) =
    option_map_or (λ target. by_payment about (corrected_right (own about) target)) (record_at (own about) number) Rightful.Any

abbrev pub wrong : Rightful → ℕ → Option Refusal
wrong Rightful.Any from = None
wrong (Rightful.Only right) from = refused_unless (option_eq nat_eq right (Some from)) (Refusal.WrongDay right)

abbrev pub wrong_day : Matter → Option Refusal
wrong_day about = option_and_then (wrong (right_of about about.target)) about.from

-- ---- 14 to 17: order, names and places

-- a record would be out of order after the change
abbrev pub out_of_order : List Record → Change → Option Refusal
out_of_order own change = option_map (λ r. Refusal.Disorder r.number) (first_out_of_order (changed_records own change))

abbrev pub disorder : Matter → Option Refusal
disorder about = option_and_then (λ household.
    option_and_then (λ made. out_of_order (own_in about.known made.household) (change_by made)) (record_in about)) about.household

abbrev pub name_taken : Matter → Option Refusal
name_taken about = option_and_then (λ name. option_map (λ unit. Refusal.NameTaken unit) (unit_named about.known.units name)) about.name

-- a move, with the plan and the unit
pub record Moving : Type 0 where
  pub plan : Plan
  pub unit : UnitRow
  pub candidate : Candidate
  pub from : ℕ

abbrev pub moving_on : Known → MoveIn → Plan → Option Moving
moving_on known moves plan = option_map (λ unit.
    record { plan = plan; unit = unit; candidate = moves.candidate; from = moves.from }) (unit_at known.units moves.unit)

abbrev pub moving_of : Matter → Option Moving
moving_of about = option_and_then (λ plan. option_and_then (λ moves. moving_on about.known moves plan) about.moves) about.known.plan

-- the unit isn't for so many persons
abbrev pub size_misfit : Matter → Option Refusal
size_misfit about = option_and_then (λ move. option_and_then (λ made.
    refused_unless (suits move.plan move.unit made.persons) (Refusal.SizeMisfit move.unit.number made.persons)) (record_in about)) (moving_of about)

-- it names the unit of its record, or another record, or assistance begins again by it: its household may come to have a
-- unit that another has
abbrev pub may_collide : Matter → Bool
may_collide about = is_some about.unit || (is_some about.target || about.begins)

-- the other household that would have the unit, and the least day on which it would
abbrev pub taken : List (List Record) → ℕ → Change → Option Refusal
taken households household change = option_map (λ found. Refusal.UnitTaken found.household found.day) (first_double_use households household change)

abbrev pub unit_taken : Matter → Option Refusal
unit_taken about =
    if may_collide about then option_and_then (λ made. taken about.known.households made.household (change_by made)) (record_in about) else None

-- ---- 18 to 20: admission

-- it is the same applicant or the same household
abbrev pub is_same_candidate : Candidate → Candidate → Bool
is_same_candidate (Candidate.Applicant number) (Candidate.Applicant other) = number == other
is_same_candidate (Candidate.Household number) (Candidate.Household other) = number == other
is_same_candidate _ _ = false

-- who is next for the unit on the day
abbrev pub next_for : Known → Moving → Option Candidate
next_for known move =
    next_candidate (asked_of move.plan move.unit move.from (limits_on known.limits move.from) known.requests known.households) known.waiting

abbrev pub other_next : Option Candidate → Candidate → Option Refusal
other_next next candidate = refused_unless (option_map_or (λ c. is_same_candidate c candidate) next false) (Refusal.NotNext next)

abbrev pub not_next : Matter → Option Refusal
not_next about = option_and_then (λ move. other_next (next_for about.known move) move.candidate) (moving_of about)

-- the income of who is admitted is above the limit of the family's size
abbrev pub above_limit : Known → Record → Option Refusal
above_limit known made = option_and_then (λ plan. option_and_then (λ row.
    refused_if (nat_lt (admission_limit plan row made.size) made.annual) (Refusal.Ineligible (admission_limit plan row made.size) made.annual))
    (limits_on known.limits made.from)) known.plan

abbrev pub ineligible : Matter → Option Refusal
ineligible about = option_and_then (λ applicant. option_and_then (above_limit about.known) (record_in about)) about.applicant

-- there is nothing for the office to pay
abbrev pub nothing_paid : Record → Option Refusal
nothing_paid made = refused_if (made.assistance == 0) (Refusal.NoAssistance made.ttp (gross_rent_of made.rents))

abbrev pub no_assistance : Matter → Option Refusal
no_assistance about = if about.begins then option_and_then nothing_paid (record_in about) else None

-- ---- 21 to 23: closing

-- the next month to close
abbrev pub next_month : Known → Option ℕ
next_month known = option_and_then (λ plan. next_to_close plan.first (option_map (λ closing. closing.month) known.closing)) known.plan

abbrev pub wrong_month : Matter → Option Refusal
wrong_month about = option_and_then (λ month.
    refused_unless (option_eq nat_eq (next_month about.known) (Some month)) (Refusal.WrongMonth (next_month about.known))) about.month

-- the least household of which rents are due through the month, from the plan's first day
abbrev pub rents_due : Known → ℕ → Option Refusal
rents_due known month = first_household (λ household.
    household_rent_due (own_in known household) known.units known.rents (plan_day known) (last_day_of month) household) (length known.households)

abbrev pub rent_due : Matter → Option Refusal
rent_due about = option_and_then (rents_due about.known) about.month

-- the least household that is overdue for the month
abbrev pub all_overdue : Known → ℕ → Option Refusal
all_overdue known month = first_household (λ household. household_overdue (own_in known household) month household) (length known.households)

abbrev pub overdue : Matter → Option Refusal
overdue about = option_and_then (all_overdue about.known) about.month

-- ---- all of these

-- where the book may hold so many acts, on that day
abbrev pub tests_on : ℕ → ℕ → Matter → List (Option Refusal)
tests_on most today about =
    no_plan about
    ∷ plan_given about
    ∷ book_full most about
    ∷ no_such about
    ∷ stale about
    ∷ unseen about
    ∷ facts_rule about
    ∷ day_range today about
    ∷ no_rent about
    ∷ no_limits about
    ∷ not_live about
    ∷ wrong_day about
    ∷ disorder about
    ∷ name_taken about
    ∷ size_misfit about
    ∷ unit_taken about
    ∷ not_next about
    ∷ ineligible about
    ∷ no_assistance about
    ∷ wrong_month about
    ∷ rent_due about
    ∷ overdue about ∷ []

abbrev pub tests_of : Known → ℕ → ℕ → Command → List (Option Refusal)
tests_of known most today asked = tests_on most today (matter_of known asked)

-- the first that stands
abbrev pub refused_by : Known → ℕ → ℕ → Command → Option Refusal
refused_by known most today asked = first_of (tests_of known most today asked)
