-- What the acts of a book say, read by their commands.
use Rattle.std.specs.Prelude.{ℕ, ◌+◌, ◌-◌, ◌==◌, not, if◌then◌else◌, Bool, false, Option, Some, None, List, [], ◌∷◌, length, map, filter, find, fold, slice_get, unwrap_or, is_some}
use Rattle.std.specs.{List.range_with_len, List.filter_map, List.list_any, Option.option_map, Option.option_map_or}
use Rattle.rent_table.specs.declared.{plan.Plan.Plan, rows.Unit.Unit as UnitRow, rows.RentRow.RentRow, rows.LimitRow.LimitRow}
use Rattle.wait_list.specs.{declared.applicant.Applicant.Applicant, Rank.best_rank}
use Rattle.book_rows.specs.declared.{property.UnitAct.UnitAct, property.RentsAct.RentsAct, property.LimitsAct.LimitsAct, applicants.ApplyAct.ApplyAct, moves.AskTransferAct.AskTransferAct, rows.ActRow.ActRow, command.Command.Command}
use Rattle.command_forms.specs.Commands.{command_in}
use Rattle.office_step.specs.declared.known.{Application.Application, Request.Request, Closed.Closed}

-- an act that was accepted: its number and its command
pub record Act : Type 0 where
  pub n : ℕ
  pub command : Command

-- the act of a row, where its body is that of a command
abbrev pub act_of : ActRow → Option Act
act_of row = option_map (λ asked. record { n = row.n; command = asked }) (command_in row.body)

-- the acts of rows
abbrev pub acts_of : List ActRow → List Act
acts_of rows = filter_map act_of rows

-- ---- lists

-- the first of a list
abbrev pub first_in : {A : Type 0} → List A → Option A
first_in items = slice_get items 0

-- the last of a list
abbrev pub last_in : {A : Type 0} → List A → Option A
last_in items = fold (λ earlier item. Some item) None items

-- the items with the numbers from that one on
abbrev pub numbered : {A B : Type 0} → (ℕ → A → B) → ℕ → List A → List B
numbered make number [] = []
numbered make number (item ∷ items) = make number item ∷ numbered make (number + 1) items

-- the item of that number, of items numbered from 1
abbrev pub at_number : {A : Type 0} → List A → ℕ → Option A
at_number items number = if number == 0 then None else slice_get items (number - 1)

-- ---- the plan

abbrev pub plan_in : Command → Option Plan
plan_in (Command.Plan plan) = Some plan
plan_in _ = None

-- the office's plan
abbrev pub plan_of : List Act → Option Plan
plan_of acts = first_in (filter_map (λ act. plan_in act.command) acts)

-- the act that gave it
abbrev pub plan_act : List Act → Option ℕ
plan_act acts = option_map (λ act. act.n) (find (λ act. is_some (plan_in act.command)) acts)

-- ---- units, rents and limits

abbrev pub unit_in : Command → Option UnitAct
unit_in (Command.Unit unit) = Some unit
unit_in _ = None

abbrev pub unit_row : ℕ → UnitAct → UnitRow
unit_row number unit = record { number = number; name = unit.name; group = unit.group; bedrooms = unit.bedrooms; accessible = unit.accessible }

-- the units, numbered from 1 in the order of their acts
abbrev pub units_of : List Act → List UnitRow
units_of acts = numbered unit_row 1 (filter_map (λ act. unit_in act.command) acts)

abbrev pub rents_in : Command → Option RentsAct
rents_in (Command.Rents rents) = Some rents
rents_in _ = None

abbrev pub rent_row : ℕ → RentsAct → RentRow
rent_row act rents = record { group = rents.group; from = rents.from; act = act; rents = rents.rents }

-- the rents, in the order of their acts
abbrev pub rents_of : List Act → List RentRow
rents_of acts = filter_map (λ act. option_map (rent_row act.n) (rents_in act.command)) acts

abbrev pub limits_in : Command → Option LimitsAct
limits_in (Command.Limits limits) = Some limits
limits_in _ = None

abbrev pub limit_row : ℕ → LimitsAct → LimitRow
limit_row act limits = record { from = limits.from; act = act; low = limits.low; very_low = limits.very_low; extremely_low = limits.extremely_low }

-- the income limits, in the order of their acts
abbrev pub limits_of : List Act → List LimitRow
limits_of acts = filter_map (λ act. option_map (limit_row act.n) (limits_in act.command)) acts

-- ---- applicants

abbrev pub application_by : ℕ → ApplyAct → Application
application_by act apply = record { act = act; apply = apply }

abbrev pub apply_in : Command → Option ApplyAct
apply_in (Command.Apply apply) = Some apply
apply_in _ = None

-- the applications, in the order of their acts
abbrev pub applications_of : List Act → List Application
applications_of acts = filter_map (λ act. option_map (application_by act.n) (apply_in act.command)) acts

-- an applicant, ranked by the plan's ranks of preferences
abbrev pub applicant_of : List ℕ → ℕ → Application → Applicant
applicant_of ranks number application = record {
  number = number;
  act = application.act;
  size = application.apply.size;
  persons = application.apply.persons;
  rank = best_rank ranks application.apply.preferences;
  accessible = application.apply.accessible;
  annual = application.apply.annual;
}

-- the ranks of preferences: the plan's, and none where there is no plan
abbrev pub ranks_of : Option Plan → List ℕ
ranks_of plan = option_map_or (λ plan. plan.ranks) plan []

-- all who ever applied, numbered from 1 in the order of their acts
abbrev pub applicants_of : List ℕ → List Act → List Applicant
applicants_of ranks acts = numbered (applicant_of ranks) 1 (applications_of acts)

-- the command removes or admits the applicant of that number
abbrev pub takes_off_list : ℕ → Command → Bool
takes_off_list number (Command.Remove remove) = remove.applicant == number
takes_off_list number (Command.Admit admit) = admit.applicant == number
takes_off_list number _ = false

-- the applicants who were neither removed nor admitted
abbrev pub waiting_of : List ℕ → List Act → List Applicant
waiting_of ranks acts =
    filter (λ applicant. not (list_any (λ act. takes_off_list applicant.number act.command) acts)) (applicants_of ranks acts)

-- ---- households

-- the name of the household that the command makes, if it makes one: its own, or that of the applicant
abbrev pub name_given : List Application → Command → Option (List ℕ)
name_given applications (Command.Start start) = Some start.name
name_given applications (Command.Admit admit) =
    Some (unwrap_or (option_map (λ application. application.apply.name) (at_number applications admit.applicant)) [])
name_given applications _ = None

-- the names of the households, numbered from 1 in the order of the acts that made them
abbrev pub names_of : List Act → List (List ℕ)
names_of acts = filter_map (λ act. name_given (applications_of acts) act.command) acts

-- how many households there are
abbrev pub household_count : List Act → ℕ
household_count acts = length (names_of acts)

abbrev pub ask_in : Command → Option AskTransferAct
ask_in (Command.AskTransfer ask) = Some ask
ask_in _ = None

abbrev pub request_by : ℕ → AskTransferAct → Request
request_by act ask = record { act = act; wanted = ask.wanted; accessible = ask.accessible }

abbrev pub request_of : ℕ → Act → Option Request
request_of household act =
    option_map (request_by act.n)
    (filtered (λ ask. ask.household == household) (ask_in act.command))
  where
    filtered : (AskTransferAct → Bool) → Option AskTransferAct → Option AskTransferAct
    filtered passes None = None
    filtered passes (Some ask) = if passes ask then Some ask else None

-- the last that a household said of it
abbrev pub last_request : List Act → ℕ → Option Request
last_request acts household = last_in (filter_map (request_of household) acts)

-- the last of each household
abbrev pub requests_of : List Act → List (Option Request)
requests_of acts = map (last_request acts) (range_with_len 1 (household_count acts))

-- ---- closings

abbrev pub month_in : Command → Option ℕ
month_in (Command.Close close) = Some close.month
month_in _ = None

abbrev pub closing_of : Act → Option Closed
closing_of act = option_map (λ month. record { act = act.n; month = month }) (month_in act.command)

-- the last closing
abbrev pub last_closing : List Act → Option Closed
last_closing acts = last_in (filter_map closing_of acts)
