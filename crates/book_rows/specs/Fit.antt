-- Which commands are fit: each of their fields lies in its range.
--
-- Days, months and the facts of a household are fit by their types, and so are the numbers of applicants, households,
-- units and records. The ranges are the office's own.
use Rattle.std.specs.Prelude.{ℕ, ◌-◌, ◌&&◌, ◌==◌, nat_le, Bool, true, not, List, length, slice_index_or}
use Rattle.std.specs.List.{list_all}
use Rattle.days_core.specs.{declared.rents.Rents.Rents, OfficeDays.first_office_month, OfficeDays.last_office_month}
use Rattle.rent_table.specs.declared.plan.{Bound.Bound, Plan.Plan}
use Rattle.book_rows.specs.declared.{property.UnitAct.UnitAct, property.RentsAct.RentsAct, property.LimitsAct.LimitsAct, applicants.ApplyAct.ApplyAct, command.Command.Command}

-- the number lies in the range
abbrev pub is_within : ℕ → ℕ → ℕ → Bool
is_within least most number = nat_le least number && nat_le number most

-- ---- names

-- a byte from the space to the tilde
abbrev pub is_printable : ℕ → Bool
is_printable byte = is_within 32 126 byte

abbrev pub begins_with_space : List ℕ → Bool
begins_with_space text = slice_index_or text 0 0 == 32

abbrev pub ends_with_space : List ℕ → Bool
ends_with_space text = slice_index_or text (length text - 1) 0 == 32

-- from one to so many printable bytes, with no space at either end
abbrev pub is_name : ℕ → List ℕ → Bool
is_name most text =
    is_within 1 most (length text)
    && (list_all is_printable text && (not (begins_with_space text) && not (ends_with_space text)))

-- ---- the plan

-- the least number of persons is at most the most
abbrev pub is_bound : Bound → Bool
is_bound bound = is_within 1 16 bound.least && (is_within 1 16 bound.most && nat_le bound.least bound.most)

-- bounds for 0 to 5 bedrooms
abbrev pub are_bounds : List Bound → Bool
are_bounds bounds = length bounds == 6 && list_all is_bound bounds

-- the ranks of at most 16 preferences
abbrev pub are_ranks : List ℕ → Bool
are_ranks ranks = nat_le (length ranks) 16 && list_all (is_within 1 99) ranks

-- a plan begins in the years 2000 to 2099
abbrev pub is_plan : Plan → Bool
is_plan plan =
    is_within first_office_month last_office_month plan.first
    && (is_within 1 2 plan.method
    && (is_within 1 12 plan.fiscal_month
    && (nat_le plan.report_days 365
    && (nat_le plan.passbook 10000
    && (nat_le plan.expected 9999
    && (are_bounds plan.bounds && are_ranks plan.ranks))))))

-- ---- units, rents and limits

abbrev pub is_group : ℕ → Bool
is_group group = is_within 1 99 group

abbrev pub is_unit : UnitAct → Bool
is_unit unit = is_name 10 unit.name && (is_group unit.group && nat_le unit.bedrooms 5)

abbrev pub are_rents : Rents → Bool
are_rents rents = nat_le rents.contract_rent 99999 && nat_le rents.utility 9999

abbrev pub is_rents : RentsAct → Bool
is_rents rents = is_group rents.group && are_rents rents.rents

-- limits for 1 to 12 persons, in whole dollars a year
abbrev pub are_limits : List ℕ → Bool
are_limits limits = length limits == 12 && list_all (λ limit. nat_le limit 9999999) limits

abbrev pub is_limits : LimitsAct → Bool
is_limits limits = are_limits limits.low && (are_limits limits.very_low && are_limits limits.extremely_low)

-- ---- applicants

-- the codes of at most 16 preferences
abbrev pub are_preferences : List ℕ → Bool
are_preferences codes = nat_le (length codes) 16 && list_all (is_within 1 16) codes

-- an applicant of a family of 1 to 12, of whom all and perhaps some aides will live in the unit
abbrev pub is_application : ApplyAct → Bool
is_application apply =
    is_name 40 apply.name
    && (is_within 1 12 apply.size
    && (is_within apply.size 16 apply.persons && (are_preferences apply.preferences && nat_le apply.annual 9999999)))

-- ---- commands

abbrev pub is_fit : Command → Bool
is_fit (Command.Plan plan) = is_plan plan
is_fit (Command.Unit unit) = is_unit unit
is_fit (Command.Rents rents) = is_rents rents
is_fit (Command.Limits limits) = is_limits limits
is_fit (Command.Apply apply) = is_application apply
is_fit (Command.Start start) = is_name 40 start.name
is_fit _ = true
