-- How commands about the property are written in JSON: the plan, units, rents and income limits.
use Rattle.std.specs.Prelude.{ℕ, List, Result, Ok, codes}
use Rattle.days_core.specs.OfficeDays.{first_office_month, last_office_month}
use Rattle.serde_json.specs.Data.{Data, boolean, Members, member, no_members}
use Rattle.json_form.specs.Form.{◌>>=◌, bool_at, day_at, number_at, field}
use Rattle.json_form.specs.Written.{number_data, day_data, month_data, text_data, array_data}
use Rattle.rent_table.specs.declared.plan.Plan.{Plan}
use Rattle.book_rows.specs.declared.{property.UnitAct.UnitAct, property.RentsAct.RentsAct, property.LimitsAct.LimitsAct, command.Command.Command}
use Rattle.command_forms.specs.Fields.{month_within, name_at, preferences_at, limits_at, bounds_at, bound_data}

-- ---- the plan

-- its first month lies in the years 2000 to 2099
unfoldable pub plan_at : Data → Result Command (List ℕ)
plan_at d = do
  first ← field (codes "first") (month_within first_office_month last_office_month) d
  early ← field (codes "early") bool_at d
  method ← field (codes "method") (number_at 1 2) d
  fiscal_month ← field (codes "fiscal_month") (number_at 1 12) d
  report_days ← field (codes "report_days") (number_at 0 365) d
  passbook ← field (codes "passbook") (number_at 0 10000) d
  expected ← field (codes "expected") (number_at 0 9999) d
  bounds ← field (codes "bounds") bounds_at d
  ranks ← field (codes "ranks") (preferences_at 99) d
  Ok (Command.Plan (record { first = first; early = early; method = method; fiscal_month = fiscal_month; report_days = report_days; passbook = passbook; expected = expected; bounds = bounds; ranks = ranks }))

unfoldable pub plan_members : Plan → Members
plan_members plan =
    member (codes "bounds") (array_data bound_data plan.bounds) (
    member (codes "early") (boolean plan.early) (
    member (codes "expected") (number_data plan.expected) (
    member (codes "first") (month_data plan.first) (
    member (codes "fiscal_month") (number_data plan.fiscal_month) (
    member (codes "method") (number_data plan.method) (
    member (codes "passbook") (number_data plan.passbook) (
    member (codes "ranks") (array_data number_data plan.ranks) (
    member (codes "report_days") (number_data plan.report_days) no_members))))))))

-- ---- units

unfoldable pub unit_at : Data → Result Command (List ℕ)
unit_at d = do
  name ← field (codes "name") (name_at 10) d
  group ← field (codes "group") (number_at 1 99) d
  bedrooms ← field (codes "bedrooms") (number_at 0 5) d
  accessible ← field (codes "accessible") bool_at d
  Ok (Command.Unit (record { name = name; group = group; bedrooms = bedrooms; accessible = accessible }))

unfoldable pub unit_members : UnitAct → Members
unit_members unit =
    member (codes "accessible") (boolean unit.accessible) (
    member (codes "bedrooms") (number_data unit.bedrooms) (
    member (codes "group") (number_data unit.group) (
    member (codes "name") (text_data unit.name) no_members)))

-- ---- rents

unfoldable pub rents_at : Data → Result Command (List ℕ)
rents_at d = do
  group ← field (codes "group") (number_at 1 99) d
  from ← field (codes "from") day_at d
  contract_rent ← field (codes "contract_rent") (number_at 0 99999) d
  utility ← field (codes "utility") (number_at 0 9999) d
  Ok (Command.Rents (record { group = group; from = from; rents = record { contract_rent = contract_rent; utility = utility } }))

unfoldable pub rents_members : RentsAct → Members
rents_members rents =
    member (codes "contract_rent") (number_data rents.rents.contract_rent) (
    member (codes "from") (day_data rents.from) (
    member (codes "group") (number_data rents.group) (
    member (codes "utility") (number_data rents.rents.utility) no_members)))

-- ---- income limits

unfoldable pub limits_act_at : Data → Result Command (List ℕ)
limits_act_at d = do
  from ← field (codes "from") day_at d
  low ← field (codes "low") limits_at d
  very_low ← field (codes "very_low") limits_at d
  extremely_low ← field (codes "extremely_low") limits_at d
  Ok (Command.Limits (record { from = from; low = low; very_low = very_low; extremely_low = extremely_low }))

unfoldable pub limits_members : LimitsAct → Members
limits_members limits =
    member (codes "extremely_low") (array_data number_data limits.extremely_low) (
    member (codes "from") (day_data limits.from) (
    member (codes "low") (array_data number_data limits.low) (
    member (codes "very_low") (array_data number_data limits.very_low) no_members)))
