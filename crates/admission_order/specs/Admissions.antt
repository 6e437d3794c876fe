-- The admissions of a fiscal year by its number.
use Rattle.std.specs.Prelude.{ℕ, ◌&&◌, ◌==◌, Bool}
use Rattle.days_core.specs.Calendar.{month_of}
use Rattle.record_history.specs.declared.records.Record.{Record}
use Rattle.rent_table.specs.declared.plan.Plan.{Plan}
use Rattle.office_register.specs.Below.office_step.Candidates.{fiscal_year}
use Rattle.tenancy_rules.specs.Order.{is_move_in}

-- the record is a move-in of the fiscal year of that number
abbrev pub is_admission_of : Plan → ℕ → Record → Bool
is_admission_of plan year r = is_move_in r.kind && fiscal_year plan (month_of r.from) == year
