-- Who may be admitted to a unit: how many persons it is for, and how much income a family may have.
use Rattle.std.specs.Prelude.{ℕ, ◌-◌, ◌&&◌, nat_le, if◌then◌else◌, Bool, List, slice_index_or}
use Rattle.rent_table.specs.declared.{plan.Bound.Bound, plan.Plan.Plan, rows.Unit.Unit as UnitRow, rows.LimitRow.LimitRow}

-- so many persons lie within the bounds that the plan sets for units of so many bedrooms (Handbook 4350.3 REV-1, chapter 3,
-- in outline; the bounds are the plan's)
abbrev pub suits : Plan → UnitRow → ℕ → Bool
suits plan unit persons =
    nat_le (bound_of plan unit).least persons && nat_le persons (bound_of plan unit).most
  where
    bound_of : Plan → UnitRow → Bound
    bound_of plan unit = slice_index_or plan.bounds unit.bedrooms (record { least = 1; most = 0 })

-- the limit of a list for sizes from 1 on
abbrev pub limit_for : List ℕ → ℕ → ℕ
limit_for limits size = slice_index_or limits (size - 1) 0

-- The greatest annual income with which a family of the size may be admitted: the low limit where the contract took effect
-- before 1 October 1981, else the very low limit (24 CFR 5.653; Handbook 4350.3 REV-1, chapter 3).
abbrev pub admission_limit : Plan → LimitRow → ℕ → ℕ
admission_limit plan limits size = if plan.early then limit_for limits.low size else limit_for limits.very_low size

-- a family of the size has an annual income of at most the extremely low limit (24 CFR 5.603(b))
abbrev pub has_extremely_low_income : LimitRow → ℕ → ℕ → Bool
has_extremely_low_income limits size annual = nat_le annual (limit_for limits.extremely_low size)
