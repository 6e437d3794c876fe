-- What it comes to, in plain facts, that rents and income limits stand on a day (own rules).
use Rattle.std.specs.Prelude.{◌≡◌, ◌≤◌, ℕ, List, Contains}
use Rattle.rent_table.specs.declared.rows.{RentRow.RentRow, LimitRow.LimitRow}

-- The row is one of the rows, sets rents of the group, and begins by the day.
pub record SetsRentsBy (rows : List RentRow) (group day : ℕ) (row : RentRow) : Type 0 where
  pub held : Contains rows row
  pub of_group : row.group ≡ group
  pub begun : row.from ≤ day

-- It sets rents of the group by the day, none that does begins later, and of those that begin on its day none is of a
-- later act.
pub record SetsRentsOn (rows : List RentRow) (group day : ℕ) (row : RentRow) : Type 0 where
  pub sets : SetsRentsBy rows group day row
  pub begins_last : (other : RentRow) → SetsRentsBy rows group day other → other.from ≤ row.from
  pub acted_last : (other : RentRow) → SetsRentsBy rows group day other → other.from ≡ row.from → other.act ≤ row.act

-- The row is one of the rows, and begins by the day.
pub record SetsLimitsBy (rows : List LimitRow) (day : ℕ) (row : LimitRow) : Type 0 where
  pub held : Contains rows row
  pub begun : row.from ≤ day

-- It sets limits by the day, none that does begins later, and of those that begin on its day none is of a later act.
pub record SetsLimitsOn (rows : List LimitRow) (day : ℕ) (row : LimitRow) : Type 0 where
  pub sets : SetsLimitsBy rows day row
  pub begins_last : (other : LimitRow) → SetsLimitsBy rows day other → other.from ≤ row.from
  pub acted_last : (other : LimitRow) → SetsLimitsBy rows day other → other.from ≡ row.from → other.act ≤ row.act
