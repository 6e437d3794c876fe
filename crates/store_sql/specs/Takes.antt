-- Which rows the tables of a book's file take, and why a statement that they take fails all the same.
use Rattle.std.specs.Prelude.{◌≡◌, ◌⊎◌, ◌<◌, ℕ, ◌+◌, ◌^◌, pos, ⊤, List, [], ◌∷◌, All, None, length, IsTrue}
use Rattle.sqlite.specs.declared.types.Value.TheVariants.{Int}
use Rattle.sqlite.specs.Order.{Row, column}
use Rattle.sqlite.specs.Tree.{rowid}
use Rattle.sqlite.specs.Disk.{MoreFaults}
use Rattle.sqlite.specs.State.{State}
use Rattle.sqlite.specs.declared.error.{Error.Error, Error.TheVariants.SqliteFailure, ErrorCode.TheVariants.OutOfMemory}
use Rattle.store_sql.specs.Tables.{Table, cells, order}
use Rattle.store_sql.specs.Schema.{HasTables}

-- memory ran out, or the store counted a fault
abbrev pub IsExcused : State → State → Error → Type 0
IsExcused old new e = (e ≡ SqliteFailure OutOfMemory) ⊎ MoreFaults old.faults new.faults

-- a book's file is open, and the steps of a query have no limit
pub record IsServing (s : State) : Type 0 where
  pub is_open : IsTrue s.is_open
  pub unlimited : s.step_limit ≡ None
  pub schema : HasTables s.now.schema

-- the rows are the same at these places
abbrev pub AreSameAt : List ℕ → Row → Row → Type 0
AreSameAt [] a b = ⊤
AreSameAt (place ∷ places) a b = (column a place ≡ column b place) × AreSameAt places a b

-- none of these has the key of this one, nor the same in the two columns in which no two rows are the same
abbrev pub IsNew : {A : Type 0} → Table A → List A → A → Type 0
IsNew t others new =
    All (λ other. (AreSameAt (order t) (cells t other) (cells t new) → ⊥) × (AreSameAt t.unique (cells t other) (cells t new) → ⊥)) others

-- a row takes at most a billion bytes, of which 126 are for the numbers of an act and for where its columns end
abbrev pub longest_body : ℕ
longest_body = 999999874

-- the rows have the rowids from this one on, without a gap
abbrev pub AreNumbered : ℕ → List Row → Type 0
AreNumbered n [] = ⊤
AreNumbered n (row ∷ rows) = (rowid row ≡ Int (pos n)) × AreNumbered (n + 1) rows

-- the rows have the rowids 1, 2 and so on, and so many more are left
pub record HasNumbers (rows : List Row) (more : ℕ) : Type 0 where
  pub numbered : AreNumbered 1 rows
  pub left : length rows + more < 2 ^ 63
