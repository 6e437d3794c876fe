-- Rows as they are read: the first that doesn't fit its table, and what they stand for if each does.
use Rattle.std.specs.Prelude.{◌≡◌, ℕ, Bool, true, false, not, unsigned_abs, if◌then◌else◌, List, [], ◌∷◌, map, Option, None, Some, option_map, find, All}
use Rattle.std.specs.Option.{option_or}
use Rattle.sqlite.specs.Order.{Row, column}
use Rattle.sqlite.specs.Edit.{id_in}
use Rattle.book_rows.specs.declared.rows.{Table.Table as Part, Table.TheVariants.Acts, Table.TheVariants.Records, Table.TheVariants.Lines}
use Rattle.keeper_core.specs.declared.keeper.{Loaded.Loaded}
use Rattle.keeper_core.specs.Keeping.{BadRow}
use Rattle.store_sql.specs.Cells.{is_number}
use Rattle.store_sql.specs.Tables.{Table, cells, fits}
use Rattle.store_sql.specs.Types.{is_typed}
use Rattle.store_sql.specs.Columns.{acts, records, lines}

-- the first that doesn't fit
abbrev pub first_unfit : {X : Type 0} → (X → Bool) → List X → Option X
first_unfit fit rows = find (λ row. not (fit row)) rows

-- there is none, or the first doesn't fit
abbrev pub BeginsUnfit : {X : Type 0} → (X → Bool) → List X → Type 0
BeginsUnfit fit [] = Unit {0}
BeginsUnfit fit (row ∷ rows) = fit row ≡ false

-- those fit, and the rest begins with one that doesn't
pub record AreFitting {X : Type 0} (fits : X → Bool) (fitting rest : List X) : Type 0 where
  pub fit : All (λ row. fits row ≡ true) fitting
  pub unfit : BeginsUnfit fits rest

-- the act by which a row is named, which is its first cell: 0 if that is no number of an act
abbrev pub named : Row → ℕ
named row = if is_number (column row 0) then unsigned_abs (id_in (column row 0)) else 0

-- a row that doesn't fit: None if a cell isn't even of its column's type
abbrev pub unfit_row : {A : Type 0} → Table A → Part → Row → Option BadRow
unfit_row t part row = if is_typed t row then Some (record { table = part; act = named row }) else None

abbrev pub unfit_in : {A : Type 0} → Table A → Part → List Row → Option (Option BadRow)
unfit_in t part rows = option_map (unfit_row t part) (first_unfit (fits t) rows)

-- the acts come first, then the records, then the lines
abbrev pub first_bad : List Row → List Row → List Row → Option (Option BadRow)
first_bad act_rows record_rows line_rows =
    option_or (unfit_in acts Acts act_rows) (option_or (unfit_in records Records record_rows) (unfit_in lines Lines line_rows))

-- a load answers so for such a row
abbrev pub IsUnfit : Option BadRow → Loaded → Type 0
IsUnfit unfit (Loaded.Rows tables) = ⊥
IsUnfit unfit (Loaded.BadRow table act) = unfit ≡ Some (record { table = table; act = act })
IsUnfit unfit Loaded.Failed = unfit ≡ None
IsUnfit unfit Loaded.NoMemory = ⊥

-- the rows that these stand for if each fits its table; else the first that doesn't, or Failed if a cell of it isn't of its
-- column's type
abbrev pub Narrows : List Row → List Row → List Row → Loaded → Type 0
Narrows act_rows record_rows line_rows (Loaded.Rows tables) =
    (first_bad act_rows record_rows line_rows ≡ None)
    × ((map (cells acts) tables.acts.items ≡ act_rows) × ((map (cells records) tables.records.items ≡ record_rows) × (map (cells lines) tables.lines.items ≡ line_rows)))
Narrows act_rows record_rows line_rows (Loaded.BadRow table act) = first_bad act_rows record_rows line_rows ≡ Some (Some (record { table = table; act = act }))
Narrows act_rows record_rows line_rows Loaded.Failed = first_bad act_rows record_rows line_rows ≡ Some None
Narrows act_rows record_rows line_rows Loaded.NoMemory = ⊥
