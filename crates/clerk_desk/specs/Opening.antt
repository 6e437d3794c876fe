-- What an office is opened on, or why it isn't.
use Rattle.std.specs.Prelude.{◌≡◌, ⊤, ℕ, Some, None, Result, Ok, Err}
use Rattle.office_io.specs.Outside.{Faulted}
use Rattle.book_rows.specs.Book.{Book, book_of}
use Rattle.keeper_core.specs.{declared.keeper.Loaded.Loaded, Keeping.BadRow}
use Rattle.office_core.specs.{Below.office_step.declared.call.Capacity.Capacity, Below.office_step.declared.fault.Fault.Fault, Below.office_step.Valid.first_fault, Office.Holding}
use Rattle.clerk_desk.specs.declared.opening.DeskFault.{DeskFault}

-- the keeper tells no other book than this one, and no bad row
pub record TellsOnly (book : Book) (holds : Book → Type 0) (bad : BadRow → Type 0) : Type 0 where
  pub holds_only : (told : Book) → holds told → told ≡ book
  pub no_bad_row : (row : BadRow) → bad row → ⊥

-- it is the first fault of the book that the keeper tells, or the bad row that it tells
pub record IsFirstFault (capacity : Capacity) (holds : Book → Type 0) (bad : BadRow → Type 0) (found : Fault) : Type 0 where
  pub of_book : (book : Book) → holds book → first_fault capacity book ≡ Some found
  pub of_row : (row : BadRow) → bad row → row ≡ record { table = found.table; act = found.act }

-- why there is no office; want of memory and a fault of the keeper say nothing of the book
abbrev pub IsUnopened : Capacity → (Book → Type 0) → (BadRow → Type 0) → DeskFault → Type 0
IsUnopened capacity holds bad (DeskFault.BadBook found) = IsFirstFault capacity holds bad found
IsUnopened capacity holds bad _ = ⊤

-- the keeper is blamed only where it counted a fault
abbrev pub BlamesKeeper : ℕ → ℕ → DeskFault → Type 0
BlamesKeeper before now DeskFault.StoreFault = Faulted before now
BlamesKeeper before now _ = now ≡ before

-- What comes of a load: an office of the tables that were loaded, or their first fault; the bad row; or that the load failed.
-- Memory may run out in the load, and while the office is made of its tables.
abbrev pub Opens : Capacity → Loaded → Result Holding DeskFault → Type 0
Opens capacity (Loaded.Rows tables) (Ok office) =
    (office.book ≡ book_of tables) × (office.capacity ≡ capacity) × (first_fault capacity (book_of tables) ≡ None)
Opens capacity (Loaded.Rows tables) (Err (DeskFault.BadBook found)) = first_fault capacity (book_of tables) ≡ Some found
Opens capacity (Loaded.Rows tables) (Err DeskFault.NoMemory) = ⊤
Opens capacity (Loaded.BadRow table act) (Err (DeskFault.BadBook found)) = found ≡ record { table = table; act = act }
Opens capacity Loaded.Failed (Err DeskFault.StoreFault) = ⊤
Opens capacity Loaded.NoMemory (Err DeskFault.NoMemory) = ⊤
Opens capacity _ _ = ⊥
