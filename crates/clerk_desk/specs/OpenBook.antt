-- An open book: an office, and the keeper of its book.
use Rattle.std.specs.Prelude.{◌≡◌}
use Rattle.book_rows.specs.Book.{Book}
use Rattle.keeper_core.specs.declared.keeper.Keeper as keeper
use Rattle.keeper_core.specs.Keeping.{Keeps}
use Rattle.office_core.specs.Office.{Holding}

-- the keeper tells no other book than the office's
abbrev pub IsOpen : {K : Type 0} → keeper.Ghosts K → Holding → K → Type 0
IsOpen tells office its = (book : Book) → tells.holds its book → book ≡ office.book

-- what the keeper tells now it told before, perhaps of another book
abbrev pub ToldBefore : (Book → Type 0) → (Book → Type 0) → Type 0
ToldBefore holds holds_now = (book : Book) → holds_now book → (was : Book) × holds was

-- a keeper that is well was well before, and tells the book now where it told one
abbrev pub TellsOn : (was_well well : Type 0) → (Book → Type 0) → (Book → Type 0) → Book → Type 0
TellsOn was_well well holds holds_now now = well → was_well × ((told : Book) → holds told → holds_now now)

-- It is open still, and the office holds as much. What the keeper tells now it told before, and while it is well it tells on.
pub record StaysOpen {K : Type 0} (tells : keeper.Ghosts K) (office : Holding) (was : K) (office_now : Holding) (now : K) : Type 0 where
  pub kept : IsOpen tells office_now now
  pub capacity : office_now.capacity ≡ office.capacity
  pub told_before : ToldBefore (tells.holds was) (tells.holds now)
  pub tells_on : TellsOn (tells.is_well was) (tells.is_well now) (tells.holds was) (tells.holds now) office_now.book
  pub kept_row : Keeps (tells.bad was) (tells.bad now)
  pub crash_told : tells.tells_crash now → tells.tells_crash was
