-- What follows of the rule for a pass, whatever the office does.
use Rattle.std.specs.Prelude.{◌≡◌, ◌≢◌, ◌≤◌, ◌<◌, ◌⊎◌, ℕ, List, [], ◌++◌, All, Contains}
use mathlib.Core.List.{IsPrefix}
use Rattle.book_rows.specs.declared.rows.ActRow.{ActRow}
use Rattle.book_rows.specs.declared.rows.Batch.{Batch}
use Rattle.desk_history.specs.declared.views.BookView.{BookView}
use Rattle.desk_history.specs.declared.views.PassView.{PassView}
use Rattle.desk_history.specs.declared.views.NoteView.{NoteView}
use Rattle.desk_history.specs.declared.views.HoldingView.{HoldingView}
use Rattle.desk_history.specs.Seen.{entries_of, tries_of, point_of}
use Rattle.desk_history.specs.Moves.{GrowsBy, booked, looked, unkept, returned, learned}
use Rattle.desk_history.specs.Rule.{IsHome, IsHeld, IsNoteOf}

-- the entries of a number are exactly the rows of that session
pub record HasEntries (number : ℕ) (list : List ActRow) (row : ActRow) : Type 0 where
  pub stands : Contains list row → row.session ≡ number → Contains (entries_of number list) row
  pub among : Contains (entries_of number list) row → Contains list row
  pub own : Contains (entries_of number list) row → row.session ≡ number

-- the tries of a number are exactly those of that session
pub record HasTries (number : ℕ) (tried : List Batch) (rows : Batch) : Type 0 where
  pub stands : Contains tried rows → rows.act.session ≡ number → Contains (tries_of number tried) rows
  pub among : Contains (tries_of number tried) rows → Contains tried rows
  pub own : Contains (tries_of number tried) rows → rows.act.session ≡ number

-- and in their order: those of rows and further rows are those of the rows and then those of the further ones
pub record EntriesAreOfTheNumber : Type 0 where
  pub same : (number : ℕ) (list : List ActRow) (row : ActRow) → HasEntries number list row
  pub order : (number : ℕ) (list more : List ActRow) → entries_of number (list ++ more) ≡ entries_of number list ++ entries_of number more
  pub tries : (number : ℕ) (tried : List Batch) (rows : Batch) → HasTries number tried rows
  pub order_of_tries : (number : ℕ) (tried more : List Batch) → tries_of number (tried ++ more) ≡ tries_of number tried ++ tries_of number more

-- while a pass is held, each step grows the book, and what was tried, by rows of its own number
pub record HeldBooksGrow : Type 0 where
  pub appended : (held : HoldingView) (row : ActRow) → row.session ≡ held.pass.number → GrowsBy held.pass.number held.book (booked held row).book
  pub seen : (held : HoldingView) (faults : ℕ) → held.book.faults ≤ faults → GrowsBy held.pass.number held.book (looked held faults).book
  pub tried : (held : HoldingView) (rows : Batch) (faults : ℕ) → rows.act.session ≡ held.pass.number → held.book.faults ≤ faults →
      GrowsBy held.pass.number held.book (unkept held rows faults).book

-- of what two passes know, the one begins the other
abbrev pub OneBeginsTheOther : Type 0
OneBeginsTheOther = (book : BookView) (first other : PassView) → IsHome book first → IsHome book other →
    IsPrefix first.list other.list ⊎ IsPrefix other.list first.list

-- a step of another pass leaves a pass what it is: it still knows the first rows of the book, and all entries and
-- tries of its number
abbrev pub OthersStay : Type 0
OthersStay = (number : ℕ) (old new : BookView) (pass : PassView) → GrowsBy number old new → pass.number ≢ number → IsHome old pass → IsHome new pass

-- what a pass knows, its point and its faults only rise; of its own entries it has just those appended since, and of its tries
-- just those made since
pub record GoesOn (old new : PassView) (since : List ActRow) (tries : List Batch) : Type 0 where
  pub number : new.number ≡ old.number
  pub start : new.start ≡ old.start
  pub front : IsPrefix old.list new.list
  pub point : point_of old ≤ point_of new
  pub own : entries_of new.number new.list ≡ entries_of old.number old.list ++ since
  pub tried : new.tried ≡ old.tried ++ tries
  pub found : old.left ≤ new.found
  pub left : new.found ≤ new.left

abbrev pub PassesGoOn : Type 0
PassesGoOn = (held : HoldingView) → IsHeld held → GoesOn held.pass (returned held) held.since held.tries

-- a pass that learns what a note says knows what it knew and what the note says, and no more than the book has
pub record Learns (book : BookView) (pass : PassView) (note : NoteView) : Type 0 where
  pub home : IsHome book (learned pass note)
  pub front : IsPrefix pass.list (learned pass note).list
  pub told : IsPrefix note.list (learned pass note).list
  pub point : point_of pass ≤ point_of (learned pass note)
  pub own : entries_of pass.number (learned pass note).list ≡ entries_of pass.number pass.list

abbrev pub NotesAreLearned : Type 0
NotesAreLearned = (book : BookView) (pass : PassView) (note : NoteView) → IsHome book pass → IsNoteOf book note → Learns book pass note

-- where each row is of a number below, a new number has no entries
abbrev pub NewNumbersHaveNoEntries : Type 0
NewNumbersHaveNoEntries = (next : ℕ) (list : List ActRow) → All (λ row. row.session < next) list → entries_of next list ≡ []
