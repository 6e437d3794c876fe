-- The rule of a history: what holds between any two steps of what threads share, one number, and of what each seat knows.
use Rattle.std.specs.Prelude.{◌≡◌, ◌≤◌, ◌<◌, ◌⊎◌, ℕ, List, [], ◌∷◌, ◌++◌, length, All}
use mathlib.Core.Option.{some}
use mathlib.Core.List.{IsPrefix}
use lib.ListN.{get_elem?}
use Rattle.atomic_table.specs.Table.{Me}
use Rattle.book_rows.specs.declared.rows.Batch.{Batch}
use Rattle.desk_history.specs.declared.views.BookView.{BookView}
use Rattle.desk_history.specs.declared.views.PassView.{PassView}
use Rattle.desk_history.specs.declared.views.NoteView.{NoteView}
use Rattle.desk_history.specs.declared.views.HoldingView.{HoldingView}
use Rattle.desk_history.specs.declared.views.View.{View}
use Rattle.desk_history.specs.declared.views.View.TheVariants.{Blank, Free, Holding, Home, Learning, Noted, Merging, Spent}
use Rattle.desk_history.specs.Seen.{entries_of, tries_of}
use Rattle.desk_history.specs.Moves.{longer}

-- a note says no more than what the book has
pub record IsNoteOf (book : BookView) (note : NoteView) : Type 0 where
  pub start : note.start ≡ book.start
  pub front : IsPrefix note.list book.list

-- A pass that isn't held knows the first rows of the book, with all entries of its number, and all tries of its number. The
-- faults that its last call left are no fewer than it found, and no more than there are.
pub record IsHome (book : BookView) (pass : PassView) : Type 0 where
  pub start : pass.start ≡ book.start
  pub front : IsPrefix pass.list book.list
  pub low : 1 ≤ pass.number
  pub high : pass.number < book.next
  pub own : entries_of pass.number book.list ≡ entries_of pass.number pass.list
  pub tried : tries_of pass.number book.tried ≡ pass.tried
  pub found : pass.found ≤ pass.left
  pub left : pass.left ≤ book.faults

-- While a pass is held, the entries of its number are those that it came with and those appended since, and so are its tries.
pub record IsHeld (held : HoldingView) : Type 0 where
  pub start : held.pass.start ≡ held.book.start
  pub front : IsPrefix held.pass.list held.book.list
  pub low : 1 ≤ held.pass.number
  pub high : held.pass.number < held.book.next
  pub own : entries_of held.pass.number held.book.list ≡ entries_of held.pass.number held.pass.list ++ held.since
  pub tried : tries_of held.pass.number held.book.tried ≡ held.pass.tried ++ held.tries
  pub left : held.pass.left ≤ held.found
  pub found : held.found ≤ held.book.faults

-- each of what was tried is of the number of a pass that there is, where the next has that number
abbrev pub AreOfPasses : ℕ → List Batch → Type 0
AreOfPasses next tried = All (λ rows. (1 ≤ rows.act.session) × (rows.act.session < next)) tried

-- A view fits the book, of which one seat knows. Each number has one place, its home, where its pass is, so no two passes
-- have the same number. The pass that is held is with the book.
abbrev pub Fits : ℕ → BookView → (ℕ → ℕ) → ℕ → View → Type 0
Fits seat book home place Blank = ⊥
Fits seat book home place (Free own) = (place ≡ seat) × (own ≡ book)
Fits seat book home place (Holding held) = (place ≡ seat) × (held.book ≡ book) × (home held.pass.number ≡ place) × IsHeld held
Fits seat book home place (Home pass) = (home pass.number ≡ place) × IsHome book pass
Fits seat book home place (Learning pass note) = (home pass.number ≡ place) × IsHome book pass × IsNoteOf book note
Fits seat book home place (Noted note) = IsNoteOf book note
Fits seat book home place (Merging first other) = IsNoteOf book first × IsNoteOf book other
Fits seat book home place Spent = Unit {0}

-- the number that threads share is that of the book's rows, every row and every try is of a pass that there is, and every view
-- fits
pub record IsOpenAs (words : List ℕ) (views : List View) (seat : ℕ) (book : BookView) (home : ℕ → ℕ) : Type 0 where
  pub word : words ≡ length book.list ∷ []
  pub first : 1 ≤ book.next
  pub below : All (λ row. row.session < book.next) book.list
  pub tried : AreOfPasses book.next book.tried
  pub fits : (place : ℕ) (view : View) → get_elem? views place ≡ some view → Fits seat book home place view

abbrev pub IsOpen : List ℕ → List View → Type 0
IsOpen words views = (seat : ℕ) × (book : BookView) × (home : ℕ → ℕ) × IsOpenAs words views seat book home

-- the history is new, or it is open
abbrev pub Keeps : List ℕ → List View → Type 0
Keeps words views = ((words ≡ 0 ∷ []) × (views ≡ Blank ∷ [])) ⊎ IsOpen words views

-- what a step that finds a number tells of the view before it
abbrev pub Tells : View → ℕ → Type 0
Tells (Holding held) found = IsHeld held × AreOfPasses held.book.next held.book.tried × (found ≡ length held.book.list)
Tells (Learning pass note) found =
    IsPrefix pass.list (longer pass.list note.list)
    × IsPrefix note.list (longer pass.list note.list)
    × (entries_of pass.number (longer pass.list note.list) ≡ entries_of pass.number pass.list)
    × (note.start ≡ pass.start)
Tells (Merging first other) found =
    IsPrefix first.list (longer first.list other.list)
    × IsPrefix other.list (longer first.list other.list)
    × (other.start ≡ first.start)
Tells _ found = Unit {0}

-- the step to a view that is wanted
abbrev pub Turns : Me (Unit {0}) View → View → ℕ → Me (Unit {0}) View → Type 0
Turns me wanted found after = (after ≡ (wanted, me.1)) × Tells me.0 found
