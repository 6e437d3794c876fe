-- What is seen of a history.
use Rattle.std.specs.Prelude.{ℕ, ◌+◌, ◌==◌, List, [], ◌∷◌, length, filter}
use Rattle.book_rows.specs.declared.rows.ActRow.{ActRow}
use Rattle.book_rows.specs.declared.rows.Batch.{Batch}
use Rattle.book_rows.specs.Book.{Book}
use Rattle.desk_history.specs.declared.views.Start.{Start}
use Rattle.desk_history.specs.declared.views.BookView.{BookView}
use Rattle.desk_history.specs.declared.views.PassView.{PassView}
use Rattle.desk_history.specs.declared.views.NoteView.{NoteView}
use Rattle.desk_history.specs.declared.views.HoldingView.{HoldingView}
use Rattle.desk_history.specs.declared.views.View.{View}
use Rattle.desk_history.specs.declared.views.View.TheVariants.{Free, Holding, Home, Learning, Noted, Merging}

-- the entries of a number: the rows of that session, in the order in which they came
abbrev pub entries_of : ℕ → List ActRow → List ActRow
entries_of number list = filter (λ row. row.session == number) list

-- the tries of a number: of what was tried, the rows of the acts of that session
abbrev pub tries_of : ℕ → List Batch → List Batch
tries_of number tried = filter (λ rows. rows.act.session == number) tried

-- the point that a pass has seen: the number of acts in the book that it knows
abbrev pub point_of : PassView → ℕ
point_of pass = length pass.start.opening.acts + length pass.list

-- the start of a desk that is opened on a book
abbrev pub start_on : Book → ℕ → ℕ → Start
start_on book most_acts most_lines = record {
  opening = record { acts = book.acts; records = book.records; lines = book.lines };
  most_acts = most_acts;
  most_lines = most_lines;
}

-- ---- the part of a view that is asked for; what stands for it in another view is never looked at

abbrev pub no_start : Start
no_start = start_on (record { acts = []; records = []; lines = [] }) 0 0

abbrev pub no_book : BookView
no_book = record { start = no_start; list = []; tried = []; next = 0; faults = 0 }

abbrev pub no_pass : PassView
no_pass = record { number = 0; start = no_start; list = []; tried = []; found = 0; left = 0 }

abbrev pub no_note : NoteView
no_note = record { start = no_start; list = [] }

abbrev pub book_of : View → BookView
book_of (Free book) = book
book_of _ = no_book

abbrev pub holding_of : View → HoldingView
holding_of (Holding held) = held
holding_of _ = record { book = no_book; pass = no_pass; since = []; tries = []; found = 0 }

abbrev pub pass_of : View → PassView
pass_of (Home pass) = pass
pass_of (Learning pass note) = pass
pass_of _ = no_pass

abbrev pub note_of : View → NoteView
note_of (Noted note) = note
note_of (Learning pass note) = note
note_of (Merging first other) = first
note_of _ = no_note

abbrev pub other_of : View → NoteView
other_of (Merging first other) = other
other_of _ = no_note

-- of the views of a badge, of which there is one
abbrev pub pass_in : List View → PassView
pass_in [] = no_pass
pass_in (view ∷ _) = pass_of view

abbrev pub note_in : List View → NoteView
note_in [] = no_note
note_in (view ∷ _) = note_of view
