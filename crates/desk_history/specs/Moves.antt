-- What the steps make of what is seen.
use Rattle.std.specs.Prelude.{◌≡◌, ◌≤◌, ℕ, ◌+◌, List, [], ◌∷◌, ◌++◌, length, nat_lt, if◌then◌else◌, All}
use Rattle.book_rows.specs.declared.rows.ActRow.{ActRow}
use Rattle.book_rows.specs.declared.rows.Batch.{Batch}
use Rattle.desk_history.specs.declared.views.Start.{Start}
use Rattle.desk_history.specs.declared.views.BookView.{BookView}
use Rattle.desk_history.specs.declared.views.PassView.{PassView}
use Rattle.desk_history.specs.declared.views.NoteView.{NoteView}
use Rattle.desk_history.specs.declared.views.HoldingView.{HoldingView}

-- the book when the desk is opened, with so many faults counted
abbrev pub opened : Start → ℕ → BookView
opened start faults = record { start = start; list = []; tried = []; next = 1; faults = faults }

-- the book once a new pass has the next number
abbrev pub one_handed_out : BookView → BookView
one_handed_out book = record { start = book.start; list = book.list; tried = book.tried; next = book.next + 1; faults = book.faults }

-- the new pass: it knows what the book has, and tried nothing
abbrev pub new_pass : BookView → PassView
new_pass book = record { number = book.next; start = book.start; list = book.list; tried = []; found = book.faults; left = book.faults }

-- the pass came in
abbrev pub holding : BookView → PassView → HoldingView
holding book pass = record { book = book; pass = pass; since = []; tries = []; found = book.faults }

-- the row was appended
abbrev pub booked : HoldingView → ActRow → HoldingView
booked held row = record {
  book = record { start = held.book.start; list = held.book.list ++ row ∷ []; tried = held.book.tried; next = held.book.next; faults = held.book.faults };
  pass = held.pass;
  since = held.since ++ row ∷ [];
  tries = held.tries;
  found = held.found;
}

-- the keeper was seen to have counted so many faults
abbrev pub looked : HoldingView → ℕ → HoldingView
looked held faults = record {
  book = record { start = held.book.start; list = held.book.list; tried = held.book.tried; next = held.book.next; faults = faults };
  pass = held.pass;
  since = held.since;
  tries = held.tries;
  found = held.found;
}

-- the keeper was sent the rows and did not say it kept them, and was seen to have counted so many faults
abbrev pub unkept : HoldingView → Batch → ℕ → HoldingView
unkept held rows faults = record {
  book = record { start = held.book.start; list = held.book.list; tried = held.book.tried ++ rows ∷ []; next = held.book.next; faults = faults };
  pass = held.pass;
  since = held.since;
  tries = held.tries ++ rows ∷ [];
  found = held.found;
}

-- the pass as it goes back: it knows what the book has, and has tried what was tried since it came
abbrev pub returned : HoldingView → PassView
returned held = record {
  number = held.pass.number;
  start = held.pass.start;
  list = held.book.list;
  tried = held.pass.tried ++ held.tries;
  found = held.found;
  left = held.book.faults;
}

-- a note of what the pass knows
abbrev pub noted : PassView → NoteView
noted pass = record { start = pass.start; list = pass.list }

-- of two lists the longer, and of two of one length the first
abbrev pub longer : List ActRow → List ActRow → List ActRow
longer first other = if nat_lt (length first) (length other) then other else first

-- the pass once it has learned what the note says
abbrev pub learned : PassView → NoteView → PassView
learned pass note = record {
  number = pass.number;
  start = pass.start;
  list = longer pass.list note.list;
  tried = pass.tried;
  found = pass.found;
  left = pass.left;
}

-- one note of two: it says what each of them says
abbrev pub merged : NoteView → NoteView → NoteView
merged first other = record { start = first.start; list = longer first.list other.list }

-- Between two steps at which the pass of a number is held, a book grows by rows of that number alone, and so does what was
-- tried. The keeper's faults don't fall.
pub record GrowsBy (number : ℕ) (old new : BookView) : Type 0 where
  pub start : new.start ≡ old.start
  pub rows : List ActRow
  pub list : new.list ≡ old.list ++ rows
  pub own : All (λ row. row.session ≡ number) rows
  pub tries : List Batch
  pub tried : new.tried ≡ old.tried ++ tries
  pub own_tries : All (λ rows. rows.act.session ≡ number) tries
  pub next : new.next ≡ old.next
  pub faults : old.faults ≤ new.faults
