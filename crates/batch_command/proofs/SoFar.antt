-- What holds of the lines that were answered so far, and after one line more.
use Rattle.std.proofs.Common.{◌≡◌, ◌≤◌, ℕ, List, [], ◌∷◌, ◌++◌, length, refl, append-nil}
use Rattle.std.specs.{Prelude.Option, Prelude.All, Io.KnownBytes.Appends, Io.KnownBytes.Consumes, Io.KnownBytes.prepend_known}
use Rattle.std.proofs.KnownBytes.{Appends-nil, Consumes-nil, Consumes-trans, prepend_known-nil}
use Rattle.std.proofs.lemmas.{List.map-append, List.Elements.All-nil, List.Elements.All-push, Grind.flat_map-append}
use Rattle.line_input.specs.Lines.{IsEndless, joined}
use Rattle.book_rows.specs.Book.{Book}
use Rattle.clerk_desk.specs.Below.office_step.declared.call.Capacity.{Capacity}
use Rattle.batch_command.specs.Output.{Given, told_of, batch_output}
use Rattle.batch_command.specs.Batch.{line_limit, lines_in}
use Rattle.batch_command.proofs.More.{book-more, written-more}

-- a line of a batch: within one line, not too long, and on a day that the clock may show
pub record IsTaken (shows : ℕ → Type 0) (given : Given) : Type 0 where
  pub endless : IsEndless given.line
  pub short : length given.line ≤ line_limit
  pub shown : shows given.day

-- these lines were taken and answered
pub record SoFar (capacity : Capacity) (shows : ℕ → Type 0) (old new : Book) (left known held held_now : Option (List ℕ)) (given : List Given) : Type 0 where
  pub taken : All (IsTaken shows) given
  pub consumed : Consumes left known (joined (lines_in given))
  pub book : new ≡ (batch_output capacity old given).book
  pub written : Appends held held_now (batch_output capacity old given).text

pub joined-more : (given : List Given) (g : Given) → joined (lines_in (given ++ g ∷ [])) ≡ joined (lines_in given) ++ (g.line ++ 10 ∷ [])
joined-more given g = simp (map-append, flat_map-append, append-nil)

module _ (capacity : Capacity) (shows : ℕ → Type 0) (old : Book) where
  -- a reader that holds nothing is at the start of its source
  pub so_far_start : (rest : List ℕ) (left held : Option (List ℕ)) → rest ≡ [] → SoFar capacity shows old old left (prepend_known rest left) held held []
  so_far_start rest left held is =
      record { taken = All-nil (IsTaken shows); consumed = rw (is, prepend_known-nil) (Consumes-nil left); book = refl; written = Appends-nil held }

  pub so_far_more : (mid new : Book) (left known known_now held held_mid held_now : Option (List ℕ)) (given : List Given) (g : Given)
      → SoFar capacity shows old mid left known held held_mid given → IsTaken shows g → Consumes known known_now (g.line ++ 10 ∷ [])
      → new ≡ (told_of capacity mid g).book → Appends held_mid held_now (told_of capacity mid g).text
      → SoFar capacity shows old new left known_now held held_now (given ++ g ∷ [])
  so_far_more mid new left known known_now held held_mid held_now given g so_far taken consumed book written = record {
    taken = All-push (IsTaken shows) given g so_far.taken taken;
    consumed = rw (joined-more given g) (Consumes-trans left known known_now _ _ so_far.consumed consumed);
    book = book-more (told_of capacity) old mid new given g so_far.book book;
    written = written-more (told_of capacity) old mid held held_mid held_now given g so_far.book so_far.written written;
  }
