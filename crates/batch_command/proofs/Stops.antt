-- What a crash may leave while a batch goes on, and where it ends.
use Rattle.std.proofs.Common.{◌≡◌, ◌⊎◌, ◌<◌, inl, inr, ⊎_elim, ℕ, List, [], ◌∷◌, ◌++◌, Option, None, Some, IfSome, length, sym, ap, subst, ◌∙◌, arith}
use Rattle.std.specs.Prelude.{Contains}
use Rattle.std.specs.Io.KnownBytes.{Consumes, IsAtEnd}
use Rattle.std.proofs.lemmas.{Option.IfSome_then, List.Elements.Contains-append_right, List.Elements.Contains-get_or}
use Rattle.line_input.specs.Lines.{IsEndless, lines_of}
use Rattle.book_rows.specs.Book.{Book}
use Rattle.keeper_core.specs.Keeping.{LeavesTold}
use Rattle.clerk_desk.specs.Below.office_step.declared.call.Capacity.{Capacity}
use Rattle.clerk_desk.specs.{OpenBook.ToldBefore, Serving.LeavesOnly, Serving.LeavesFurther}
use Rattle.batch_command.specs.{declared.ending.Ending.Ending, Output.Given, Output.told_of, Line.IsMadeBy, Line.LineCrash, Batch.lines_in, Batch.LeavesByLine}
use Rattle.batch_command.proofs.{SoFar.SoFar, Runs.endless_lines, Ends.next_line, Ends.follows_last}

-- a crash could leave the book that was told and nothing else
module _ (holds holds_now : Book → Type 0) (left : Option Book → Type 0) (old new : Book) (before : ToldBefore holds holds_now)
    (was : (book : Book) → holds book → book ≡ old) (is : (book : Book) → holds_now book → book ≡ new) (sound : LeavesTold holds left) where
  earlier : (now : Book) → holds_now now → (after : Option Book) → left after → new ≡ old → after ≡ Some now
  earlier now h after l same =
      let b = before now h in
      sound b.0 b.1 after l ∙ ap Some (was b.0 b.1 ∙ sym same ∙ sym (is now h))

  module _ (leaves : Option Book → Type 0) where
    pub leaves_told : LeavesOnly old new holds_now left leaves → LeavesTold holds_now leaves
    leaves_told only now h after l =
        ⊎_elim (λ (e : after ≡ Some new). e ∙ ap Some (sym (is now h))) (λ (p : (new ≡ old) × left after). earlier now h after p.1 p.0) (only now h after l)

    pub leaves_further : (Is : Book → Option Book → Type 0) → LeavesFurther (Is old) old new holds_now left leaves
        → (now : Book) → holds_now now → (after : Option Book) → leaves after → (after ≡ Some now) ⊎ Is now after
    leaves_further Is further now h after l = go (further now h after l)
      where
        go : (after ≡ Some new) ⊎ ((new ≡ old) × (left after ⊎ Is old after)) → (after ≡ Some now) ⊎ Is now after
        go (inl e) = inl (e ∙ ap Some (sym (is now h)))
        go (inr (same, inl l)) = inl (earlier now h after l same)
        go (inr (same, inr made)) = inr (subst (λ (b : Book). Is b after) (sym same ∙ sym (is now h)) made)

-- however a line ends a batch
module _ (Is : Option Book → Type 0) (old new : Book) (holds : Book → Type 0) (left leaves : Option Book → Type 0) where
  only_or_further : LeavesOnly old new holds left leaves → LeavesFurther Is old new holds left leaves
  only_or_further only told h after l =
      ⊎_elim (λ (e : after ≡ Some new). inl e) (λ (p : (new ≡ old) × left after). inr (p.0, inl p.1)) (only told h after l)

  pub line_leaves : (found : Option Ending) → LineCrash Is old new holds left leaves found → LeavesFurther Is old new holds left leaves
  line_leaves None crash = only_or_further crash
  line_leaves (Some Ending.WriteFault) crash = only_or_further crash
  line_leaves (Some Ending.Done) crash = crash
  line_leaves (Some Ending.TooLong) crash = crash
  line_leaves (Some Ending.ReadFault) crash = crash
  line_leaves (Some Ending.StoreFault) crash = crash
  line_leaves (Some Ending.NoMemory) crash = crash

-- ---- the line in work is one of the input

contains_next : {X : Type 0} (xs : List X) (x : X) (rest : List X) → Contains (xs ++ x ∷ rest) x
contains_next xs x rest = Contains-append_right xs (x ∷ rest) x (Contains-get_or (x ∷ rest) 0 x (omega arith))

module _ {capacity : Capacity} {shows : ℕ → Type 0} {old mid : Book} {left known held held_mid : Option (List ℕ)} {given : List Given} (so_far : SoFar capacity shows old mid left known held held_mid given) where
  pub line_of_input : (known_now : Option (List ℕ)) (line : List ℕ) → IsEndless line → Consumes known known_now (line ++ 10 ∷ []) → IfSome left (λ input. Contains (lines_of input) line)
  line_of_input known_now line one consumed =
      IfSome_then left (next_line left known (lines_in given) so_far.consumed (endless_lines shows given so_far.taken) known_now line one consumed)
      (λ input next. subst (λ (ls : List (List ℕ)). Contains ls line) (sym next.1) (contains_next (lines_in given) line next.0))

  pub last_of_input : (known_now : Option (List ℕ)) (line : List ℕ) → IsEndless line → 0 < length line → Consumes known known_now line → IsAtEnd known_now
      → IfSome left (λ input. Contains (lines_of input) line)
  last_of_input known_now line one some consumed ended =
      IfSome_then left (follows_last left known (lines_in given) so_far.consumed (endless_lines shows given so_far.taken) known_now line one some consumed ended)
      (λ input all. subst (λ (ls : List (List ℕ)). Contains ls line) all (contains_next (lines_in given) line []))

-- the line in work, where the office's capacity stays and the reader gives the line
pub by_line : (capacity own : Capacity) (shows : ℕ → Type 0) (left : Option (List ℕ)) (line other : List ℕ) (now : Book) (after : Option Book) → own ≡ capacity → line ≡ other
    → IfSome left (λ input. Contains (lines_of input) other)
    → (after ≡ Some now) ⊎ IsMadeBy shows own now (λ day. told_of own now (record { line = line; day = day })) after → LeavesByLine capacity shows left now after
by_line capacity own shows left line other now after same is inside (inl e) = inl e
by_line capacity own shows left line other now after same is inside (inr made) = inr (
  other,
  inside,
  subst (λ (l : List ℕ). IsMadeBy shows capacity now (λ day. told_of capacity now (record { line = l; day = day })) after) is
      (subst (λ (k : Capacity). IsMadeBy shows k now (λ day. told_of k now (record { line = line; day = day })) after) same made),
)
