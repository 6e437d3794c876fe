-- How a batch has run at each of its ends.
use Rattle.std.proofs.Common.{◌≡◌, ◌≤◌, ◌<◌, ◌+◌, ◌⊎◌, inl, inr, ℕ, List, [], ◌∷◌, ◌++◌, None, Some, IfSome, length, refl, subst, ◌∙◌, arith, length-append}
use Rattle.std.specs.Prelude.{Option, All, unwrap_or}
use Rattle.std.specs.Io.KnownBytes.{Appends, Consumes, Keeps, IsAtEnd, prepend_known}
use Rattle.std.proofs.{KnownBytes.Appends-kept, KnownBytes.Consumes-trans, lemmas.Option.IfSome_then, lemmas.List.map-append, lemmas.List.length-map, lemmas.List.Elements.All-push, lemmas.List.Elements.All-map, lemmas.List.Elements.All-weaker}
use Rattle.line_input.specs.{declared.reader.Next.Next, Lines.IsEndless, Lines.lines_of, Reading.Reading, Reading.Comes}
use Rattle.book_rows.specs.Book.{Book}
use Rattle.clerk_desk.specs.Below.office_step.declared.call.Capacity.{Capacity}
use Rattle.batch_command.specs.{declared.ending.Ending.Ending, Output.Given, Output.told_of, Output.batch_output, Line.AnswersLine}
use Rattle.batch_command.specs.{Answers.Writes, Batch.line_limit, Batch.most_lines, Batch.lines_in, Batch.ending_of, Batch.Follows, Batch.LinesRan}
use Rattle.batch_command.proofs.More.{book-more, written-more, part_written}
use Rattle.batch_command.proofs.SoFar.{IsTaken, SoFar, joined-more}
use Rattle.batch_command.proofs.Ends.{none_behind, IsFront, is_front, is_front_last, follows_done, follows_last, follows_failed, follows_long, follows_more, follows_more_last}

-- a line came
abbrev pub IsLine : Next → Type 0
IsLine Next.Line = Unit {0}
IsLine Next.Last = Unit {0}
IsLine Next.End = ⊥
IsLine Next.TooLong = ⊥
IsLine Next.Failed = ⊥
IsLine Next.NoMemory = ⊥

lines_in-more : (given : List Given) (g : Given) → lines_in (given ++ g ∷ []) ≡ lines_in given ++ g.line ∷ []
lines_in-more given g = map-append (λ (g : Given). g.line) given (g ∷ [])

pub endless_lines : (shows : ℕ → Type 0) (given : List Given) → All (IsTaken shows) given → All IsEndless (lines_in given)
endless_lines shows given taken =
    All-map IsEndless (λ (g : Given). g.line) given (All-weaker (IsTaken shows) (λ g. IsEndless g.line) (λ g t. t.endless) given taken)

module _ {capacity : Capacity} {shows : ℕ → Type 0} {old : Book} {left held : Option (List ℕ)} where
  finish : (new : Book) (left_now held_now : Option (List ℕ)) (given : List Given) (end : Ending) → All (IsTaken shows) given → length given ≤ most_lines
      → IfSome left (λ input. Follows input left_now (lines_in given) end) → new ≡ (batch_output capacity old given).book
      → Writes (told_of capacity) old given held held_now end → LinesRan capacity shows old new left left_now held held_now end
  finish new left_now held_now given end taken few follows book writes = record {
    given = given;
    shown = All-weaker (IsTaken shows) (λ g. shows g.day) (λ g t. t.shown) given taken;
    short = All-weaker (IsTaken shows) (λ g. length g.line ≤ line_limit) (λ g t. t.short) given taken;
    few = few;
    follows = follows;
    book = book;
    writes = writes;
  }

  -- no line is answered any more
  module _ {new : Book} {known held_now : Option (List ℕ)} {given : List Given} (so_far : SoFar capacity shows old new left known held held_now given)
      (few : length given ≤ most_lines) where
    endless : All IsEndless (lines_in given)
    endless = endless_lines shows given so_far.taken

    stop : (left_now : Option (List ℕ)) (end : Ending) → IfSome left (λ input. Follows input left_now (lines_in given) end)
        → Writes (told_of capacity) old given held held_now end → LinesRan capacity shows old new left left_now held held_now end
    stop left_now end follows writes = finish new left_now held_now given end so_far.taken few follows so_far.book writes

    pub ran_without : {known_now left_now : Option (List ℕ)} (reading : Reading) (what : Next) → (IsLine what → length given ≡ most_lines)
        → Comes line_limit known known_now reading what → known_now ≡ prepend_known reading.rest left_now
        → LinesRan capacity shows old new left left_now held held_now (ending_of what)
    ran_without {known_now} {left_now} reading Next.End many comes is =
        stop left_now Ending.Done (follows_done left known (lines_in given) so_far.consumed endless known_now left_now comes.0 comes.1
        (none_behind reading.rest left_now (subst IsAtEnd is comes.1))) so_far.written
    ran_without {known_now} {left_now} reading Next.TooLong many comes is =
        stop left_now Ending.TooLong (follows_long left known (lines_in given) so_far.consumed endless known_now left_now comes.0 comes.1) so_far.written
    ran_without {known_now} {left_now} reading Next.Line many comes is =
        stop left_now Ending.TooLong (follows_more left known (lines_in given) so_far.consumed endless known_now left_now reading.line comes.0 comes.2
        (length-map given (λ (g : Given). g.line) ∙ many tt)) so_far.written
    ran_without {known_now} {left_now} reading Next.Last many comes is =
        stop left_now Ending.TooLong (follows_more_last left known (lines_in given) so_far.consumed endless known_now left_now reading.line comes.0 comes.2 comes.3 comes.4
        (length-map given (λ (g : Given). g.line) ∙ many tt)) so_far.written
    ran_without {known_now} {left_now} reading Next.Failed many comes is =
        stop left_now Ending.ReadFault (follows_failed left known left_now reading.rest (lines_in given) so_far.consumed endless (subst (Keeps known) is comes.0) comes.1) so_far.written
    ran_without {known_now} {left_now} reading Next.NoMemory many comes is =
        stop left_now Ending.NoMemory (is_front left known (lines_in given) so_far.consumed endless) (inl so_far.written)

  -- one line more is taken, and it may be answered
  module _ {mid new : Book} {known held_mid held_now : Option (List ℕ)} {given : List Given} (so_far : SoFar capacity shows old mid left known held held_mid given)
      (few : length given + 1 ≤ most_lines) (g : Given) (taken : IsTaken shows g) where
    with_line : (left_now : Option (List ℕ)) (end : Ending) → IfSome left (λ input. Follows input left_now (lines_in (given ++ g ∷ [])) end)
        → new ≡ (told_of capacity mid g).book → Writes (told_of capacity) old (given ++ g ∷ []) held held_now end → LinesRan capacity shows old new left left_now held held_now end
    with_line left_now end follows book writes =
        finish new left_now held_now (given ++ g ∷ []) end (All-push (IsTaken shows) given g so_far.taken taken) (omega (arith, length-append given (g ∷ []))) follows
        (book-more (told_of capacity) old mid new given g so_far.book book) writes

    -- the batch ends within the line
    ran_within : (left_now : Option (List ℕ)) (end : Ending) → IfSome left (λ input. IsFront input (lines_in (given ++ g ∷ [])))
        → AnswersLine (told_of capacity mid g) mid new held_mid held_now (Some end) → LinesRan capacity shows old new left left_now held held_now end
    ran_within left_now Ending.WriteFault front answers =
        with_line left_now Ending.WriteFault front answers.0 (part_written (told_of capacity) old mid held held_mid held_now given g so_far.book so_far.written answers.1)
    ran_within left_now Ending.StoreFault front answers =
        finish new left_now held_now given Ending.StoreFault so_far.taken (omega arith)
        (is_front left known (lines_in given) so_far.consumed (endless_lines shows given so_far.taken)) (answers.0 ∙ so_far.book)
        (Appends-kept held held_mid held_now _ so_far.written answers.1)
    ran_within left_now Ending.NoMemory front answers = by_book answers.0
      where
        by_book : (new ≡ mid) ⊎ (new ≡ (told_of capacity mid g).book) → LinesRan capacity shows old new left left_now held held_now Ending.NoMemory
        by_book (inl same) =
            finish new left_now held_now given Ending.NoMemory so_far.taken (omega arith)
            (is_front left known (lines_in given) so_far.consumed (endless_lines shows given so_far.taken)) (same ∙ so_far.book)
            (inl (Appends-kept held held_mid held_now _ so_far.written answers.1))
        by_book (inr moved) =
            with_line left_now Ending.NoMemory front moved
            (inr (record { before = given; last = g; ends = refl; written = Appends-kept held held_mid held_now _ so_far.written answers.1 }))
    ran_within left_now Ending.Done front answers = absurd answers
    ran_within left_now Ending.TooLong front answers = absurd answers
    ran_within left_now Ending.ReadFault front answers = absurd answers

    -- the batch ends within a line whose end was read
    pub ran_line : (known_now left_now : Option (List ℕ)) (end : Ending) → Consumes known known_now (g.line ++ 10 ∷ [])
        → AnswersLine (told_of capacity mid g) mid new held_mid held_now (Some end) → LinesRan capacity shows old new left left_now held held_now end
    ran_line known_now left_now end consumed answers =
        ran_within left_now end
        (is_front left known_now (lines_in (given ++ g ∷ []))
        (rw (joined-more given g) (Consumes-trans left known known_now _ _ so_far.consumed consumed)) (endless_lines shows (given ++ g ∷ []) (All-push (IsTaken shows) given g so_far.taken taken))) answers

    -- the batch ends with its last line, or within it
    pub ran_last : (known_now left_now : Option (List ℕ)) (found : Option Ending) → 0 < length g.line → Consumes known known_now g.line → IsAtEnd known_now → IsAtEnd left_now
        → AnswersLine (told_of capacity mid g) mid new held_mid held_now found → LinesRan capacity shows old new left left_now held held_now (unwrap_or found Ending.Done)
    ran_last known_now left_now found some consumed ended at_end answers = by_end found answers
      where
        follows : IfSome left (λ input. lines_in (given ++ g ∷ []) ≡ lines_of input)
        follows =
            rw (lines_in-more given g)
            (follows_last left known (lines_in given) so_far.consumed (endless_lines shows given so_far.taken) known_now g.line taken.endless some consumed ended)

        by_end : (found : Option Ending) → AnswersLine (told_of capacity mid g) mid new held_mid held_now found
            → LinesRan capacity shows old new left left_now held held_now (unwrap_or found Ending.Done)
        by_end None answers =
            with_line left_now Ending.Done (IfSome_then left follows (λ input all. (all, at_end))) answers.0 (written-more (told_of capacity) old mid held held_mid held_now given g so_far.book so_far.written answers.1)
        by_end (Some end) answers = ran_within left_now end (is_front_last left (lines_in (given ++ g ∷ [])) follows) answers
