-- The turns of the loop over the lines, by what the reader and the line's answer say.
use Rattle.std.proofs.Common.{◌≡◌, ◌<◌, ◌+◌, ℕ, List, [], ◌∷◌, ◌++◌, None, Some, length, subst, arith, length-append}
use Rattle.std.specs.Prelude.{Option, unwrap_or}
use Rattle.std.specs.Io.KnownBytes.{IsAtEnd}
use Rattle.line_input.specs.declared.reader.Next.{Next}
use Rattle.line_input.specs.Reading.{Reading, Comes}
use Rattle.book_rows.specs.Book.{Book}
use Rattle.clerk_desk.specs.Below.office_step.declared.call.Capacity.{Capacity}
use Rattle.batch_command.specs.{declared.ending.Ending.Ending, Output.Given, Output.told_of, Line.AnswersLine, Batch.line_limit, Batch.most_lines, Batch.LinesRan}
use Rattle.batch_command.proofs.{SoFar.SoFar, SoFar.so_far_more, Runs.ran_line, Runs.ran_last}

-- the line was answered on a day that the clock may show
abbrev pub AnsweredOn : (ℕ → Type 0) → Capacity → Book → Book → List ℕ → Option (List ℕ) → Option (List ℕ) → Option Ending → Type 0
AnsweredOn shows capacity mid new line held_mid held_now found =
    (day : ℕ) × shows day × AnswersLine (told_of capacity mid (record { line = line; day = day })) mid new held_mid held_now found

same_line : (shows : ℕ → Type 0) (capacity own : Capacity) (mid new : Book) (line other : List ℕ) (held_mid held_now : Option (List ℕ)) (found : Option Ending)
    → own ≡ capacity → line ≡ other → AnsweredOn shows own mid new line held_mid held_now found → AnsweredOn shows capacity mid new other held_mid held_now found
same_line shows capacity own mid new line other held_mid held_now found p q answered =
    subst (λ (l : List ℕ). AnsweredOn shows capacity mid new l held_mid held_now found) q
    (subst (λ (k : Capacity). AnsweredOn shows k mid new line held_mid held_now found) p answered)

module _ (capacity own : Capacity) (shows : ℕ → Type 0) (old mid new : Book) (left known known_now held held_mid held_now : Option (List ℕ)) (given : List Given)
    (reading : Reading) (line : List ℕ) (count : ℕ) (same : own ≡ capacity) (is_line : line ≡ reading.line) (counted : length given ≡ count)
    (so_far : SoFar capacity shows old mid left known held held_mid given) where
  -- the line was answered, and the batch goes on
  pub goes_on : Comes line_limit known known_now reading Next.Line → AnsweredOn shows own mid new line held_mid held_now None
      → (more : List Given) × (length more ≡ count + 1) × SoFar capacity shows old new left known_now held held_now more
  goes_on comes answered =
      let a : AnsweredOn shows capacity mid new reading.line held_mid held_now None = same_line shows capacity own mid new line reading.line held_mid held_now None same is_line answered in
      let g : Given = record { line = reading.line; day = a.0 } in (
        given ++ g ∷ [],
        omega (arith, length-append given (g ∷ [])),
        so_far_more capacity shows old mid new left known known_now held held_mid held_now given g so_far
            (record { endless = comes.0; short = comes.1; shown = a.1 }) comes.2 a.2.0 a.2.1,
      )

  -- the batch ends within the line
  pub ends_within : (left_now : Option (List ℕ)) (end : Ending) → count < most_lines → Comes line_limit known known_now reading Next.Line
      → AnsweredOn shows own mid new line held_mid held_now (Some end) → LinesRan capacity shows old new left left_now held held_now end
  ends_within left_now end few comes answered =
      let a : AnsweredOn shows capacity mid new reading.line held_mid held_now (Some end) =
      same_line shows capacity own mid new line reading.line held_mid held_now (Some end) same is_line answered in
      ran_line so_far (omega arith) (record { line = reading.line; day = a.0 }) (record { endless = comes.0; short = comes.1; shown = a.1 }) known_now left_now end comes.2 a.2

  -- the batch ends with its last line
  pub ends_with : (left_now : Option (List ℕ)) (found : Option Ending) (end : Ending) → count < most_lines → Comes line_limit known known_now reading Next.Last → IsAtEnd left_now
      → AnsweredOn shows own mid new line held_mid held_now found → end ≡ unwrap_or found Ending.Done → LinesRan capacity shows old new left left_now held held_now end
  ends_with left_now found end few comes at_end answered is =
      let a : AnsweredOn shows capacity mid new reading.line held_mid held_now found =
      same_line shows capacity own mid new line reading.line held_mid held_now found same is_line answered in
      rw is (ran_last so_far (omega arith) (record { line = reading.line; day = a.0 }) (record { endless = comes.0; short = comes.1; shown = a.1 }) known_now left_now found
      comes.2 comes.3 comes.4 at_end a.2)
