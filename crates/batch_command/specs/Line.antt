-- What came of one line of a batch.
use Rattle.std.specs.Prelude.{◌≡◌, ◌⊎◌, ⊤, ℕ, Bool, true, false, Option, Some, None, Result, Ok, Err, List, ◌++◌}
use Rattle.std.specs.Io.KnownBytes.{Keeps, Appends}
use Rattle.office_io.specs.{Outside.Faulted, Transfer.AppendsPart}
use Rattle.book_rows.specs.Book.{Book}
use Rattle.clerk_desk.specs.{Below.office_step.declared.call.Capacity.Capacity, Serving.IsFurther, Serving.LeavesOnly, Serving.LeavesFurther}
use Rattle.batch_command.specs.{Output.Told, Output.line_end, declared.ending.Ending.Ending}

-- The text of the answer is at hand and the book is the one after the line; or the keeper failed, and the book is as before;
-- or memory ran out before the act was appended, or after it.
abbrev pub TellsLine : Told → Book → Book → Result (List ℕ) Ending → Type 0
TellsLine told old new (Ok text) = (text ≡ told.text) × (new ≡ told.book)
TellsLine told old new (Err Ending.StoreFault) = new ≡ old
TellsLine told old new (Err Ending.NoMemory) = (new ≡ old) ⊎ (new ≡ told.book)
TellsLine told old new _ = ⊥

-- The line was answered, and the batch goes on; or the sink failed within its answer; or it ends before anything of the
-- answer was written.
abbrev pub AnswersLine : Told → Book → Book → Option (List ℕ) → Option (List ℕ) → Option Ending → Type 0
AnswersLine told old new held held_now None = (new ≡ told.book) × Appends held held_now told.text
AnswersLine told old new held held_now (Some Ending.WriteFault) = (new ≡ told.book) × AppendsPart held held_now told.text
AnswersLine told old new held held_now (Some Ending.StoreFault) = (new ≡ old) × Keeps held held_now
AnswersLine told old new held held_now (Some Ending.NoMemory) = ((new ≡ old) ⊎ (new ≡ told.book)) × Keeps held held_now
AnswersLine told old new held held_now _ = ⊥

-- the text with its line end is at hand, unless memory ran out
abbrev pub IsText : List ℕ → Result (List ℕ) Ending → Type 0
IsText right (Ok text) = text ≡ right ++ line_end
IsText right (Err Ending.NoMemory) = ⊤
IsText right _ = ⊥

-- the text was written whole, or in part where the sink failed
abbrev pub WritesText : List ℕ → Option (List ℕ) → Option (List ℕ) → Option Ending → Type 0
WritesText text held held_now None = Appends held held_now text
WritesText text held held_now (Some Ending.WriteFault) = AppendsPart held held_now text
WritesText text held held_now _ = ⊥

-- ---- who is blamed

abbrev pub is_write_fault : Option Ending → Bool
is_write_fault (Some Ending.WriteFault) = true
is_write_fault _ = false

abbrev pub is_store_fault : Option Ending → Bool
is_store_fault (Some Ending.StoreFault) = true
is_store_fault _ = false

-- a fault was counted where one is blamed, and none elsewhere
abbrev pub CountsBy : Bool → ℕ → ℕ → Type 0
CountsBy true before now = Faulted before now
CountsBy false before now = now ≡ before

abbrev pub SinkBlames : ℕ → ℕ → Option Ending → Type 0
SinkBlames before now end = CountsBy (is_write_fault end) before now

abbrev pub TellBlames : {A : Type 0} → ℕ → ℕ → Result A Ending → Type 0
TellBlames before now (Ok text) = now ≡ before
TellBlames before now (Err end) = CountsBy (is_store_fault (Some end)) before now

abbrev pub LineBlames : ℕ → ℕ → ℕ → ℕ → Option Ending → Type 0
LineBlames sink sink_now keeper keeper_now end =
    CountsBy (is_write_fault end) sink sink_now × CountsBy (is_store_fault end) keeper keeper_now

-- ---- what a crash leaves

-- the book that an input would have made on a day that the clock may show
abbrev pub IsMadeBy : (ℕ → Type 0) → Capacity → Book → (ℕ → Told) → Option Book → Type 0
IsMadeBy shows capacity held told after = (day : ℕ) × shows day × IsFurther capacity held (told day).book after

-- it leaves such a further book only where there is no text
abbrev pub TellCrash : {A : Type 0} → (Option Book → Type 0) → (old new : Book) → (Book → Type 0) → (Option Book → Type 0) → (Option Book → Type 0) → Result A Ending → Type 0
TellCrash Is old new holds left leaves (Ok text) = LeavesOnly old new holds left leaves
TellCrash Is old new holds left leaves (Err end) = LeavesFurther Is old new holds left leaves

-- it leaves such a further book only where nothing of an answer was written
abbrev pub LineCrash : (Option Book → Type 0) → (old new : Book) → (Book → Type 0) → (Option Book → Type 0) → (Option Book → Type 0) → Option Ending → Type 0
LineCrash Is old new holds left leaves None = LeavesOnly old new holds left leaves
LineCrash Is old new holds left leaves (Some Ending.WriteFault) = LeavesOnly old new holds left leaves
LineCrash Is old new holds left leaves _ = LeavesFurther Is old new holds left leaves
