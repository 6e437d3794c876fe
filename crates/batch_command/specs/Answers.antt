-- What of the answers to some inputs, be they lines or rows, is written where they end so, and who is blamed for the end.
use Rattle.std.specs.Prelude.{◌≡◌, ◌<◌, ◌⊎◌, ℕ, Option, List, [], ◌∷◌, ◌++◌, length, take}
use Rattle.std.specs.Io.KnownBytes.{Appends}
use Rattle.office_io.specs.Outside.{Faulted}
use Rattle.book_rows.specs.Book.{Book}
use Rattle.batch_command.specs.{Output.Told, Output.output, declared.ending.Ending.Ending}

-- a front of the answer to the last input was written, and not all of it
pub record WritesPart {X : Type 0} (told : Book → X → Told) (book : Book) (given : List X) (held held_now : Option (List ℕ)) : Type 0 where
  pub before : List X
  pub last : X
  pub ends : given ≡ before ++ last ∷ []
  pub count : ℕ
  pub part : count < length (told (output told book before).book last).text
  pub written : Appends held held_now ((output told book before).text ++ take count (told (output told book before).book last).text)

-- the answer to the last input wasn't written
pub record WritesBefore {X : Type 0} (told : Book → X → Told) (book : Book) (given : List X) (held held_now : Option (List ℕ)) : Type 0 where
  pub before : List X
  pub last : X
  pub ends : given ≡ before ++ last ∷ []
  pub written : Appends held held_now (output told book before).text

-- The answers were written whole. Where the sink failed, the last was written in part; and where memory ran out, it may not
-- have been written at all.
abbrev pub Writes : {X : Type 0} → (Book → X → Told) → Book → List X → Option (List ℕ) → Option (List ℕ) → Ending → Type 0
Writes told book given held held_now Ending.WriteFault = WritesPart told book given held held_now
Writes told book given held held_now Ending.NoMemory =
    Appends held held_now (output told book given).text ⊎ WritesBefore told book given held held_now
Writes told book given held held_now _ = Appends held held_now (output told book given).text

-- how many faults were counted by the source, the sink and the keeper
pub record Counts : Type 0 where
  pub source : ℕ
  pub sink : ℕ
  pub keeper : ℕ

-- just the one that is blamed counted a fault, and nobody where nobody is
abbrev pub Blames : Counts → Counts → Ending → Type 0
Blames before now Ending.ReadFault = Faulted before.source now.source × (now.sink ≡ before.sink) × (now.keeper ≡ before.keeper)
Blames before now Ending.WriteFault = Faulted before.sink now.sink × (now.source ≡ before.source) × (now.keeper ≡ before.keeper)
Blames before now Ending.StoreFault = Faulted before.keeper now.keeper × (now.source ≡ before.source) × (now.sink ≡ before.sink)
Blames before now _ = now ≡ before
