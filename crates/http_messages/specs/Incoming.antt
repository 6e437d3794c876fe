-- What the next message takes out of a source, and what an inbox holds afterwards.
use Rattle.std.specs.Prelude.{◌≡◌, ℕ, ◌<◌, ◌≤◌, ◌⊎◌, List, [], ◌++◌, length}
use Rattle.std.specs.{declared.option.Option.Option, Io.KnownBytes.Consumes, Io.KnownBytes.IsAtEnd, Io.KnownBytes.Keeps}
use Rattle.office_io.specs.Outside.{Faulted}
use Rattle.http_messages.specs.{Messages.IsMessage, Messages.IsRefused, Messages.IsUnfinished, declared.message.Incoming.Incoming, declared.message.Message.Message}

-- Nothing was taken, or all that was taken but for a last piece, of at most 4,096 bytes, left the message unfinished.
abbrev pub IsNeeded : List ℕ → List ℕ → Type 0
IsNeeded held taken =
    (taken ≡ [])
    ⊎ ((before : List ℕ) × (last : List ℕ) × (taken ≡ before ++ last) × (length last ≤ 4096) × IsUnfinished (held ++ before))

-- these bytes were taken from a source to those that were held, and none that weren't needed
pub record Takes (held : List ℕ) (left left_now : Option (List ℕ)) (taken : List ℕ) : Type 0 where
  pub consumed : Consumes left left_now taken
  pub needed : IsNeeded held taken

-- what was taken stands behind what was held
pub record Grows (held held_now : List ℕ) (left left_now : Option (List ℕ)) : Type 0 where
  pub taken : List ℕ
  pub takes : Takes held left left_now taken
  pub grown : held_now ≡ held ++ taken

-- a whole message is at the front
pub record BeginsMessage (bytes : List ℕ) : Type 0 where
  pub message : Message
  pub rest : List ℕ
  pub is : IsMessage bytes message rest

-- what was held and what was taken is a message and then what is held now; and at every other answer all of it is held
abbrev pub Comes : List ℕ → List ℕ → Option (List ℕ) → Option (List ℕ) → Incoming → Type 0
Comes held held_now left left_now (Incoming.Message message) =
    (taken : List ℕ) × Takes held left left_now taken × IsMessage (held ++ taken) message held_now
Comes held held_now left left_now Incoming.End = (held ≡ []) × (held_now ≡ []) × Keeps left left_now × IsAtEnd left_now
Comes held held_now left left_now Incoming.Cut =
    Grows held held_now left left_now × IsAtEnd left_now × IsUnfinished held_now × (0 < length held_now)
Comes held held_now left left_now (Incoming.Refused why) = Grows held held_now left left_now × IsRefused held_now why
Comes held held_now left left_now Incoming.Failed = Grows held held_now left left_now × IsUnfinished held_now
Comes held held_now left left_now Incoming.NoMemory = Grows held held_now left left_now × BeginsMessage held_now

-- it fails only where the source counted a fault
abbrev pub IncomingCause : ℕ → ℕ → Incoming → Type 0
IncomingCause before now Incoming.Failed = Faulted before now
IncomingCause before now _ = now ≡ before
