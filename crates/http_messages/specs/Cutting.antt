-- The messages of a stream of bytes, and how the stream ends.
use Rattle.std.specs.Prelude.{◌≡◌, ℕ, ◌<◌, ◌⊎◌, true, false, List, [], ◌∷◌, ◌++◌, length}
use Rattle.http_heads.specs.declared.fault.Fault.{Fault}
use Rattle.http_messages.specs.{Messages.IsMessage, Messages.IsRefused, Messages.IsUnfinished, declared.message.Message.Message}

-- the bytes are these messages, one after another, and then the rest
abbrev pub Splits : List ℕ → List Message → List ℕ → Type 0
Splits bytes [] rest = bytes ≡ rest
Splits bytes (message ∷ messages) rest = (after : List ℕ) × IsMessage bytes message after × Splits after messages rest

-- how the messages of a stream end: by one that asks for the close, between two, inside one, or where one is refused
pub data Ending : Type 0 where
  closed between inside : Ending
  refused : Fault → Ending

-- the bytes behind the last message
abbrev pub Stops : List ℕ → Ending → Type 0
Stops bytes closed = ⊥
Stops bytes between = bytes ≡ []
Stops bytes inside = IsUnfinished bytes × (0 < length bytes)
Stops bytes (refused why) = IsRefused bytes why

-- the bytes are these messages, and end in that way
abbrev pub Cuts : List ℕ → List Message → Ending → Type 0
Cuts bytes [] ending = Stops bytes ending
Cuts bytes (message ∷ messages) ending =
    (after : List ℕ) × IsMessage bytes message after
    × (((message.asks_close ≡ false) × Cuts after messages ending)
    ⊎ ((message.asks_close ≡ true) × (messages ≡ []) × (ending ≡ closed)))

-- a stream is cut in one way
abbrev pub CutInOneWay : Type 0
CutInOneWay =
    (bytes : List ℕ) (messages others : List Message) (ending other : Ending) → Cuts bytes messages ending → Cuts bytes others other
    → (messages ≡ others) × (ending ≡ other)

-- what follows changes neither a message nor a refusal
pub record SettledByTheFront : Type 0 where
  pub message : (bytes more : List ℕ) (message : Message) (rest : List ℕ) → IsMessage bytes message rest → IsMessage (bytes ++ more) message (rest ++ more)
  pub refusal : (bytes more : List ℕ) (why : Fault) → IsRefused bytes why → IsRefused (bytes ++ more) why
