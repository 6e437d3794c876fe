-- What the front of some bytes is: a message, what is refused, or the front of what may be a message yet.
use Rattle.std.specs.Prelude.{◌≡◌, ℕ, ◌<◌, ◌≤◌, ◌⊎◌, List, ◌++◌, length, Ok, Err}
use Rattle.httparse.specs.Grammar.{RequestHead}
use Rattle.http_heads.specs.{Headers.asks_close, Headers.headers_of, Headers.judged, Heads.HasHead, Heads.IsHopeless, Heads.IsOpen, declared.fault.Fault.Fault}
use Rattle.http_messages.specs.declared.message.Message.{Message}

-- a head and as many bytes of body as its headers announce, and then the rest
pub record IsMessage (bytes : List ℕ) (message : Message) (rest : List ℕ) : Type 0 where
  pub head : RequestHead
  pub after : List ℕ
  pub has : HasHead bytes head after
  pub announced : judged (headers_of head) ≡ Ok (length message.body)
  pub splits : after ≡ message.body ++ rest
  pub method : message.method ≡ head.method
  pub target : message.target ≡ head.target
  pub asks_close : message.asks_close ≡ asks_close head

-- a head whose headers are refused
pub record IsRefusedHead (bytes : List ℕ) (why : Fault) : Type 0 where
  pub head : RequestHead
  pub after : List ℕ
  pub has : HasHead bytes head after
  pub refused : judged (headers_of head) ≡ Err why

-- what never becomes a head, or no head in the first 16,384 bytes, or a head whose headers are refused
abbrev pub IsRefused : List ℕ → Fault → Type 0
IsRefused bytes why =
    ((why ≡ Fault.BadHead) × IsHopeless bytes)
    ⊎ (((why ≡ Fault.HeadTooLong) × IsOpen bytes × (16384 ≤ length bytes)) ⊎ IsRefusedHead bytes why)

-- a head, and less than the body that its headers announce
pub record IsPartBody (bytes : List ℕ) : Type 0 where
  pub head : RequestHead
  pub after : List ℕ
  pub has : HasHead bytes head after
  pub count : ℕ
  pub announced : judged (headers_of head) ≡ Ok count
  pub short : length after < count

-- no head yet, or a head and a part of its body
abbrev pub IsUnfinished : List ℕ → Type 0
IsUnfinished bytes = (IsOpen bytes × (length bytes < 16384)) ⊎ IsPartBody bytes
