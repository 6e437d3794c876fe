-- What a look at some bytes finds.
use Rattle.std.specs.Prelude.{◌≡◌, ℕ, ◌≤◌, ◌-◌, true, List, length, drop}
use Rattle.httparse.specs.{Grammar.RequestHead, Grammar.HasNoRequest, Grammar.MayBecomeRequest, Grammar.NeverHasRequest, Spans.IsRequestOf, Spans.IsRequestWithin, Spans.IsWithin, Spans.span_bytes, declared.spans.HeaderSpan.HeaderSpan}
use Rattle.http_heads.specs.{Headers.asks_close, Headers.headers_of, Headers.judged, Heads.HasHead, Heads.IsHopeless, Heads.IsOpen, Heads.after_empty_lines, Heads.after_word, Heads.ends_in_target, declared.look.FoundHead.FoundHead, declared.look.Look.Look, declared.parsed.Parsed.Parsed}

-- what was found of that head is what it says
pub record IsFound (bytes : List ℕ) (found : FoundHead) (head : RequestHead) : Type 0 where
  pub within : IsWithin (length bytes) found.method × IsWithin (length bytes) found.target
  pub method : span_bytes bytes found.method ≡ head.method
  pub target : span_bytes bytes found.target ≡ head.target
  pub asks_close : found.asks_close ≡ asks_close head
  pub body : found.body ≡ judged (headers_of head)

-- the bytes begin with a head that ends where it was found to end
pub record IsFoundIn (bytes : List ℕ) (found : FoundHead) : Type 0 where
  pub head : RequestHead
  pub within : found.end ≤ length bytes
  pub has : HasHead bytes head (drop found.end bytes)
  pub is : IsFound bytes found head

-- what each answer says of the bytes
abbrev pub Looks : List ℕ → Look → Type 0
Looks bytes (Look.Head found) = IsFoundIn bytes found
Looks bytes Look.Open = IsOpen bytes
Looks bytes Look.Hopeless = IsHopeless bytes

-- ---- its parts

-- the bytes end inside the target, and the method ends at that place
pub record IsMethodEnd (bytes : List ℕ) (end : ℕ) : Type 0 where
  pub inside : ends_in_target bytes ≡ true
  pub at : end ≡ length bytes - length (after_word (after_empty_lines bytes))
  pub within : end ≤ length bytes

-- what the parser says, with room for all headers
abbrev pub Parses : List ℕ → List HeaderSpan → Parsed → Type 0
Parses bytes spans (Parsed.Head head) = IsRequestWithin bytes spans head × IsRequestOf bytes spans head
Parses bytes spans Parsed.Partial = HasNoRequest bytes × MayBecomeRequest bytes
Parses bytes spans Parsed.Never = NeverHasRequest bytes
