use Rattle.std.proofs.Common.{◌≡◌, [], ◌∷◌, map, take}
use Rattle.std.specs.Prelude.{MatchOption}
use Rattle.httparse.specs.Spans.{header_bytes}
use Rattle.http_heads.specs.Headers.{values_of}
use Rattle.http_heads.proofs.headers.length_of.Given as goal

abbrev pub invariant-loop-header : goal.invariant-loop-header
invariant-loop-header l =
    MatchOption l.found (values_of (map (header_bytes l.bytes) (take l.header-index l.headers)) ≡ [])
    (λ value. values_of (map (header_bytes l.bytes) (take l.header-index l.headers)) ≡ value.now ∷ [])
