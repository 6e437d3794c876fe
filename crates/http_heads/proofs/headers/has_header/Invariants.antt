use Rattle.std.proofs.Common.{◌≡◌, false, map, take}
use Rattle.httparse.specs.Spans.{header_bytes}
use Rattle.http_heads.specs.Headers.{has_header}
use Rattle.http_heads.proofs.headers.has_header.Given as goal

abbrev pub invariant-loop-header : goal.invariant-loop-header
invariant-loop-header l = has_header l.name (map (header_bytes l.bytes) (take l.header-index l.headers)) ≡ false
