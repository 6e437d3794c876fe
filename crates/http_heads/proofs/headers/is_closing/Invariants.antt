use Rattle.std.proofs.Common.{◌≡◌, false, map, take}
use Rattle.httparse.specs.Spans.{header_bytes}
use Rattle.http_heads.specs.Headers.{is_closing}
use Rattle.http_heads.proofs.headers.is_closing.Given as goal

abbrev pub invariant-loop-header : goal.invariant-loop-header
invariant-loop-header l = is_closing (map (header_bytes l.bytes) (take l.header-index l.headers)) ≡ false
