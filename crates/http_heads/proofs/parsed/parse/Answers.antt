use Rattle.std.proofs.Common.{ℕ, ap, subst}
use Rattle.std.specs.Prelude.{Err}
use Rattle.httparse.specs.Spans.{RequestExceeds}
use Rattle.http_heads.proofs.Room.{never_exceeds}
use Rattle.http_heads.proofs.parsed.parse.Goals as goal

pub unreachable-requires : goal.unreachable-requires
unreachable-requires c =
    never_exceeds c.args.bytes.now c.requires.short
    (subst (λ (n : ℕ). RequestExceeds n c.args.bytes.now) c.requires.room (c.in-Err-TooManyHeaders.ensures.too_many (ap Err c.in-Err-TooManyHeaders.field-0-is)))
