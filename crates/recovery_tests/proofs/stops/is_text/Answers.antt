use Rattle.std.proofs.lemmas.Str.{is_utf8-from_IsUtf8}
use Rattle.recovery_tests.proofs.stops.is_text.Goals as goal

pub returns : goal.returns
returns c = λ _. is_utf8-from_IsUtf8 _ c.in-Ok.ensures.cases.1
