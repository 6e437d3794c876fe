use Rattle.std.proofs.lemmas.Str.{is_utf8-from_IsUtf8}
use Rattle.file_tests.proofs.keeping.is_text.Goals as goal

pub returns : goal.returns
returns c = λ _. is_utf8-from_IsUtf8 _ c.in-Ok.ensures.cases.1
