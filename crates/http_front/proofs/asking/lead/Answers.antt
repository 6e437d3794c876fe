use Rattle.std.proofs.Common.{inr, refl, subst, sym}
use Rattle.std.specs.Str.{IsUtf8}
use Rattle.http_front.proofs.asking.lead.Goals as goal

pub returns-in_default : goal.returns-in_default
returns-in_default c = inr ((λ texts. c.in_default.ensures.cases.0 (subst IsUtf8 (sym c.as_bytes.ensures) texts.0)), refl)

pub returns-in_default-from_utf8 : goal.returns-in_default-from_utf8
returns-in_default-from_utf8 c = inr ((λ texts. c.in_default-from_utf8.ensures.cases.0 (subst IsUtf8 (sym c.as_bytes-2.ensures) texts.1)), refl)
