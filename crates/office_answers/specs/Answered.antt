-- When an answer is the right one.
use Rattle.std.specs.Prelude.{◌≡◌, ⊤, Option, Some, None, Result, Ok, Err}
use Rattle.std.specs.Option.{option_map_or}
use Rattle.admission_order.specs.Below.office_step.declared.refusal.Refusal.{Refusal}
use Rattle.office_answers.specs.declared.answer.{Answer.Answer, Asked.Asked}

-- the answer, unless it is refused
abbrev pub unless : Option Refusal → Result Answer Refusal → Result Answer Refusal
unless (Some refused) given = Err refused
unless None given = given

-- the answer that is made of what is there, and else the refusal
abbrev pub answered : {A : Type 0} → (A → Answer) → Option A → Refusal → Result Answer Refusal
answered make found refused = option_map_or (λ there. Ok (make there)) found (Err refused)

-- the answer is the right one; want of memory says nothing
abbrev pub Answers : Result Answer Refusal → Result Answer Asked → Type 0
Answers right (Ok given) = right ≡ Ok given
Answers right (Err (Asked.Refused refused)) = right ≡ Err refused
Answers right (Err Asked.NoMemory) = ⊤
