-- The lines of a batch: each asks a question, or calls for an act.
use Rattle.std.specs.Prelude.{ℕ, if◌then◌else◌, Bool, true, List, [], ◌∷◌, is_some, Result, codes}
use Rattle.serde_json.specs.{Data.Data, Find.get}
use Rattle.json_form.specs.Form.{◌>>=◌, fit, data_from, is_object_at, day_at, field, optional_field, closed}
use Rattle.office_step.specs.Step.{is_fit_call}
use Rattle.json_front.specs.{declared.line.BatchLine.BatchLine, Calls.call_names, Calls.call_fields, Questions.question_at}

-- a question, and nothing beside it
unfoldable pub ask_at : Data → Result BatchLine (List ℕ)
ask_at d = do
  asked ← field (codes "ask") question_at d
  closed (codes "ask" ∷ []) (BatchLine.Ask asked) d

-- a call, with the day on which it is made if the line tells it
unfoldable pub act_at : Data → Result BatchLine (List ℕ)
act_at d = do
  today ← optional_field (codes "today") day_at d
  call ← call_fields d
  closed (codes "today" ∷ call_names) (BatchLine.Act today call) d

-- an object with a member `ask` is a question
abbrev pub has_ask : Data → Bool
has_ask d = is_some (get (codes "ask") d)

abbrev pub line_at : Data → Result BatchLine (List ℕ)
line_at d = is_object_at d >>= λ _. if has_ask d then ask_at d else act_at d

-- the line that the bytes are, or the first bad path: the empty one where they are no JSON
abbrev pub line_from : List ℕ → Result BatchLine (List ℕ)
line_from bytes = fit (data_from bytes) >>= line_at

-- the call of a line is one that an office can be asked
abbrev pub is_fit_line : BatchLine → Bool
is_fit_line (BatchLine.Act today call) = is_fit_call call
is_fit_line (BatchLine.Ask asked) = true
