-- How a clerk's call is written in JSON.
use Rattle.std.specs.Prelude.{ℕ, List, [], ◌∷◌, Result, Ok, codes}
use Rattle.serde_json.specs.Data.{Data}
use Rattle.json_form.specs.Form.{◌>>=◌, fit, data_from, is_object_at, number_at, field, closed}
use Rattle.command_forms.specs.Commands.{command_at}
use Rattle.office_step.specs.declared.call.Call.{Call}

abbrev pub call_names : List (List ℕ)
call_names = codes "clerk" ∷ codes "request" ∷ codes "act" ∷ []

-- the fields of a call, in an object that may have others
unfoldable pub call_fields : Data → Result Call (List ℕ)
call_fields d = do
  clerk ← field (codes "clerk") (number_at 1 9999) d
  request ← field (codes "request") (number_at 1 4294967295) d
  asked ← field (codes "act") command_at d
  Ok (record { clerk = clerk; request = request; command = asked })

-- an object of these fields, and no other member
unfoldable pub call_at : Data → Result Call (List ℕ)
call_at d = do
  _ ← is_object_at d
  call ← call_fields d
  closed call_names call d

-- the call that the bytes are, or the first bad path: the empty one where they are no JSON
abbrev pub call_from : List ℕ → Result Call (List ℕ)
call_from bytes = fit (data_from bytes) >>= call_at
