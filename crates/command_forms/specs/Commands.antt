-- How commands are written in JSON, and the text of a command.
use Rattle.std.specs.Prelude.{ℕ, if◌then◌else◌, Bool, List, Option, Some, None, option_and_then, Result, Ok, Err, codes, bytes_eq}
use Rattle.serde_json.specs.Data.{Data, string, object, Members, member, no_members, put}
use Rattle.serde_json.specs.Written.{compact_text}
use Rattle.json_form.specs.Form.{◌>>=◌, month_at, one_of, is_object_at, field, closed_by, data_from}
use Rattle.json_form.specs.Written.{month_data}
use Rattle.book_rows.specs.declared.command.Command.{Command}
use Rattle.command_forms.specs.{declared.kind.Kind.Kind, Kinds.kinds, Kinds.word_of}
use Rattle.command_forms.specs.Property.{plan_at, plan_members, unit_at, unit_members, rents_at, rents_members, limits_act_at, limits_members}
use Rattle.command_forms.specs.Applicants.{apply_at, apply_members, remove_at, remove_members, start_at, start_members, admit_at, admit_members}
use Rattle.command_forms.specs.Changes.{ask_transfer_at, ask_transfer_members, household_at, household_members}

-- ---- the value of a command

-- the fields of a command, behind its kind
unfoldable pub fields_at : Kind → Data → Result Command (List ℕ)
fields_at Kind.Plan d = plan_at d
fields_at Kind.Unit d = unit_at d
fields_at Kind.Rents d = rents_at d
fields_at Kind.Limits d = limits_act_at d
fields_at Kind.Apply d = apply_at d
fields_at Kind.Remove d = remove_at d
fields_at Kind.Start d = start_at d
fields_at Kind.Admit d = admit_at d
fields_at Kind.AskTransfer d = ask_transfer_at d
fields_at (Kind.Household change) d = household_at change d
fields_at Kind.Close d = field (codes "month") month_at d >>= λ month. Ok (Command.Close (record { month = month }))

abbrev pub field_members : Command → Members
field_members (Command.Plan plan) = plan_members plan
field_members (Command.Unit unit) = unit_members unit
field_members (Command.Rents rents) = rents_members rents
field_members (Command.Limits limits) = limits_members limits
field_members (Command.Apply apply) = apply_members apply
field_members (Command.Remove remove) = remove_members remove
field_members (Command.Start start) = start_members start
field_members (Command.Admit admit) = admit_members admit
field_members (Command.AskTransfer ask) = ask_transfer_members ask
field_members (Command.Household act) = household_members act
field_members (Command.Close close) = member (codes "month") (month_data close.month) no_members

-- the kind among them
unfoldable pub command_members : Command → Members
command_members asked = put (codes "kind") (string (word_of asked)) (field_members asked)

-- a command: its kind first, then the fields of that kind in their order, then no member but those that it is written with
unfoldable pub command_at : Data → Result Command (List ℕ)
command_at d = do
  _ ← is_object_at d
  kind ← field (codes "kind") (one_of kinds) d
  asked ← fields_at kind d
  closed_by command_members asked d

-- a command as it is written: its members in the byte order of their names
abbrev pub command_data : Command → Data
command_data asked = object (command_members asked)

-- the text of a command: compact JSON
abbrev pub body_of : Command → List ℕ
body_of asked = compact_text (command_data asked)

-- ---- reading a text

-- what was read, where it fits
abbrev pub accepted : {A : Type 0} → Result A (List ℕ) → Option A
accepted (Ok x) = Some x
accepted (Err path) = None

-- the command that a text is read as
abbrev pub command_from : List ℕ → Option Command
command_from text = option_and_then (λ d. accepted (command_at d)) (data_from text)

-- the command, where this is its text
abbrev pub only_own : List ℕ → Command → Option Command
only_own body asked = if bytes_eq (body_of asked) body then Some asked else None

-- the command whose text this is: read by its form, and written again the same
abbrev pub command_in : List ℕ → Option Command
command_in body = option_and_then (only_own body) (command_from body)

-- two commands are the same where their texts are
abbrev pub is_same_command : Command → Command → Bool
is_same_command asked other = bytes_eq (body_of asked) (body_of other)
