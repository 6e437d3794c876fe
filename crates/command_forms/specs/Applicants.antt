-- How commands about applicants, and those that take a household into a unit, are written in JSON.
use Rattle.std.specs.Prelude.{ℕ, List, Result, Ok, codes}
use Rattle.serde_json.specs.Data.{Data, boolean, Members, member, no_members}
use Rattle.json_form.specs.Form.{◌>>=◌, bool_at, u32_at, number_at, day_at, field}
use Rattle.json_form.specs.Written.{number_data, day_data, text_data, array_data}
use Rattle.facts_core.specs.Facts.{facts_at, facts_data}
use Rattle.book_rows.specs.declared.{applicants.ApplyAct.ApplyAct, applicants.RemoveAct.RemoveAct, certifications.StartAct.StartAct, certifications.AdmitAct.AdmitAct, command.Command.Command}
use Rattle.command_forms.specs.Fields.{name_at, preferences_at}

-- no fewer persons than the family has members
unfoldable pub apply_at : Data → Result Command (List ℕ)
apply_at d = do
  name ← field (codes "name") (name_at 40) d
  size ← field (codes "size") (number_at 1 12) d
  persons ← field (codes "persons") (number_at size 16) d
  preferences ← field (codes "preferences") (preferences_at 16) d
  accessible ← field (codes "accessible") bool_at d
  annual ← field (codes "annual") (number_at 0 9999999) d
  Ok (Command.Apply (record { name = name; size = size; persons = persons; preferences = preferences; accessible = accessible; annual = annual }))

unfoldable pub apply_members : ApplyAct → Members
apply_members apply =
    member (codes "accessible") (boolean apply.accessible) (
    member (codes "annual") (number_data apply.annual) (
    member (codes "name") (text_data apply.name) (
    member (codes "persons") (number_data apply.persons) (
    member (codes "preferences") (array_data number_data apply.preferences) (
    member (codes "size") (number_data apply.size) no_members)))))

unfoldable pub remove_at : Data → Result Command (List ℕ)
remove_at d = do
  applicant ← field (codes "applicant") u32_at d
  Ok (Command.Remove (record { applicant = applicant }))

unfoldable pub remove_members : RemoveAct → Members
remove_members remove = member (codes "applicant") (number_data remove.applicant) no_members

unfoldable pub start_at : Data → Result Command (List ℕ)
start_at d = do
  name ← field (codes "name") (name_at 40) d
  unit ← field (codes "unit") u32_at d
  from ← field (codes "from") day_at d
  facts ← field (codes "facts") facts_at d
  Ok (Command.Start (record { name = name; unit = unit; from = from; facts = facts }))

unfoldable pub start_members : StartAct → Members
start_members start =
    member (codes "facts") (facts_data start.facts) (
    member (codes "from") (day_data start.from) (
    member (codes "name") (text_data start.name) (
    member (codes "unit") (number_data start.unit) no_members)))

unfoldable pub admit_at : Data → Result Command (List ℕ)
admit_at d = do
  applicant ← field (codes "applicant") u32_at d
  unit ← field (codes "unit") u32_at d
  from ← field (codes "from") day_at d
  facts ← field (codes "facts") facts_at d
  Ok (Command.Admit (record { applicant = applicant; unit = unit; from = from; facts = facts }))

unfoldable pub admit_members : AdmitAct → Members
admit_members admit =
    member (codes "applicant") (number_data admit.applicant) (
    member (codes "facts") (facts_data admit.facts) (
    member (codes "from") (day_data admit.from) (
    member (codes "unit") (number_data admit.unit) no_members)))
