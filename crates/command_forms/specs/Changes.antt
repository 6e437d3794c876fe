-- How acts on a household that there is are written in JSON: the household and the newest record that the clerk saw
-- first, then the fields of the change.
use Rattle.std.specs.Prelude.{ℕ, List, [], ◌∷◌, Result, Ok, codes}
use Rattle.serde_json.specs.Data.{Data, boolean, Members, member, no_members, put}
use Rattle.json_form.specs.Form.{◌>>=◌, bool_at, u32_at, day_at, field}
use Rattle.json_form.specs.Written.{number_data, day_data}
use Rattle.facts_core.specs.Facts.{facts_at, facts_data}
use Rattle.book_rows.specs.declared.{moves.AskTransferAct.AskTransferAct, household.HouseholdAct.HouseholdAct, household.HouseholdChange.HouseholdChange, command.Command.Command}
use Rattle.command_forms.specs.declared.kind.{Kind.Kind, ChangeKind.ChangeKind}

unfoldable pub ask_transfer_at : Data → Result Command (List ℕ)
ask_transfer_at d = do
  household ← field (codes "household") u32_at d
  wanted ← field (codes "wanted") bool_at d
  accessible ← field (codes "accessible") bool_at d
  Ok (Command.AskTransfer (record { household = household; wanted = wanted; accessible = accessible }))

unfoldable pub ask_transfer_members : AskTransferAct → Members
ask_transfer_members ask =
    member (codes "accessible") (boolean ask.accessible) (
    member (codes "household") (number_data ask.household) (
    member (codes "wanted") (boolean ask.wanted) no_members))

-- ---- changes

-- the words for their kinds
abbrev pub change_kinds : List (List ℕ × Kind)
change_kinds =
    (codes "annual", Kind.Household ChangeKind.Annual) ∷ (codes "interim", Kind.Household ChangeKind.Interim)
    ∷ (codes "resume", Kind.Household ChangeKind.Resume) ∷ (codes "gross", Kind.Household ChangeKind.Gross)
    ∷ (codes "correct", Kind.Household ChangeKind.Correct) ∷ (codes "transfer", Kind.Household ChangeKind.Transfer)
    ∷ (codes "move_out", Kind.Household ChangeKind.MoveOut) ∷ (codes "terminate", Kind.Household ChangeKind.Terminate)
    ∷ (codes "withdraw", Kind.Household ChangeKind.Withdraw) ∷ []

abbrev pub change_word : HouseholdChange → List ℕ
change_word (HouseholdChange.Annual annual) = codes "annual"
change_word (HouseholdChange.Interim interim) = codes "interim"
change_word (HouseholdChange.Resume resume) = codes "resume"
change_word (HouseholdChange.Gross gross) = codes "gross"
change_word (HouseholdChange.Correct correct) = codes "correct"
change_word (HouseholdChange.Transfer transfer) = codes "transfer"
change_word (HouseholdChange.MoveOut move_out) = codes "move_out"
change_word (HouseholdChange.Terminate terminate) = codes "terminate"
change_word (HouseholdChange.Withdraw withdraw) = codes "withdraw"

-- the fields of a change
unfoldable pub change_at : ChangeKind → Data → Result HouseholdChange (List ℕ)
change_at ChangeKind.Annual d = do
  from ← field (codes "from") day_at d
  facts ← field (codes "facts") facts_at d
  Ok (HouseholdChange.Annual (record { from = from; facts = facts }))
change_at ChangeKind.Interim d = do
  event ← field (codes "event") day_at d
  notice ← field (codes "notice") day_at d
  done ← field (codes "done") day_at d
  from ← field (codes "from") day_at d
  facts ← field (codes "facts") facts_at d
  Ok (HouseholdChange.Interim (record { dates = record { event = event; notice = notice; done = done }; from = from; facts = facts }))
change_at ChangeKind.Resume d = do
  done ← field (codes "done") day_at d
  from ← field (codes "from") day_at d
  facts ← field (codes "facts") facts_at d
  Ok (HouseholdChange.Resume (record { done = done; from = from; facts = facts }))
change_at ChangeKind.Gross d = do
  from ← field (codes "from") day_at d
  Ok (HouseholdChange.Gross (record { from = from }))
change_at ChangeKind.Correct d = do
  target ← field (codes "record") u32_at d
  from ← field (codes "from") day_at d
  facts ← field (codes "facts") facts_at d
  Ok (HouseholdChange.Correct (record { target = target; from = from; facts = facts }))
change_at ChangeKind.Transfer d = do
  unit ← field (codes "unit") u32_at d
  from ← field (codes "from") day_at d
  Ok (HouseholdChange.Transfer (record { unit = unit; from = from }))
change_at ChangeKind.MoveOut d = do
  last ← field (codes "last") day_at d
  Ok (HouseholdChange.MoveOut (record { last = last }))
change_at ChangeKind.Terminate d = do
  from ← field (codes "from") day_at d
  Ok (HouseholdChange.Terminate (record { from = from }))
change_at ChangeKind.Withdraw d = do
  target ← field (codes "record") u32_at d
  Ok (HouseholdChange.Withdraw (record { target = target }))

unfoldable pub change_members : HouseholdChange → Members
change_members (HouseholdChange.Annual annual) =
    member (codes "facts") (facts_data annual.facts) (
    member (codes "from") (day_data annual.from) no_members)
change_members (HouseholdChange.Interim interim) =
    member (codes "done") (day_data interim.dates.done) (
    member (codes "event") (day_data interim.dates.event) (
    member (codes "facts") (facts_data interim.facts) (
    member (codes "from") (day_data interim.from) (
    member (codes "notice") (day_data interim.dates.notice) no_members))))
change_members (HouseholdChange.Resume resume) =
    member (codes "done") (day_data resume.done) (
    member (codes "facts") (facts_data resume.facts) (
    member (codes "from") (day_data resume.from) no_members))
change_members (HouseholdChange.Gross gross) = member (codes "from") (day_data gross.from) no_members
change_members (HouseholdChange.Correct correct) =
    member (codes "facts") (facts_data correct.facts) (
    member (codes "from") (day_data correct.from) (
    member (codes "record") (number_data correct.target) no_members))
change_members (HouseholdChange.Transfer transfer) =
    member (codes "from") (day_data transfer.from) (
    member (codes "unit") (number_data transfer.unit) no_members)
change_members (HouseholdChange.MoveOut move_out) = member (codes "last") (day_data move_out.last) no_members
change_members (HouseholdChange.Terminate terminate) = member (codes "from") (day_data terminate.from) no_members
change_members (HouseholdChange.Withdraw withdraw) = member (codes "record") (number_data withdraw.target) no_members

-- ---- acts

unfoldable pub household_at : ChangeKind → Data → Result Command (List ℕ)
household_at kind d = do
  household ← field (codes "household") u32_at d
  seen ← field (codes "seen") u32_at d
  change ← change_at kind d
  Ok (Command.Household (record { household = household; seen = seen; change = change }))

unfoldable pub household_members : HouseholdAct → Members
household_members act = put (codes "household") (number_data act.household) (put (codes "seen") (number_data act.seen) (change_members act.change))
