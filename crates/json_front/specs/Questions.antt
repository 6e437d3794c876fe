-- How a question is written in JSON: its kind first, then the fields of that kind in their order, then no other member.
use Rattle.std.specs.Prelude.{ℕ, List, [], ◌∷◌, Result, Ok, codes}
use Rattle.serde_json.specs.Data.{Data}
use Rattle.json_form.specs.Form.{◌>>=◌, is_object_at, u32_at, day_at, month_at, one_of, field, closed}
use Rattle.questions.specs.declared.{question.Question.Question, kind.QuestionKind.QuestionKind}

abbrev pub kinds : List (List ℕ × QuestionKind)
kinds =
    (codes "household", QuestionKind.Household) ∷ (codes "record", QuestionKind.Record) ∷ (codes "next", QuestionKind.Next) ∷ (codes "voucher", QuestionKind.Voucher)
    ∷ (codes "paid", QuestionKind.Paid) ∷ (codes "due", QuestionKind.Due) ∷ (codes "targets", QuestionKind.Targets) ∷ []

-- the fields behind the kind
unfoldable pub fields_at : QuestionKind → Data → Result Question (List ℕ)
fields_at QuestionKind.Household d = do
  household ← field (codes "household") u32_at d
  Ok (Question.Household household)
fields_at QuestionKind.Record d = do
  household ← field (codes "household") u32_at d
  target ← field (codes "record") u32_at d
  Ok (Question.Record household target)
fields_at QuestionKind.Next d = do
  unit ← field (codes "unit") u32_at d
  day ← field (codes "day") day_at d
  Ok (Question.Next unit day)
fields_at QuestionKind.Voucher d = do
  month ← field (codes "month") month_at d
  Ok (Question.Voucher month)
fields_at QuestionKind.Paid d = do
  household ← field (codes "household") u32_at d
  month ← field (codes "month") month_at d
  Ok (Question.Paid household month)
fields_at QuestionKind.Due d = do
  day ← field (codes "day") day_at d
  Ok (Question.Due day)
fields_at QuestionKind.Targets d = do
  day ← field (codes "day") day_at d
  Ok (Question.Targets day)

-- the names of all its fields
abbrev pub names_of : QuestionKind → List (List ℕ)
names_of QuestionKind.Household = codes "kind" ∷ codes "household" ∷ []
names_of QuestionKind.Record = codes "kind" ∷ codes "household" ∷ codes "record" ∷ []
names_of QuestionKind.Next = codes "kind" ∷ codes "unit" ∷ codes "day" ∷ []
names_of QuestionKind.Voucher = codes "kind" ∷ codes "month" ∷ []
names_of QuestionKind.Paid = codes "kind" ∷ codes "household" ∷ codes "month" ∷ []
names_of QuestionKind.Due = codes "kind" ∷ codes "day" ∷ []
names_of QuestionKind.Targets = codes "kind" ∷ codes "day" ∷ []

unfoldable pub question_at : Data → Result Question (List ℕ)
question_at d = do
  _ ← is_object_at d
  kind ← field (codes "kind") (one_of kinds) d
  asked ← fields_at kind d
  closed (names_of kind) asked d
