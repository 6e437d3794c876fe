-- What a method and a target ask for.
use Rattle.std.specs.Prelude.{◌≡◌, ◌≢◌, ℕ, zero, suc, ◌&&◌, ◌==◌, nat_le, nat_lt, true, if◌then◌else◌, List, length, Option, Some, None, Result, Ok, Err, ok_or, codes}
use Rattle.std.specs.{List.after_first, List.before_first, List.list_all, Char.is_ascii_digit, Str.Parse.digits_value}
use Rattle.days_core.specs.DayText.{day_from, month_from}
use Rattle.questions.specs.declared.{kind.QuestionKind.QuestionKind, question.Question.Question}
use Rattle.http_routes.specs.{Paths.fits, Paths.steps_of, declared.routed.Routed.Routed, declared.routed.ValuePart.ValuePart, declared.place.Place.Place}

-- the target up to its first question mark
abbrev pub path_of : List ℕ → List ℕ
path_of target = before_first (λ b. b == 63) target

-- the part of a path that so many slashes come before
abbrev pub part_at : ℕ → List ℕ → List ℕ
part_at zero path = before_first (λ b. b == 47) path
part_at (suc n) path = part_at n (after_first (λ b. b == 47) path)

-- ---- the values of parts

-- the number that one digit or more write, of at most 32 bits
unfoldable pub number_from : List ℕ → Option ℕ
number_from text =
    if (nat_lt 0 (length text) && list_all is_ascii_digit text) && nat_le (digits_value 10 text) 4294967295
    then Some (digits_value 10 text) else None

abbrev pub name_of : ValuePart → List ℕ
name_of ValuePart.Household = codes "{h}"
name_of ValuePart.Record = codes "{r}"
name_of ValuePart.Unit = codes "{u}"
name_of ValuePart.Day = codes "{day}"
name_of ValuePart.Month = codes "{month}"

infixl 10 ◌>>=◌
abbrev pub ◌>>=◌ : {A B : Type 0} → Result A ValuePart → (A → Result B ValuePart) → Result B ValuePart
(Ok x) >>= next = next x
(Err part) >>= next = Err part

-- the question of that kind that the parts of a path ask, or the first of them that is of another form
abbrev pub question_in : QuestionKind → List ℕ → Result Question ValuePart
question_in QuestionKind.Household path = do
  household ← ok_or (number_from (part_at 2 path)) ValuePart.Household
  Ok (Question.Household household)
question_in QuestionKind.Record path = do
  household ← ok_or (number_from (part_at 2 path)) ValuePart.Household
  target ← ok_or (number_from (part_at 4 path)) ValuePart.Record
  Ok (Question.Record household target)
question_in QuestionKind.Next path = do
  unit ← ok_or (number_from (part_at 2 path)) ValuePart.Unit
  day ← ok_or (day_from (part_at 4 path)) ValuePart.Day
  Ok (Question.Next unit day)
question_in QuestionKind.Voucher path = do
  month ← ok_or (month_from (part_at 2 path)) ValuePart.Month
  Ok (Question.Voucher month)
question_in QuestionKind.Paid path = do
  household ← ok_or (number_from (part_at 2 path)) ValuePart.Household
  month ← ok_or (month_from (part_at 4 path)) ValuePart.Month
  Ok (Question.Paid household month)
question_in QuestionKind.Due path = do
  day ← ok_or (day_from (part_at 2 path)) ValuePart.Day
  Ok (Question.Due day)
question_in QuestionKind.Targets path = do
  day ← ok_or (day_from (part_at 2 path)) ValuePart.Day
  Ok (Question.Targets day)

-- ---- routes

abbrev pub method_of : Place → List ℕ
method_of Place.Acts = codes "POST"
method_of _ = codes "GET"

-- the route of that place fits the target
abbrev pub IsRoute : List ℕ → Place → Type 0
IsRoute target place = fits (steps_of place) (path_of target) ≡ true

-- the method is the one of the place's route, which fits the target
abbrev pub IsAt : List ℕ → List ℕ → Place → Type 0
IsAt method target place = IsRoute target place × (method ≡ method_of place)

-- where a method and a target lead
abbrev pub Leads : List ℕ → List ℕ → Routed → Type 0
Leads method target Routed.Act = IsAt method target Place.Acts
Leads method target (Routed.Question question) =
    (kind : QuestionKind) × IsAt method target (Place.Question kind) × (question_in kind (path_of target) ≡ Ok question)
Leads method target (Routed.BadPart part) =
    (kind : QuestionKind) × IsAt method target (Place.Question kind) × (question_in kind (path_of target) ≡ Err part)
Leads method target Routed.NoMethod = (place : Place) × IsRoute target place × (method ≢ method_of place)
Leads method target Routed.NoRoute = (place : Place) → ¬ (IsRoute target place)

-- no two routes fit one target
abbrev pub OneRoute : Type 0
OneRoute = (target : List ℕ) (place other : Place) → IsRoute target place → IsRoute target other → place ≡ other
