-- The lists of due certifications and of admissions.
use Rattle.std.specs.Prelude.{ℕ, if◌then◌else◌, List, [], ◌∷◌, ◌++◌, codes, decimal}
use Rattle.std.specs.{List.flat_map, Option.option_map_or}
use Rattle.days_core.specs.DayText.{day_text}
use Rattle.book_rows.specs.Book.{Book}
use Rattle.office_core.specs.Below.office_step.{Known.known_of, Candidates.targets_of}
use Rattle.office_core.specs.Below.office_answers.{declared.answer.Admissions.Admissions, declared.answer.DueDay.DueDay, DueList.due_list, FiscalYear.admissions_by}
use Rattle.text_columns.specs.Columns.{labelled}

abbrev pub no_plan : List ℕ
no_plan = codes "no plan\n"

abbrev pub due_line : DueDay → List ℕ
due_line due = day_text due.day ++ labelled (codes " household ") (decimal due.household)

-- the list of the office's answer, one line for each; without a plan there is none
abbrev pub due_text : Book → ℕ → List ℕ
due_text book day = option_map_or (λ plan. flat_map due_line (due_list (known_of book).households day)) (known_of book).plan no_plan

abbrev pub admissions_text : Admissions → List ℕ
admissions_text admissions =
    labelled (codes "fiscal year from ") (day_text admissions.first_day)
    ++ labelled (codes "admitted ") (decimal admissions.admitted)
    ++ labelled (codes "extremely low ") (decimal admissions.extremely_low)
    ++ labelled (codes "expected ") (decimal admissions.expected)
    ++ labelled (codes "open ") (if admissions.opened then codes "yes" else codes "no")

-- the office's answer, or that there is no plan
abbrev pub targets_text : Book → ℕ → List ℕ
targets_text book day =
    option_map_or (λ plan. admissions_text (admissions_by plan day (targets_of plan day (known_of book).households))) (known_of book).plan no_plan
