-- The rows of the router, by tokens: a byte, or 256 for a parameter.
use Rattle.std.specs.Prelude.{◌≡◌, ℕ, List, [], ◌∷◌, ◌++◌}
use Rattle.matchit.specs.{Router.RouteOf, Router.rename, Rows.Rows, Rows.RowsOf}
use Rattle.questions.specs.declared.kind.QuestionKind.{QuestionKind}
use Rattle.http_routes.specs.{Paths.Step, Paths.steps_of, Paths.value, Paths.word, declared.place.Place.Place}

abbrev pub tokens_of : List Step → List ℕ
tokens_of [] = []
tokens_of (word text ∷ steps) = 47 ∷ (text ++ tokens_of steps)
tokens_of (value ∷ steps) = 47 ∷ 256 ∷ tokens_of steps

abbrev pub number_of : Place → ℕ
number_of Place.Acts = 0
number_of (Place.Question QuestionKind.Household) = 1
number_of (Place.Question QuestionKind.Record) = 2
number_of (Place.Question QuestionKind.Next) = 3
number_of (Place.Question QuestionKind.Voucher) = 4
number_of (Place.Question QuestionKind.Paid) = 5
number_of (Place.Question QuestionKind.Due) = 6
number_of (Place.Question QuestionKind.Targets) = 7

abbrev pub row : Place → List ℕ × ℕ
row place = (tokens_of (steps_of place), number_of place)

abbrev pub table : Rows
table =
    row Place.Acts ∷ row (Place.Question QuestionKind.Due) ∷ row (Place.Question QuestionKind.Paid) ∷ row (Place.Question QuestionKind.Record) ∷ row (Place.Question QuestionKind.Household) ∷ row (Place.Question QuestionKind.Targets) ∷ row (Place.Question QuestionKind.Next) ∷ row (Place.Question QuestionKind.Voucher) ∷ []

-- the router has these rows
abbrev pub IsTable : RowsOf (RouteOf Place) → Type 0
IsTable rows = rename (λ (route : RouteOf Place). number_of route.value) rows ≡ table
