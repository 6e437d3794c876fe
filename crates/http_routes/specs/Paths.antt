-- Paths and their parts, which stand behind slashes.
use Rattle.std.specs.Prelude.{ℕ, ◌&&◌, ◌==◌, nat_lt, Bool, true, false, if◌then◌else◌, List, [], ◌∷◌, length, codes, bytes_eq}
use Rattle.questions.specs.declared.kind.QuestionKind.{QuestionKind}
use Rattle.http_routes.specs.declared.place.Place.{Place}

-- the bytes up to the next slash
abbrev pub part_of : List ℕ → List ℕ
part_of [] = []
part_of (b ∷ path) = if b == 47 then [] else b ∷ part_of path

-- and those from the next slash on
abbrev pub behind : List ℕ → List ℕ
behind [] = []
behind (b ∷ path) = if b == 47 then b ∷ path else behind path

-- a part of a route: a word, or a value of at least one byte
pub data Step : Type 0 where
  word : List ℕ → Step
  value : Step

abbrev pub takes : Step → List ℕ → Bool
takes (word text) part = bytes_eq text part
takes value part = nat_lt 0 (length part)

-- each step takes a part of the path, in order, and none is left
abbrev pub fits : List Step → List ℕ → Bool
fits [] [] = true
fits [] (b ∷ path) = false
fits (step ∷ steps) [] = false
fits (step ∷ steps) (b ∷ path) = 47 == b && (takes step (part_of path) && fits steps (behind path))

-- the routes
abbrev pub steps_of : Place → List Step
steps_of Place.Acts = word (codes "acts") ∷ []
steps_of (Place.Question QuestionKind.Household) = word (codes "households") ∷ value ∷ []
steps_of (Place.Question QuestionKind.Record) = word (codes "households") ∷ value ∷ word (codes "records") ∷ value ∷ []
steps_of (Place.Question QuestionKind.Paid) = word (codes "households") ∷ value ∷ word (codes "paid") ∷ value ∷ []
steps_of (Place.Question QuestionKind.Next) = word (codes "units") ∷ value ∷ word (codes "next") ∷ value ∷ []
steps_of (Place.Question QuestionKind.Voucher) = word (codes "vouchers") ∷ value ∷ []
steps_of (Place.Question QuestionKind.Due) = word (codes "due") ∷ value ∷ []
steps_of (Place.Question QuestionKind.Targets) = word (codes "targets") ∷ value ∷ []
