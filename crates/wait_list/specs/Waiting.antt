-- Who waits for a unit (own rules).
use Rattle.std.specs.Prelude.{◌≢◌, ◌<◌, ◌≤◌, ℕ, ◌==◌, not, Bool, List, All, AllPairs, filter}
use Rattle.std.specs.List.{list_any}
use Rattle.wait_list.specs.declared.applicant.Applicant.{Applicant}

-- the applicants in the order in which they applied, and for how many more there is room
pub record Waiting : Type 0 where
  pub applicants : List Applicant
  pub room : ℕ

-- an applicant of that number is on the list
abbrev pub is_listed : List Applicant → ℕ → Bool
is_listed applicants number = list_any (λ applicant. applicant.number == number) applicants

-- all but the applicant of that number
abbrev pub without : ℕ → List Applicant → List Applicant
without number applicants = filter (λ applicant. not (applicant.number == number)) applicants

-- no two applicants have the same number
abbrev pub HaveOwnNumbers : List Applicant → Type 0
HaveOwnNumbers applicants = AllPairs (λ applicant other. applicant.number ≢ other.number) applicants

-- each applied by a later act than those before
abbrev pub ActsRise : List Applicant → Type 0
ActsRise applicants = AllPairs (λ applicant next. applicant.act < next.act) applicants

-- income limits are set for families of that size
pub record IsSize (size : ℕ) : Type 0 where
  pub least : 1 ≤ size
  pub most : size ≤ 12

-- each applicant is a family of 1 to 12 persons
abbrev pub HaveSizes : List Applicant → Type 0
HaveSizes applicants = All (λ applicant. IsSize applicant.size) applicants

-- what is true of the applicants on every list
pub record IsSoundList (applicants : List Applicant) : Type 0 where
  pub numbers : HaveOwnNumbers applicants
  pub acts : ActsRise applicants
  pub sizes : HaveSizes applicants
