-- The applicants on a list in the order in which they stand, by rank and then by act.
use Rattle.std.specs.Prelude.{◌≡◌, true, List, All, AllPairs, Contains}
use Rattle.wait_list.specs.{declared.applicant.Applicant.Applicant, Next.stands_behind, Waiting.IsSoundList}

-- each stands before those that follow it
abbrev pub StandInOrder : List Applicant → Type 0
StandInOrder ranked = AllPairs (λ applicant next. stands_behind next applicant ≡ true) ranked

-- they are the applicants of the list, in the order in which they stand
pub record IsRanking (applicants ranked : List Applicant) : Type 0 where
  pub all : All (Contains ranked) applicants
  pub only : All (Contains applicants) ranked
  pub in_order : StandInOrder ranked

-- what is true of every list and of its applicants in order
pub record IsSoundRanking (applicants ranked : List Applicant) : Type 0 where
  pub list : IsSoundList applicants
  pub ranking : IsRanking applicants ranked
