-- What it comes to by the tests that one is next for a unit.
use Rattle.std.specs.Prelude.{◌≡◌, ◌⊎◌, ℕ, ◌&&◌, ◌||◌, not, Bool, true, false, Option, Some, None, List, All, Contains}
use Rattle.rent_table.specs.Admission.{suits}
use Rattle.wait_list.specs.declared.{applicant.Applicant.Applicant, ask.Candidate.Candidate}
use Rattle.wait_list.specs.Next.{Asked, needs, is_within_limit, is_extremely_low, is_candidate, stands_behind, next_candidate}

-- an extremely low-income applicant is wanted, and the first is one and the second isn't
abbrev pub is_preferred : Asked → Applicant → Applicant → Bool
is_preferred asked applicant other = asked.wanted && (is_extremely_low asked applicant && not (is_extremely_low asked other))

-- of two applicants of one group, the first goes before the second: it is preferred, or it has the smaller rank or the
-- earlier act and the other isn't preferred
abbrev pub goes_before : Asked → Applicant → Applicant → Bool
goes_before asked applicant other =
    is_preferred asked applicant other || (stands_behind other applicant && not (is_preferred asked other applicant))

-- no mover needs features that the unit has
abbrev pub NoMoverNeeds : Asked → Type 0
NoMoverNeeds asked = asked.needing ≡ None

-- nor does an applicant who could be admitted
abbrev pub NoApplicantNeeds : Asked → List Applicant → Type 0
NoApplicantNeeds asked applicants = All (λ other. is_candidate asked other ≡ true → needs asked other ≡ false) applicants

-- An applicant is rightly next: it is on the list, suits the unit and is within the limit. Nobody of its group who could
-- be admitted goes before it, and nobody is of a group before its own.
pub record ApplicantIsFirst (asked : Asked) (applicants : List Applicant) (next : Applicant) : Type 0 where
  pub listed : Contains applicants next
  pub suits : suits asked.plan asked.unit next.persons ≡ true
  pub within : is_within_limit asked next ≡ true
  pub first : All (λ other. is_candidate asked other ≡ true → needs asked other ≡ needs asked next → goes_before asked other next ≡ false) applicants
  pub no_mover_needs : NoMoverNeeds asked
  pub no_applicant_needs : needs asked next ≡ false → NoApplicantNeeds asked applicants
  pub no_mover : needs asked next ≡ false → asked.other ≡ None

-- A household is rightly next: it is the first mover who needs features that the unit has; or the first other mover, where
-- nobody needs them.
abbrev pub HouseholdIsFirst : Asked → List Applicant → ℕ → Type 0
HouseholdIsFirst asked applicants household =
    (asked.needing ≡ Some household)
    ⊎ ((asked.other ≡ Some household) × NoMoverNeeds asked × NoApplicantNeeds asked applicants)

-- Rightly nobody is next: there is no mover, and nobody on the list could be admitted.
pub record NobodySuits (asked : Asked) (applicants : List Applicant) : Type 0 where
  pub no_mover_needs : NoMoverNeeds asked
  pub no_mover : asked.other ≡ None
  pub no_applicant : All (λ applicant. is_candidate asked applicant ≡ false) applicants

-- the answer is right
abbrev pub IsRightful : Asked → List Applicant → Option Candidate → Type 0
IsRightful asked applicants None = NobodySuits asked applicants
IsRightful asked applicants (Some (Candidate.Applicant number)) =
    (next : Applicant) × (next.number ≡ number) × ApplicantIsFirst asked applicants next
IsRightful asked applicants (Some (Candidate.Household household)) = HouseholdIsFirst asked applicants household

-- whoever is next is so rightly
abbrev pub NextIsRightful : Type 0
NextIsRightful = (asked : Asked) (applicants : List Applicant) → IsRightful asked applicants (next_candidate asked applicants)
