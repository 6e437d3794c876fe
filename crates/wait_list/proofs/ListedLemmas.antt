-- What is left of the list where one applicant goes.
use Rattle.wait_list.proofs.Words.{◌≡◌, ◌≢◌, ℕ, suc, ◌+◌, List, [], ◌∷◌, length, refl, arith, if◌then◌else◌, All, All-head, All-tail, Applicant, is_listed, without, HaveOwnNumbers, nat_tests}

-- how many applicants there are, those who go and those who stay
abbrev counted : ℕ → List Applicant → ℕ
counted number applicants = length (without number applicants) + (if is_listed applicants number then 1 else 0)

-- where nobody has the number, all stay
all_stay : (number : ℕ) (applicants : List Applicant) → All (λ other. number ≢ other.number) applicants →
    length (without number applicants) ≡ length applicants
all_stay number [] none = refl
all_stay number (applicant ∷ applicants) none =
    grind (
      arith,
      nat_tests,
      All-head (λ other. number ≢ other.number) applicant applicants none,
      all_stay number applicants (All-tail (λ other. number ≢ other.number) applicant applicants none),
    )

-- at most one goes
pub length-without : (number : ℕ) (applicants : List Applicant) → HaveOwnNumbers applicants →
    counted number applicants ≡ length applicants
length-without number [] own = refl
length-without number (applicant ∷ applicants) own =
    let alone : applicant.number ≡ number → length (without number applicants) ≡ length applicants =
    λ same. all_stay number applicants (λ k d within. rw (← same) (own 0 (suc k) d (omega arith) (omega (arith, within)))) in
    let rest = length-without number applicants (λ i j d before within. own (suc i) (suc j) d (omega (arith, before)) (omega (arith, within))) in
    grind (arith, nat_tests, alone)
