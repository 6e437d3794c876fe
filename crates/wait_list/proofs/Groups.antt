-- The groups of a unit, two by two.
use Rattle.wait_list.proofs.Words.{◌≡◌, ◌∙◌, sym, ap, refl, get_or, Bool, true, false, List, Option, Some, None, not, option_map, option_or, Applicant, Candidate, Asked, needs, candidates, next_of, next_applicant, mover_of}
use Rattle.std.specs.Prelude.{is_some}
use Rattle.list_laws.proofs.Filters.{filter_alike}
use Rattle.wait_list.specs.{declared.next.Group.Group, Group.is_of, Next.next_candidate}

-- the first who is there of three is that of one and two
of_pairs : (one two three : Option Candidate) → option_or (option_or one two) three ≡ option_or one (option_or two three)
of_pairs None two three = refl
of_pairs (Some one) two three = refl

if_there : (one two : Option Candidate) → is_some one ≡ true → option_or one two ≡ one
if_there None two there = absurd (cc)
if_there (Some one) two there = refl

if_none : (one two : Option Candidate) → is_some one ≡ false → option_or one two ≡ two
if_none None two none = refl
if_none (Some one) two none = absurd (cc)

module _ (asked : Asked) (applicants : List Applicant) where
  -- who is next of some who could be admitted
  abbrev of_group : List Applicant → Option Candidate
  of_group group = option_map (λ applicant. Candidate.Applicant applicant.number) (next_of asked group)

  same_group : (is_of other : Applicant → Bool) → ((applicant : Applicant) → is_of applicant ≡ other applicant) →
      next_applicant asked is_of applicants ≡ next_applicant asked other applicants
  same_group is_of other same = ap of_group (filter_alike is_of other (candidates asked applicants) (λ k d within. same (get_or (candidates asked applicants) k d)))

  module _ (needing : Option Candidate)
      (first : needing ≡ option_or (mover_of asked.needing) (next_applicant asked (is_of asked Group.Needing) applicants))
    where
      in_need : needing ≡ option_or (mover_of asked.needing) (next_applicant asked (needs asked) applicants)
      in_need = first ∙ ap (λ (next : Option Candidate). option_or (mover_of asked.needing) next) (same_group (is_of asked Group.Needing) (needs asked) (λ applicant. refl))

      turns : next_candidate asked applicants ≡ option_or needing (option_or (mover_of asked.other) (next_applicant asked (is_of asked Group.NotNeeding) applicants))
      turns =
          of_pairs (option_or (mover_of asked.needing) (next_applicant asked (needs asked) applicants)) (mover_of asked.other) (next_applicant asked (λ applicant. not (needs asked applicant)) applicants)
          ∙ ap (λ (one : Option Candidate). option_or one (option_or (mover_of asked.other) (next_applicant asked (λ applicant. not (needs asked applicant)) applicants))) (sym in_need)
          ∙ ap (λ (next : Option Candidate). option_or needing (option_or (mover_of asked.other) next))
          (same_group (λ applicant. not (needs asked applicant)) (is_of asked Group.NotNeeding) (λ applicant. refl))

      pub who_needs : is_some needing ≡ true → needing ≡ next_candidate asked applicants
      who_needs there = sym (turns ∙ if_there needing _ there)

      pub another : is_some needing ≡ false → (other : Option Candidate) →
          other ≡ option_or (mover_of asked.other) (next_applicant asked (is_of asked Group.NotNeeding) applicants) → other ≡ next_candidate asked applicants
      another none other is_other = is_other ∙ sym (turns ∙ if_none needing _ none)
