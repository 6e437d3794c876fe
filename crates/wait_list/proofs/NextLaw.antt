-- Whoever is next is so rightly.
use Rattle.wait_list.proofs.Words.{◌≡◌, ◌∙◌, sym, ℕ, Bool, true, false, List, length, ◌<◌, [], ◌∷◌, get_or, refl, inl, inr, Option, Some, None, ◌&&◌, ◌||◌, not, filter, All, Contains, IfSome, IsSomeAnd, if◌then◌else◌, option_map, option_or, Applicant, Asked, is_within_limit, is_extremely_low, is_candidate, candidates, stands_behind, first_of, next_of, mover_of, first_there, common_steps, arith, and_parts, and_from, false_from_ne_true, Candidate, needs, goes_before, NoMoverNeeds, NoApplicantNeeds, ApplicantIsFirst, IsRightful, NextIsRightful}
use Rattle.rent_table.specs.Admission.{suits}
use Rattle.row_choice.{specs.Latest.IsLatest, proofs.LatestLemmas.latest-is, proofs.LatestLemmas.pairs_order-turned, proofs.LatestLemmas.filter-filter}

-- the first of low income where such a row is wanted and there is one, else the first: none goes before it, by any tests
module _ {Row : Type 0} (wanted : Bool) (low is_of : Row → Bool) (behind : Row → Row → Bool) (rows : List Row) (extremely first : Option Row)
    (of_extremely : IsLatest behind (λ row. is_of row && low row) rows extremely) (of_first : IsLatest behind is_of rows first) where
  abbrev is_before : Row → Row → Bool
  is_before other next = (wanted && (low other && not (low next))) || (behind next other && not (wanted && (low next && not (low other))))

  chosen_among : IfSome (if wanted then option_or extremely first else first) (λ next. Contains rows next × (is_of next ≡ true))
  chosen_among = grind (arith, common_steps, of_extremely.among, of_first.among)

  chosen_last : (k : ℕ) (d : Row) → k < length rows → is_of (get_or rows k d) ≡ true →
      IsSomeAnd (if wanted then option_or extremely first else first) (λ next. is_before (get_or rows k d) next ≡ false)
  chosen_last k d within passed = grind (arith, common_steps, of_extremely.among, of_extremely.last k d within, of_first.last k d within)

-- who is next of a group
abbrev IsNextOf : Asked → List Applicant → (Applicant → Bool) → Option Applicant → Type 0
IsNextOf asked applicants is_of next = IsLatest (λ applicant other. goes_before asked other applicant) is_of applicants next

-- who is next of those who pass
next_of-is : (asked : Asked) (applicants : List Applicant) (is_of : Applicant → Bool) →
    IsNextOf asked applicants is_of (next_of asked (filter is_of applicants))
next_of-is asked applicants is_of =
    let order = pairs_order-turned {Row = Applicant} (λ applicant. applicant.rank) (λ applicant. applicant.act) in
    let both : Applicant → Bool = λ applicant. is_of applicant && is_extremely_low asked applicant in
    let extremely : IsLatest stands_behind both applicants (first_of (filter (is_extremely_low asked) (filter is_of applicants))) =
    rw (filter-filter (is_extremely_low asked) is_of applicants) (latest-is stands_behind both applicants order) in
    let of_first = latest-is stands_behind is_of applicants order in
    record {
      among = chosen_among asked.wanted (is_extremely_low asked) is_of stands_behind applicants _ _ extremely of_first;
      last = chosen_last asked.wanted (is_extremely_low asked) is_of stands_behind applicants _ _ extremely of_first;
    }

-- who is next of those who could be admitted and need the unit's features, or don't
pub record NextOfNeed (asked : Asked) (applicants : List Applicant) (need : Bool) (next : Option Applicant) : Type 0 where
  pub among : IfSome next (λ next. Contains applicants next × (is_candidate asked next ≡ true) × (needs asked next ≡ need))
  pub first : All (λ other. is_candidate asked other ≡ true → needs asked other ≡ need → IsSomeAnd next (λ next. goes_before asked other next ≡ false)) applicants

-- the same, where a test tells the need
of_need : (asked : Asked) (applicants : List Applicant) (need : Bool) (is_of : Applicant → Bool) →
    ((applicant : Applicant) → is_of applicant ≡ true → needs asked applicant ≡ need) →
    ((applicant : Applicant) → needs asked applicant ≡ need → is_of applicant ≡ true) →
    NextOfNeed asked applicants need (next_of asked (filter is_of (candidates asked applicants)))
of_need asked applicants need is_of told tells =
    rw (filter-filter is_of (is_candidate asked) applicants)
    (let is = next_of-is asked applicants (λ applicant. is_candidate asked applicant && is_of applicant) in
    record { among = with_need _ is.among; first = λ k d within passed of_need. is.last k d within (and_from _ _ passed (tells _ of_need)) })
  where
    with_need : (next : Option Applicant) → IfSome next (λ next. Contains applicants next × ((is_candidate asked next && is_of next) ≡ true)) →
        IfSome next (λ next. Contains applicants next × (is_candidate asked next ≡ true) × (needs asked next ≡ need))
    with_need None among = among
    with_need (Some next) among = (let parts = and_parts (is_candidate asked next) (is_of next) among.1 in (among.0, parts.0, told next parts.1))

-- who is next of those of a need goes before all of them
is_first : (asked : Asked) (applicants : List Applicant) (need : Bool) (next : Applicant) → NextOfNeed asked applicants need (Some next) →
    NoMoverNeeds asked → (need ≡ false → NoApplicantNeeds asked applicants × (asked.other ≡ None)) → ApplicantIsFirst asked applicants next
is_first asked applicants need next of_need no_mover_needs nobody_before =
    let parts = and_parts (suits asked.plan asked.unit next.persons) (is_within_limit asked next) of_need.among.1 in
    record {
      listed = of_need.among.0;
      suits = parts.0;
      within = parts.1;
      first = λ k d within passed same. of_need.first k d within passed (same ∙ of_need.among.2);
      no_mover_needs = no_mover_needs;
      no_applicant_needs = λ not. (nobody_before (sym of_need.among.2 ∙ not)).0;
      no_mover = λ not. (nobody_before (sym of_need.among.2 ∙ not)).1;
    }

-- an applicant who is next, as a candidate
abbrev by_number : Option Applicant → Option Candidate
by_number next = option_map (λ applicant. Candidate.Applicant applicant.number) next

-- the first who is there of the four groups
in_turn : (asked : Asked) (applicants : List Applicant) (needing other : Option ℕ) (who_needs another : Option Applicant) →
    asked.needing ≡ needing → asked.other ≡ other → NextOfNeed asked applicants true who_needs → NextOfNeed asked applicants false another →
    IsRightful asked applicants (first_there (mover_of needing ∷ by_number who_needs ∷ mover_of other ∷ by_number another ∷ []))
in_turn asked applicants (Some household) other who_needs another of_needing is_other of_need of_others = inl of_needing
in_turn asked applicants None other (Some next) another no_mover_needs is_other of_need of_others =
    (next, refl, is_first asked applicants true next of_need no_mover_needs (λ not. absurd (cc)))
in_turn asked applicants None other None another no_mover_needs is_other of_need of_others =
    by_others other another is_other of_others
  where
    none_needs : NoApplicantNeeds asked applicants
    none_needs k d within passed = false_from_ne_true (needs asked (get_or applicants k d)) (of_need.first k d within passed)

    by_others : (other : Option ℕ) (another : Option Applicant) → asked.other ≡ other → NextOfNeed asked applicants false another →
        IsRightful asked applicants (first_there (mover_of other ∷ by_number another ∷ []))
    by_others (Some household) another is_other of_others = inr (is_other, no_mover_needs, none_needs)
    by_others None (Some next) is_other of_others =
        (next, refl, is_first asked applicants false next of_others no_mover_needs (λ _. (none_needs, is_other)))
    by_others None None is_other of_others = record {
      no_mover_needs = no_mover_needs;
      no_mover = is_other;
      no_applicant = λ k d within. false_from_ne_true (is_candidate asked (get_or applicants k d)) (λ passed. of_others.first k d within passed (none_needs k d within passed));
    }

pub next-is_rightful : NextIsRightful
next-is_rightful asked applicants =
    in_turn asked applicants asked.needing asked.other
    (next_of asked (filter (needs asked) (candidates asked applicants)))
    (next_of asked (filter (λ applicant. not (needs asked applicant)) (candidates asked applicants))) refl refl
    (of_need asked applicants true (needs asked) (λ applicant needed. needed) (λ applicant needed. needed))
    (of_need asked applicants false (λ applicant. not (needs asked applicant))
    (λ applicant not_needed. grind (arith, common_steps))
    (λ applicant not_needed. grind (arith, common_steps)))
