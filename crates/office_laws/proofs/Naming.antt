-- Every act and record of a book that an office comes to names applicants and households that are there.
use Rattle.office_laws.proofs.Words.{Passed, ◌≡◌, ℕ, zero, suc, ◌+◌, ◌<◌, ◌≤◌, arith, true, not, List, [], ◌∷◌, ◌++◌, Option, Some, None, length, option_to_list, All, IfSome, ◌==◌, list_any, option_map, length-append, All-append, All-push, All-filter, Any-from_list_any, length-map-range_with_len, Record, Applicant, Command, Application, Act, plan_of, plan_act, apply_in, application_by, applications_of, applicant_of, applicants_of, numbered, takes_off_list, household_count, ask_in, waiting_of, ranks_of, own_of, Known, known_by, record_of, planned_by, is_plan, no_such, matter_of, are_there, refused_if, refused_unless, is_some, ◌&&◌, Refusal, refused_by, IsOneOf, NamesOnlyThose, passed, household_there, test_passed, All-option, nat_tests, common_steps, is_listed, AskTransferAct}
use Rattle.office_step.specs.declared.refusal.Named.{Named}
use Rattle.office_laws.proofs.{Grown.plan-more, Grown.applications-more, Makes.made_within, Grown.count-more}

-- ---- applicants

numbered-within : (ranks : List ℕ) (first : ℕ) (applications : List Application) →
    All (λ applicant. (first ≤ applicant.number) × (applicant.number < first + length applications)) (numbered (applicant_of ranks) first applications)
numbered-within ranks first [] k d within = absurd (omega arith)
numbered-within ranks first (application ∷ applications) zero d within = omega arith
numbered-within ranks first (application ∷ applications) (suc k) d within =
    omega (arith, numbered-within ranks (first + 1) applications k d (omega arith))

-- who waits has applied
listed_there : (ranks : List ℕ) (acts : List Act) (applicant : ℕ) → refused_unless (is_listed (waiting_of ranks acts) applicant) (Refusal.NoSuch Named.Applicant applicant) ≡ None → IsOneOf (length (applications_of acts)) applicant
listed_there ranks acts applicant none =
    let waits : All (λ a. IsOneOf (length (applications_of acts)) a.number) (waiting_of ranks acts) =
    All-filter (λ (a : Applicant). not (list_any (λ act. takes_off_list a.number act.command) acts))
    (λ a. IsOneOf (length (applications_of acts)) a.number) (applicants_of ranks acts)
    (λ k d within. omega (arith, numbered-within ranks 1 (applications_of acts) k d within)) in
    let found = Any-from_list_any (λ a. a.number == applicant) (waiting_of ranks acts) (test_passed (is_listed (waiting_of ranks acts) applicant) _ none) in
    grind (arith, nat_tests, found.3, found.4, waits found.0 found.1 found.2)

-- ---- one act more

-- one more act leaves no acts without a plan: it is one itself, or comes after one
plan_first : (acts : List Act) (act : Act) → (plan_of acts ≡ None → acts ≡ []) → refused_if (not (is_plan act.command) && not (is_some (plan_act acts))) Refusal.NoPlan ≡ None →
    plan_of (acts ++ act ∷ []) ≡ None → ⊥
plan_first acts act first free none = grind (arith, common_steps, plan-more acts act, first, free, none)

-- whom the act takes off the list has applied
off_there : (count : ℕ) (acts : List Act) (records : List Record) (asked : Command) → no_such (matter_of (known_by count acts records) asked) ≡ None →
    (number : ℕ) → takes_off_list number asked ≡ true → IsOneOf (length (applications_of acts)) number
off_there count acts records (Command.Remove remove) free number takes =
    grind (arith, nat_tests, takes, listed_there (ranks_of (plan_of acts)) acts remove.applicant (are_there (matter_of (known_by count acts records) (Command.Remove remove)) free).applicant)
off_there count acts records (Command.Admit admit) free number takes =
    grind (arith, nat_tests, takes, listed_there (ranks_of (plan_of acts)) acts admit.applicant (are_there (matter_of (known_by count acts records) (Command.Admit admit)) free).applicant)
off_there count acts records _ free number takes = absurd (cc)

households_counted : (count : ℕ) (acts : List Act) (records : List Record) → length (known_by count acts records).households ≡ household_count acts
households_counted count acts records = length-map-range_with_len (own_of records) 1 (household_count acts)

-- and the household that asks is there
pub asked_there : (count : ℕ) (acts : List Act) (records : List Record) (asked : Command) → no_such (matter_of (known_by count acts records) asked) ≡ None →
    IfSome (ask_in asked) (λ ask. IsOneOf (household_count acts) ask.household)
asked_there count acts records (Command.AskTransfer ask) free =
    omega (
      arith,
      households_counted count acts records,
      household_there (known_by count acts records) ask.household
          (are_there (matter_of (known_by count acts records) (Command.AskTransfer ask)) free).household,
    )
asked_there count acts records _ free = tt

module _ (count : ℕ) (acts : List Act) (records : List Record) (only : NamesOnlyThose acts records) (n most today : ℕ) (asked : Command)
    (allowed : refused_by (known_by count acts records) most today asked ≡ None) where
  abbrev known : Known
  known = known_by count acts records

  abbrev act : Act
  act = record { n = n; command = asked }

  free : Passed known most today asked
  free = passed known most today asked allowed

  pub held_there : (r : Record) → record_of known asked ≡ Some r → IsOneOf (household_count (acts ++ act ∷ [])) r.household
  held_there r is =
      omega (arith, households_counted count acts records, count-more acts records act only, made_within known asked r free.no_such is)

  applications_longer : length (applications_of (acts ++ act ∷ [])) ≡
      length (applications_of acts) + length (option_to_list (option_map (application_by n) (apply_in asked)))
  applications_longer = rw (applications-more acts act) (length-append (applications_of acts) _)

  ask_longer : (ask : Option AskTransferAct) → IfSome ask (λ ask. IsOneOf (household_count acts) ask.household) →
      IfSome ask (λ ask. IsOneOf (household_count (acts ++ act ∷ [])) ask.household)
  ask_longer None there = tt
  ask_longer (Some ask) there = omega (arith, count-more acts records act only, there)

  pub names_only_more : NamesOnlyThose (acts ++ act ∷ []) (records ++ option_to_list (record_of known asked))
  names_only_more = record {
    planned = λ none. absurd (plan_first acts act only.planned (planned_by known asked free.no_plan) none);
    off = All-push (λ a. (number : ℕ) → takes_off_list number a.command ≡ true → IsOneOf (length (applications_of (acts ++ act ∷ []))) number) acts act
        (λ k d within number takes. omega (arith, applications_longer, only.off k d within number takes))
        (λ number takes. omega (arith, applications_longer, off_there count acts records asked free.no_such number takes));
    asked = All-push (λ a. IfSome (ask_in a.command) (λ ask. IsOneOf (household_count (acts ++ act ∷ [])) ask.household)) acts act
        (λ k d within. ask_longer _ (only.asked k d within)) (ask_longer (ask_in asked) (asked_there count acts records asked free.no_such));
    held = All-append (λ r. IsOneOf (household_count (acts ++ act ∷ [])) r.household) records (option_to_list (record_of known asked))
        (λ k d within. omega (arith, count-more acts records act only, only.held k d within))
        (All-option (λ r. IsOneOf (household_count (acts ++ act ∷ [])) r.household) (record_of known asked) held_there);
  }
