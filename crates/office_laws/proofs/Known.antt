-- What is known once there is one act more.
use Rattle.office_laws.proofs.Words.{names_given, Book, Batch, Capacity, appended, empty_book, IsAppended, IsReached, reached_empty, reached_more, ◌≡◌, ◌∙◌, sym, ap, refl, subst, ℕ, ◌+◌, ◌≤◌, arith, List, [], ◌∷◌, ◌++◌, Option, Some, None, length, map, option_to_list, option_map, append-nil, length_push, IfSome, All, ask_in, Record, with_record, Command, Act, acts_of, plan_of, plan_act, applications_of, name_given, household_count, waiting_of, ranks_of, requests_of, households_of, Known, known_by, known_of, record_of, known_after, waiting_after, requests_after, households_after, plan_given, matter_of, refused_by, Accepted, IsOneOf, Kept, NamesOnlyThose, passed, option_or-none, option_map_none, filter_map_more, rents_in, rent_row, limits_in, limit_row, common_steps}
use Rattle.office_laws.specs.After.{KnownAfter}
use Rattle.office_laws.proofs.{Eligible.eligible-more, Makes.record_names_act, Replies.acts_within, Inversion.accepted, Naming.asked_there, Naming.held_there, Grown.names-more, Grown.count-more, Reached.acts_appended, Reached.books_are_kept}
use Rattle.office_laws.proofs.Grown.{plan-more, plan_act-more, units-more, applications-more, closing-more}
use Rattle.office_laws.proofs.Changed.{waiting-more, households-longer, households-held, requests-longer, requests-said}

-- no act gave a plan where none is named as the one that did
pub unplanned : (acts : List Act) → plan_act acts ≡ None → plan_of acts ≡ None
unplanned [] none = refl
unplanned (act ∷ acts) none = grind (arith, common_steps, none, unplanned acts)

-- a plan is the first act, and no other act sets the ranks
waits : (count : ℕ) (acts : List Act) (records : List Record) → NamesOnlyThose acts records → (asked : Command) →
    plan_given (matter_of (known_by count acts records) asked) ≡ None →
    waiting_of (ranks_of (plan_of (acts ++ record { n = count + 1; command = asked } ∷ []))) (acts ++ record { n = count + 1; command = asked } ∷ [])
    ≡ waiting_after (known_by count acts records) asked
waits count acts records only (Command.Plan plan) free =
    rw (only.planned (unplanned acts (option_map_none _ (plan_act acts) free))) refl
waits count acts records only asked free =
    rw (plan-more acts (record { n = count + 1; command = asked }), option_or-none (plan_of acts))
    (waiting-more acts records only (ranks_of (plan_of acts)) (count + 1) asked)

-- a household that asks for another unit says so last, and no other act says anything
asks : (count : ℕ) (acts : List Act) (records : List Record) → NamesOnlyThose acts records → (asked : Command) →
    IfSome (ask_in asked) (λ ask. IsOneOf (household_count acts) ask.household) →
    requests_of (acts ++ record { n = count + 1; command = asked } ∷ []) ≡ requests_after (known_by count acts records) asked
asks count acts records only (Command.AskTransfer ask) there =
    let none_more : household_count acts + 0 ≡ household_count acts = omega arith in
    rw (count-more acts records (record { n = count + 1; command = Command.AskTransfer ask }) only, none_more)
    (requests-said acts (count + 1) ask (household_count acts) there)
asks count acts records only asked there =
    rw (count-more acts records (record { n = count + 1; command = asked }) only)
    (requests-longer acts (count + 1) asked (household_count acts) only.asked (λ household. refl) (name_given (applications_of acts) asked))

module _ (count : ℕ) (acts : List Act) (records : List Record) (only : NamesOnlyThose acts records)
    (numbers : All (λ act. act.n ≤ count) acts) (made_by : All (λ r. r.act ≤ count) records) (most today : ℕ) (asked : Command)
    (allowed : refused_by (known_by count acts records) most today asked ≡ None) where
  abbrev known : Known
  known = known_by count acts records

  abbrev act : Act
  act = record { n = count + 1; command = asked }

  longer : households_of records (household_count (acts ++ act ∷ [])) ≡ known.households ++ map (λ name. []) (names_given known asked)
  longer = rw (count-more acts records act only) (households-longer records (household_count acts) only.held (name_given (applications_of acts) asked))

  holds : (made : Option Record) → ((r : Record) → made ≡ Some r → IsOneOf (household_count (acts ++ act ∷ [])) r.household) →
      households_of (records ++ option_to_list made) (household_count (acts ++ act ∷ [])) ≡ households_after known asked made
  holds None there = rw (append-nil records) longer
  holds (Some r) there =
      households-held records (household_count (acts ++ act ∷ [])) r (there r refl)
      ∙ ap (λ (households : List (List Record)). with_record households r) longer

  pub known_more : known_by (count + 1) (acts ++ act ∷ []) (records ++ option_to_list (record_of known asked)) ≡ known_after known asked (record_of known asked)
  known_more = λ i. record {
    count = count + 1;
    plan = plan-more acts act i;
    plan_act = plan_act-more acts act i;
    units = units-more acts act i;
    rents = filter_map_more (λ act. option_map (rent_row act.n) (rents_in act.command)) acts act i;
    limits = filter_map_more (λ act. option_map (limit_row act.n) (limits_in act.command)) acts act i;
    applications = applications-more acts act i;
    waiting = waits count acts records only asked (passed known most today asked allowed).plan_given i;
    names = names-more acts records act only i;
    households = holds (record_of known asked) (held_there count acts records only (count + 1) most today asked allowed) i;
    requests = asks count acts records only asked (asked_there count acts records asked (passed known most today asked allowed).no_such) i;
    eligible = eligible-more count records made_by acts only.held asked (record_of known asked) (λ r is. record_names_act known asked r is)
        (λ r is. (held_there count acts records only (count + 1) most today asked allowed r is).least) numbers i;
    closing = closing-more acts act i;
  }

pub known_after_each : KnownAfter
known_after_each capacity book rows reached appends =
    let is : Accepted capacity book appends.call rows = accepted capacity book rows appends in
    let kept : Kept capacity book = books_are_kept capacity book reached in
    rw (acts_appended appends, is.made, length_push book.acts rows.act, is.n)
    (known_more (length book.acts) (acts_of book.acts) book.records kept.names (acts_within book.acts kept.acts) kept.made.of_records capacity.acts rows.act.day appends.call.command is.is_allowed)

-- what is known after the act that makes the record of the command
abbrev pub next : Known → Command → Known
next known asked = known_after known asked (record_of known asked)

pub known_next : (capacity : Capacity) (book : Book) (rows : Batch) → IsReached capacity book → (appends : IsAppended capacity book rows) →
    known_of (appended book rows) ≡ next (known_of book) appends.call.command
known_next capacity book rows reached appends =
    known_after_each capacity book rows reached appends ∙ ap (known_after (known_of book) appends.call.command) (accepted capacity book rows appends).made

-- what holds of what is known before any act, and after each act where it held before it, holds by every book
pub by_acts : (P : Known → Type 0) (capacity : Capacity) → P (known_of empty_book) →
    ((book : Book) (rows : Batch) → IsReached capacity book → (appends : IsAppended capacity book rows) →
    P (known_of book) → P (next (known_of book) appends.call.command)) →
    (book : Book) → IsReached capacity book → P (known_of book)
by_acts P capacity none more _ reached_empty = none
by_acts P capacity none more _ (reached_more {book} {rows} reached appends) =
    subst P (sym (known_next capacity book rows reached appends)) (more book rows reached appends (by_acts P capacity none more book reached))
