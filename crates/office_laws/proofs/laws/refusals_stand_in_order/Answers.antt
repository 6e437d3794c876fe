-- Each test of the one order refuses under the number of its place, so the first that stands has the least number.
use Rattle.office_laws.proofs.Words.{Book, Capacity, Call, known_of, Matter, matter_of, Basis, from_facts, ◌≡◌, ap, refl, ℕ, zero, suc, ◌+◌, ◌≤◌, arith, Bool, true, false, List, [], ◌∷◌, ◌++◌, Option, Some, None, slice_index_or, map, option_and_then, if◌then◌else◌, option_map, Refusal, first_of, IfSome-each}
use Rattle.facts_core.specs.Rules.{broken_rule}
use Rattle.office_step.specs.{declared.rightful.Rightful.Rightful, Numbers.number_of, Against.rule_broken, Against.wrong, Against.tests_on, Step.all_tests}
use Rattle.office_laws.specs.InTurn.{IsLeast}
use Rattle.office_laws.proofs.laws.refusals_stand_in_order.Goals as goal

-- where it refuses, it does so under that number
data IsUnder (number : ℕ) : Option Refusal → Type 0 where
  passes : IsUnder number None
  refuses : {why : Refusal} → number_of why ≡ number → IsUnder number (Some why)

-- each form of a test refuses under that number where its parts do
module _ {number : ℕ} where
  either_way : (b : Bool) (one other : Option Refusal) → IsUnder number one → IsUnder number other → IsUnder number (if b then one else other)
  either_way true one other is more = is
  either_way false one other is more = more

  mapped : {A : Type 0} (why : A → Refusal) (found : Option A) → ((a : A) → number_of (why a) ≡ number) → IsUnder number (option_map why found)
  mapped why None is = passes
  mapped why (Some a) is = refuses (is a)

  then_by : {A : Type 0} (refused : A → Option Refusal) (found : Option A) → ((a : A) → IsUnder number (refused a)) →
      IsUnder number (option_and_then refused found)
  then_by refused None is = passes
  then_by refused (Some a) is = is a

  in_turn : (first : Option Refusal) (rest : List (Option Refusal)) → IsUnder number first → IsUnder number (first_of rest) →
      IsUnder number (first_of (first ∷ rest))
  in_turn None rest is more = more
  in_turn (Some why) rest is more = is

  one_of : (refused : ℕ → Option Refusal) (numbers : List ℕ) → ((n : ℕ) → IsUnder number (refused n)) → IsUnder number (first_of (map refused numbers))
  one_of refused [] each = passes
  one_of refused (n ∷ numbers) each = in_turn (refused n) (map refused numbers) (each n) (one_of refused numbers each)

-- from that number on, each is under its own
data AllUnder : ℕ → List (Option Refusal) → Type 0 where
  no_more : {number : ℕ} → AllUnder number []
  one_more : {number : ℕ} {refused : Option Refusal} {rest : List (Option Refusal)} → IsUnder number refused → AllUnder (number + 1) rest →
      AllUnder number (refused ∷ rest)

ruleset each_test = (no_more, one_more, passes, refuses, either_way, mapped, then_by, in_turn, one_of)

-- the two tests that ask of which kind something is
on_facts : (basis : Basis) (from : ℕ) → IsUnder 8 (rule_broken basis from)
on_facts (from_facts facts) from = mapped (λ rule. Refusal.FactsRule rule) (broken_rule facts from) (λ rule. refl)
on_facts _ from = passes

on_day : (right : Rightful) (from : ℕ) → IsUnder 13 (wrong right from)
on_day Rightful.Any from = passes
on_day (Rightful.Only right) from = search each_test

-- all the tests
all_under : (most today : ℕ) (about : Matter) (first last : Option Refusal) → IsUnder 1 first → IsUnder 24 last →
    AllUnder 1 (first ∷ (tests_on most today about ++ last ∷ []))
all_under most today about first last is_first is_last = search (each_test, on_facts, on_day) depth 40 fits 4000

-- ---- the least that stands

at_place : {number : ℕ} {tests : List (Option Refusal)} → AllUnder number tests → (place : ℕ) (why : Refusal) →
    slice_index_or tests place None ≡ Some why → number_of why ≡ place + number
at_place no_more place why is = absurd (cc)
at_place (one_more passes under) zero why is = absurd (cc)
at_place (one_more (refuses {why = own} is_own) under) zero why is = (let same : own ≡ why = cc in omega (arith, is_own, ap number_of same))
at_place (one_more is_own under) (suc place) why is = omega (arith, at_place under place why is)

least_at : {number : ℕ} {tests : List (Option Refusal)} → AllUnder number tests → (why : Refusal) → first_of tests ≡ Some why → IsLeast tests why
least_at no_more why is = absurd (cc)
least_at (one_more {rest = rest} passes under) why is =
    let later : IsLeast _ why = least_at under why is in
    record { place = suc later.place; stands = later.stands; least = by_place later }
  where
    by_place : IsLeast rest why → (other : Refusal) (its : ℕ) → slice_index_or (None ∷ rest) its None ≡ Some other → number_of why ≤ number_of other
    by_place later other zero stands = absurd (cc)
    by_place later other (suc its) stands = later.least other its stands
least_at (one_more (refuses is_own) under) why is = record {
  place = 0;
  stands = is;
  least = λ other its stands.
      omega (arith, at_place (one_more (refuses is_own) under) 0 why is, at_place (one_more (refuses is_own) under) its other stands);
}

every_test : (book : Book) (capacity : Capacity) (today : ℕ) (call : Call) → AllUnder 1 (all_tests book capacity today call)
every_test book capacity today call =
    all_under capacity.acts today (matter_of (known_of book) call.command) _ _ (search each_test) (search each_test)

pub returns-clause-numbered : goal.returns-clause-numbered
returns-clause-numbered c book capacity today call place =
    IfSome-each _ _ (at_place (every_test book capacity today call) place)

pub returns-clause-least : goal.returns-clause-least
returns-clause-least c book capacity today call refused is = least_at (every_test book capacity today call) refused is
