-- The refusals stand in the one order of their numbers.
use Rattle.std.specs.Prelude.{ℕ, ◌≡◌, ◌+◌, ◌≤◌, Option, Some, None, List, slice_index_or, IfSome}
use Rattle.book_rows.specs.Book.{Book}
use Rattle.office_step.specs.{declared.call.Call.Call, declared.call.Capacity.Capacity, declared.refusal.Refusal.Refusal, Numbers.number_of, Step.all_tests, Step.refusal_of}

-- each test refuses under the number of its place
abbrev pub TestsAreNumbered : Type 0
TestsAreNumbered = (book : Book) (capacity : Capacity) (today : ℕ) (call : Call) (place : ℕ) →
    IfSome (slice_index_or (all_tests book capacity today call) place None) (λ refused. number_of refused ≡ place + 1)

-- the refusal that is told stands, and none that stands too has a lesser number
pub record IsLeast (tests : List (Option Refusal)) (refused : Refusal) : Type 0 where
  pub place : ℕ
  pub stands : slice_index_or tests place None ≡ Some refused
  pub least : (other : Refusal) (its : ℕ) → slice_index_or tests its None ≡ Some other → number_of refused ≤ number_of other

abbrev pub LeastIsTold : Type 0
LeastIsTold = (book : Book) (capacity : Capacity) (today : ℕ) (call : Call) (refused : Refusal) →
    refusal_of book capacity today call ≡ Some refused → IsLeast (all_tests book capacity today call) refused
