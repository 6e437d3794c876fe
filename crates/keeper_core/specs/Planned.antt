-- A keeper in memory, some of whose calls fail by plan, as its users see it.
use Rattle.std.specs.Prelude.{ℕ, ◌==◌, List, Bool, if◌then◌else◌}
use Rattle.std.specs.List.{list_any}
use Rattle.office_io.specs.Outside.{counted}
use Rattle.book_rows.specs.Book.{Book}

-- which calls fail, numbered from 0, and the counts so far
pub record FaultPlan : Type 0 where
  pub failing : List ℕ
  pub calls : ℕ
  pub faults : ℕ

-- the next call is one of those that fail
abbrev pub is_failing : FaultPlan → Bool
is_failing plan = list_any (λ call. call == plan.calls) plan.failing

-- after a call with no fault
abbrev pub called : FaultPlan → FaultPlan
called plan = record plan { calls = counted plan.calls }

-- after a call with a fault
abbrev pub faulted : FaultPlan → FaultPlan
faulted plan = record plan { calls = counted plan.calls; faults = counted plan.faults }

-- after the next call
abbrev pub after_call : FaultPlan → FaultPlan
after_call plan = if is_failing plan then faulted plan else called plan

-- the book that it holds, and the plan
pub record Planned : Type 0 where
  pub book : Book
  pub plan : FaultPlan
