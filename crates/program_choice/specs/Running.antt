-- What the program does to the source, the sink and the keeper that it runs on, as `run` says it by the same names.
use Rattle.std.specs.Prelude.{◌≡◌, ◌≢◌, ◌≤◌, ℕ, false, Option, None, Some, IfSome, List, length}
use Rattle.std.specs.Io.KnownBytes.{Consumes}
use Rattle.office_io.specs.declared.status.ExitStatus.{ExitStatus}
use Rattle.office_io.specs.{Outside.Faulted, Transfer.Takes}
use Rattle.book_rows.specs.Book.{Book}
use Rattle.keeper_core.specs.Keeping.{BadRow}
use Rattle.batch_command.specs.{Batch.LeavesByLine, Below.clerk_desk.Serving.Outlives}
use Rattle.program_answers.specs.{Answer.Ends, Opening.ComesOfBook, Opening.Door, Opening.largest}
use Rattle.office_prog.specs.{Batch.Batched, Import.Imported, Import.LeavesByInput, Report.Reported, Run.assess_answer, Run.input_limit, Run.made_answer, Run.trial_answer, Run.usage, Task.asks_keeper}
use Rattle.office_prog.specs.declared.{report.Report.Report, task.Task.Task}

pub record RunsProgram {S W K : Type 0}
    (shows : ℕ → Type 0) (asked : Option Task) (source source_now : S) (sink sink_now : W) (keeper keeper_now : K)
    (holds : K → Book → Type 0) (bad : K → BadRow → Type 0) (leaves : K → Option Book → Type 0) (tells : K → Type 0) (old new : Door) (status : ExitStatus) : Type 0 where
  -- other words
  pub usage : asked ≡ None → status ≢ ExitStatus.NoMemory → Ends usage old.held new.held old.counts.sink new.counts.sink status
  pub usage_no_memory : asked ≡ None → status ≡ ExitStatus.NoMemory → sink_now ≡ sink
  pub unread : asked ≡ None → source_now ≡ source
  -- what doesn't ask the keeper
  pub unkept : asks_keeper asked ≡ false → keeper_now ≡ keeper
  -- what a stop leaves
  pub batch_stopped : asked ≡ Some Task.Batch →
      Outlives (LeavesByLine largest shows old.left) (holds keeper) (leaves keeper) (tells keeper) (holds keeper_now) (leaves keeper_now) (tells keeper_now)
  pub import_stopped : (clerk : ℕ) → asked ≡ Some (Task.Import clerk) →
      Outlives (LeavesByInput clerk shows old.left) (holds keeper) (leaves keeper) (tells keeper) (holds keeper_now) (leaves keeper_now) (tells keeper_now)
  -- `assess`
  pub assess : asked ≡ Some Task.Assess → status ≢ ExitStatus.ReadFault → status ≢ ExitStatus.NoMemory →
      (input : List ℕ) × Takes input_limit old.left new.left input × (new.counts.source ≡ old.counts.source)
      × Ends (assess_answer input) old.held new.held old.counts.sink new.counts.sink status
  pub told : asked ≡ Some Task.Assess → status ≢ ExitStatus.ReadFault → status ≢ ExitStatus.NoMemory → IfSome old.left (λ input.
      Ends (assess_answer input) old.held new.held old.counts.sink new.counts.sink status)
  pub read_fault : asked ≡ Some Task.Assess → status ≡ ExitStatus.ReadFault → Faulted old.counts.source new.counts.source × (sink_now ≡ sink)
  pub taken_at_fault : asked ≡ Some Task.Assess → status ≡ ExitStatus.ReadFault →
      (input : List ℕ) × (length input ≤ input_limit) × Consumes old.left new.left input
  pub no_memory : asked ≡ Some Task.Assess → status ≡ ExitStatus.NoMemory → (new.counts.source ≡ old.counts.source) × (sink_now ≡ sink)
  -- what works on the keeper's book
  pub batch : asked ≡ Some Task.Batch → ComesOfBook (Batched shows) (holds keeper) (holds keeper_now) (bad keeper_now) old new status
  pub report : (report : Report) → asked ≡ Some (Task.Report report) →
      ComesOfBook (Reported report) (holds keeper) (holds keeper_now) (bad keeper_now) old new status
  pub import : (clerk : ℕ) → asked ≡ Some (Task.Import clerk) →
      ComesOfBook (Imported clerk shows) (holds keeper) (holds keeper_now) (bad keeper_now) old new status
  -- a made office
  pub make : (households : ℕ) → asked ≡ Some (Task.Make households) → status ≢ ExitStatus.NoMemory →
      Ends (made_answer households) old.held new.held old.counts.sink new.counts.sink status
  pub make_unread : (households : ℕ) → asked ≡ Some (Task.Make households) → source_now ≡ source
  pub make_no_memory : (households : ℕ) → asked ≡ Some (Task.Make households) → status ≡ ExitStatus.NoMemory → sink_now ≡ sink
  pub trial : (households : ℕ) → asked ≡ Some (Task.Trial households) → status ≢ ExitStatus.NoMemory →
      Ends (trial_answer households) old.held new.held old.counts.sink new.counts.sink status
  pub trial_unread : (households : ℕ) → asked ≡ Some (Task.Trial households) → source_now ≡ source
  pub trial_no_memory : (households : ℕ) → asked ≡ Some (Task.Trial households) → status ≡ ExitStatus.NoMemory → sink_now ≡ sink
