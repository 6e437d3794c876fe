-- What a server does to the listener, the sink and the keeper that it runs on, as `run_serve` says it by the same names. The
-- listener stands in the place of a source.
use Rattle.std.specs.Prelude.{◌≡◌, ◌<◌, ℕ, Option, IfSome}
use Rattle.office_io.specs.declared.status.ExitStatus.{ExitStatus}
use Rattle.office_io.specs.Outside.{Faulted}
use Rattle.book_rows.specs.Book.{Book}
use Rattle.keeper_core.specs.Keeping.{BadRow}
use Rattle.office_links.specs.Links.{Links}
use Rattle.program_answers.specs.Opening.{Door}
use Rattle.office_server.specs.Server.{ComesOfLinks, GivesAllBack, IsWritten, NamesFault}

pub record RunsServer {L : Type 0}
    (shows : ℕ → Type 0) (workers : ℕ) (listener listener_now : L) (left : L → ℕ) (links : L → Option Links)
    (holds holds_now : Book → Type 0) (bad_now : BadRow → Type 0) (may_leave : Option Book → Type 0) (old new : Door) (status : ExitStatus) : Type 0 where
  pub comes : ComesOfLinks shows workers listener listener_now left links holds holds_now bad_now may_leave old new status
  pub none_left : status ≡ ExitStatus.Done → left listener_now ≡ 0
  pub given_back : workers ≡ 1 → status ≡ ExitStatus.Done → IfSome (links listener) (λ told. GivesAllBack told (links listener_now))
  pub written : status ≡ ExitStatus.Done → IsWritten holds_now old.held new.held
  pub quiet : status ≡ ExitStatus.Done → (new.counts.source ≡ old.counts.source) × (new.counts.sink ≡ old.counts.sink)
  pub accept_fault : status ≡ ExitStatus.ReadFault → (0 < left listener_now) × Faulted old.counts.source new.counts.source
  pub write_fault : status ≡ ExitStatus.WriteFault → Faulted old.counts.sink new.counts.sink
  pub store_fault : status ≡ ExitStatus.StoreFault → (listener_now ≡ listener) × Faulted old.counts.keeper new.counts.keeper
  pub bad_book : status ≡ ExitStatus.BadBook → (listener_now ≡ listener) × NamesFault holds_now bad_now old.held new.held
