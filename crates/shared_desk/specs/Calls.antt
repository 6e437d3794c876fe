-- What a call and a question of a pass do.
use Rattle.std.specs.Prelude.{◌≡◌, ◌⊎◌, ℕ, List, [], ◌∷◌, ◌++◌}
use Rattle.book_rows.specs.{declared.rows.ActRow.ActRow, declared.rows.Batch.Batch}
use Rattle.clerk_desk.specs.Below.office_answers.declared.{reply.Reply.Reply}
use Rattle.clerk_desk.specs.Below.office_step.{declared.call.Call.Call, Step.Outcome, Step.appends, Step.step}
use Rattle.clerk_desk.specs.Serving.{reply_of}
use Rattle.desk_history.specs.declared.views.{BookView.BookView, PassView.PassView}
use Rattle.desk_history.specs.{Seen.point_of, Laws.GoesOn}
use Rattle.shared_desk.specs.{History.capacity_of, History.tables_at, Deciding.IsReplied, Deciding.AreTries}

-- what the lock keeps, as contracts see it
pub record Locking (K : Type 0) : Type 0 where
  pub book : BookView
  pub keeper : K

-- what the office of one clerk does with the call of a pass of that number, after a history
abbrev pub step_at : PassView → List ActRow → ℕ → Call → Outcome
step_at pass list clock call = step (tables_at pass.start list) (capacity_of pass.start) pass.number clock call

-- The call was booked. Its act is the last that the pass knows, at the point, and the one further act of the pass's own. The
-- office appends exactly its rows after the acts before it, and the reply is the one that it then gives. The pass has no
-- further try.
pub record IsBooked (clock : ℕ) (call : Call) (old new : PassView) (reply : Reply) : Type 0 where
  pub rows : Batch
  pub earlier : List ActRow
  pub last : new.list ≡ earlier ++ rows.act ∷ []
  pub appends_them : step_at new earlier clock call ≡ appends rows
  pub replied : reply ≡ reply_of (tables_at new.start earlier) (appends rows)
  pub point : rows.act.n ≡ point_of new
  pub session : rows.act.session ≡ new.number
  pub goes_on : GoesOn old new (rows.act ∷ []) []

-- The call was not booked. The reply is the one that the office gives at the point, where it appends nothing; or the keeper
-- failed or memory ran out. The pass's further tries are none, or there the rows that the office appends at the point.
pub record IsUnbooked (clock : ℕ) (call : Call) (old new : PassView) (reply : Reply) : Type 0 where
  pub replied : IsReplied (step_at new new.list clock call) reply
  pub tries : List Batch
  pub tried : AreTries (step_at new new.list clock call) tries reply
  pub goes_on : GoesOn old new [] tries

abbrev pub IsCalled : ℕ → Call → PassView → PassView → Reply → Type 0
IsCalled clock call old new reply = IsBooked clock call old new reply ⊎ IsUnbooked clock call old new reply

-- the pass knows no less, and of its own it has some further entries and tries
abbrev pub KnowsMore : PassView → PassView → Type 0
KnowsMore old new = (booked : List ActRow) × (tries : List Batch) × GoesOn old new booked tries

-- the pass is as it was, or it knows more
abbrev pub Further : PassView → PassView → Type 0
Further old new = (new ≡ old) ⊎ KnowsMore old new
