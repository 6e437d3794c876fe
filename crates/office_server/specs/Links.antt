-- How a worker's seat at a desk serves links.
use Rattle.std.specs.Prelude.{◌≡◌, ◌⊎◌, ℕ, ◌+◌, Option, Some, IfSome, List, [], ◌∷◌, ◌++◌, All, Contains, length}
use mathlib.Core.List.{IsPrefix}
use Rattle.office_links.specs.Links.{Links}
use Rattle.book_rows.specs.{declared.rows.ActRow.ActRow, declared.rows.Batch.Batch, Book.Book}
use Rattle.keeper_core.specs.Keeping.{LeavesTold}
use Rattle.desk_history.specs.{declared.views.PassView.PassView, declared.views.Start.Start, Seen.entries_of, Seen.point_of, Rule.AreOfPasses}
use Rattle.shared_desk.specs.{Deciding.IsLeftBy, Deciding.IsTriedOn, History.IsLegalHistory, History.book_in, History.capacity_of, History.tables_at, Calls.Further, Passes.AreFresh, Passes.IsFresh}
use Rattle.program_answers.specs.Opening.{largest}
use Rattle.http_front.specs.Below.http_session.{Completeness.Completes, Sessions.EndCause, Sessions.Ends, declared.end.SessionEnd.SessionEnd}
use Rattle.http_front.specs.Passes.{AnswersPass, NeverSilent}
use Rattle.http_front.specs.Together.{KnowsBeginning}
use Rattle.link_workers.specs.{Links.IsLogged, Links.IsServedByOne, Links.Served, Links.ServesLinks, Links.TellsBack, Seats.FollowsEach}

-- A session made this of a link, and left the pass so.
pub record IsServed (shows : ℕ → Type 0) (old new : PassView) (link : Served) : Type 0 where
  pub end : SessionEnd
  pub ends : Ends (AnswersPass shows) NeverSilent point_of old new link.came.left link.given_back.left link.came.held link.given_back.held end
  pub complete : IfSome link.came.left (λ input. Completes (AnswersPass shows) point_of old new link.came.held link.given_back.held input end)
  pub cause : EndCause link.came.failed_reads link.given_back.failed_reads link.came.failed_writes link.given_back.failed_writes end
  pub further : Further old new

-- A stop may leave that: a stop at first would have left no other book than was told, the keeper tells what one may leave, and
-- tells a book.
abbrev pub MayLeave : (sound tells : Type 0) → (Book → Type 0) → (Option Book → Type 0) → Option Book → Type 0
MayLeave sound tells holds leaves after = sound × tells × ((now : Book) × holds now) × leaves after

-- and that, where the keeper was such at first and is such now
abbrev pub MayLeaveNow : (holds : Book → Type 0) (leaves : Option Book → Type 0) → Type 0 → (holds_now : Book → Type 0) (leaves_now : Option Book → Type 0) → Type 0 → Option Book → Type 0
MayLeaveNow holds leaves tells holds_now leaves_now tells_now = MayLeave (tells → LeavesTold holds leaves) tells_now holds_now leaves_now

-- a stop leaves the tables, or these and rows that one of the passes tried
abbrev pub IsLeftByOne : Book → List PassView → Option Book → Type 0
IsLeftByOne tables passes after = (after ≡ Some tables) ⊎ ((pass : PassView) × Contains passes pass × IsTriedOn largest tables pass.tried after)

-- a pass has learned what others know, and has the same acts and tries of its own as before
pub record HasLearned (old new : PassView) : Type 0 where
  pub number : new.number ≡ old.number
  pub start : new.start ≡ old.start
  pub tried : new.tried ≡ old.tried
  pub own : entries_of new.number new.list ≡ entries_of old.number old.list
  pub front : IsPrefix old.list new.list

-- What a stop may leave is the tables, or these and rows that the office would append to them and that were tried: the keeper
-- was sent them and did not say it kept them. Each of these is of a session of one of so many numbers.
pub record LeavesTried (workers : ℕ) (may_leave : Option Book → Type 0) (tables : Book) : Type 0 where
  pub tried : List Batch
  pub of_workers : AreOfPasses (workers + 1) tried
  pub left : (after : Option Book) → may_leave after → IsLeftBy largest tables tried after

-- one pass served the links, one after another, and is the last, once it has learned what others know
pub record ServesAlone (shows : ℕ → Type 0) (pass last : PassView) (left left_now : ℕ) (links links_now : Option Links) : Type 0 where
  pub pass_now : PassView
  pub number : pass_now.number ≡ pass.number
  pub learned : HasLearned pass_now last
  pub served : ServesLinks (λ pass link pass_now. IsServed shows pass pass_now link) pass pass_now left left_now links links_now

-- One worker served the links, one after another, by one pass. The tables that are left are those after a legal history that
-- goes on from what the pass then knows. What a stop may leave is these, or these and rows that the pass tried.
pub record ServesInTurn (shows : ℕ → Type 0) (left left_now : ℕ) (links links_now : Option Links) (may_leave : Option Book → Type 0) (tables : Book) : Type 0 where
  pub start : Start
  pub pass : PassView
  pub fresh : IsFresh start 1 pass
  pub pass_now : PassView
  pub served : ServesLinks (λ pass link pass_now. IsServed shows pass pass_now link) pass pass_now left left_now links links_now
  pub history : List ActRow
  pub legal : IsLegalHistory start history
  pub front : IsPrefix pass_now.list history
  pub whole : tables ≡ tables_at start history
  pub stopped : (after : Option Book) → may_leave after → IsLeftBy largest tables pass_now.tried after

-- However many workers served: each link that was given back is a session's, by a pass to which one of these had come, and what
-- that pass then knew begins what the last pass knows. Each of them has gone on, to one of the others or to the last, which then
-- learned what that pass knows.
pub record WorksBy (shows : ℕ → Type 0) (passes others : List PassView) (last : PassView) (links links_now : Option Links) : Type 0 where
  pub end : PassView
  pub follows : FollowsEach Further passes (others ++ end ∷ [])
  pub learned : HasLearned end last
  pub given_back : TellsBack (IsLogged (IsServedByOne (λ pass link pass_now. IsServed shows pass pass_now link) Further passes) (KnowsBeginning last.start last.list))
      links links_now

-- So many workers served the links, each by a pass of its own, which was new. What each pass knows now, its own entries among
-- it, is the beginning of one legal history, which has no other entries of its number, and the tables that are left are those
-- after that. What a pass knew when it had served a link is the beginning of that history too. What a stop may leave is the
-- tables, or these and rows that one of the passes tried.
pub record ServesTogether (shows : ℕ → Type 0) (workers : ℕ) (links links_now : Option Links) (may_leave : Option Book → Type 0) (tables : Book) : Type 0 where
  pub start : Start
  pub passes : List PassView
  pub many : length passes ≡ workers
  pub fresh : AreFresh start 1 passes
  pub passes_now : List PassView
  pub follows : FollowsEach Further passes passes_now
  pub history : List ActRow
  pub given_back : TellsBack (IsLogged (IsServedByOne (λ pass link pass_now. IsServed shows pass pass_now link) Further passes) (KnowsBeginning start history)) links links_now
  pub legal : IsLegalHistory start history
  pub fronts : All (λ pass. IsPrefix pass.list history) passes_now
  pub own : All (λ pass. entries_of pass.number history ≡ entries_of pass.number pass.list) passes_now
  pub whole : tables ≡ tables_at start history
  pub stopped : (after : Option Book) → may_leave after → IsLeftByOne tables passes_now after

-- What a desk leaves that was opened on a book of the program's capacity: the tables after a legal history from there. The
-- keeper tells these and no others, and told that book.
pub record LeavesDesk (told holds : Book → Type 0) (tables : Book) : Type 0 where
  pub start : Start
  pub capacity : capacity_of start ≡ largest
  pub history : List ActRow
  pub legal : IsLegalHistory start history
  pub whole : tables ≡ tables_at start history
  pub kept : (now : Book) → holds now → now ≡ tables
  pub first : (now : Book) → holds now → told (book_in start.opening)
