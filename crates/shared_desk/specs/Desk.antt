-- What a desk leaves.
use Rattle.std.specs.Prelude.{◌≡◌, ℕ, ◌+◌, Option, List, All}
use mathlib.Core.List.{IsPrefix}
use Rattle.book_rows.specs.{declared.rows.ActRow.ActRow, declared.rows.Batch.Batch, Book.Book}
use Rattle.desk_history.specs.declared.views.PassView.{PassView}
use Rattle.desk_history.specs.{Seen.entries_of, Seen.tries_of, Rule.AreOfPasses}
use Rattle.shared_desk.specs.History.{book_in, capacity_of, tables_at, IsLegalHistory}
use Rattle.shared_desk.specs.Deciding.{IsLeftBy}

-- A pass knows the first rows of a history, and has all entries of its number in it. Of what was tried, it has all tries of its
-- number.
pub record HasItsOwn (history : List ActRow) (tried : List Batch) (pass : PassView) : Type 0 where
  pub front : IsPrefix pass.list history
  pub own : entries_of pass.number history ≡ entries_of pass.number pass.list
  pub own_tries : tries_of pass.number tried ≡ pass.tried

-- What a desk leaves that handed out so many passes and ends with one: the tables after a legal history that goes on from what
-- the pass knows, and in which its own entries are all there. The keeper tells these tables and no others, where it told the
-- opening ones, and if it is well, then it tells them where it told a book. A stop leaves them, or these and the rows of one act
-- that was tried: the keeper was sent them and did not say it kept them. Each of what was tried is of the number of a pass that
-- was handed out, and those of the pass's own number are just its tries.
pub record IsFinished (pass : PassView) (made : ℕ) (tables : Book) (told holds : Book → Type 0) (well sound tells : Type 0) (leaves : Option Book → Type 0) : Type 0 where
  pub history : List ActRow
  pub legal : IsLegalHistory pass.start history
  pub front : IsPrefix pass.list history
  pub own : entries_of pass.number history ≡ entries_of pass.number pass.list
  pub whole : tables ≡ tables_at pass.start history
  pub kept : (now : Book) → holds now → now ≡ tables
  pub first : (now : Book) → holds now → told (book_in pass.start.opening)
  pub on : well → (was : Book) → told was → holds tables
  pub tried : List Batch
  pub own_tries : tries_of pass.number tried ≡ pass.tried
  pub of_passes : AreOfPasses (made + 1) tried
  pub stopped : sound → tells → (now : Book) → holds now → (after : Option Book) → leaves after → IsLeftBy (capacity_of pass.start) tables tried after

-- what it leaves when it ends with a pass and is given others, which were handed out too
pub record IsFinishedWith (others : List PassView) (pass : PassView) (made : ℕ) (tables : Book) (told holds : Book → Type 0) (well sound tells : Type 0) (leaves : Option Book → Type 0) : Type 0 where
  pub end : IsFinished pass made tables told holds well sound tells leaves
  pub own : All (HasItsOwn end.history end.tried) others
