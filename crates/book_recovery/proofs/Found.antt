-- What an open finds of files that hold a book, and what a load of it gives.
use Rattle.std.proofs.Common.{◌≡◌, ◌⊎◌, inl, inr, ◌+◌, ◌<◌, Bool, false, ◌&&◌, Some, [], ◌∷◌, length, Result, Ok, Err, IfOk, IfErr, None, IsTrue, refl, sym, ap, subst, ◌∙◌, arith, length-append}
use Rattle.std.proofs.lemmas.Bool.{cases_eq, and_parts, and_from}
use mathlib.Core.HLevel.{⊥_prop}
use Rattle.std.proofs.Math.Logic.{∥∥₁_elim, ∥∥₁_map}
use Rattle.sqlite_disk.specs.declared.{Disk.Ghosts, Files.Files}
use Rattle.sqlite_disk.specs.Disk.{MoreFaults}
use Rattle.sqlite_store.specs.declared.store.FileStore.{FileStore}
use Rattle.sqlite_trees.specs.Props.{Trees-set}
use Rattle.sqlite.specs.{Tree.Trees, Effect.Database, Held.Held, State.State, State.HasCleanDisk, WalReads.AreClean}
use Rattle.sqlite.specs.declared.error.Error.{Error}
use Rattle.sqlite.specs.declared.file.Leftover.{Leftover}
use Rattle.sqlite.specs.Files.{file_state, image_of, faults_of, IsOpened, Finds, FailsToOpenFiles}
use Rattle.book_rows.specs.Book.{Book, book_of, appended}
use Rattle.book_rows.specs.declared.rows.Batch.{Batch}
use Rattle.keeper_core.specs.Keeping.{Keeps, Gives, LeavesOrCommits, CommitCrash}
use Rattle.keeper_core.specs.declared.keeper.{Loaded.Loaded, Committed.Committed}
use Rattle.keeper_sqlite.specs.Told.{Kept, Holds, HoldsBad, IsBookIn, TellsCrash, MayLeave, CrashLeaves, LeavesBooks, LoadFailsByFault, CommitsOn, CommitsBooks}
use Rattle.book_recovery.specs.Recovery.{HoldsBook, HoldsABook, GivesBook, IsUnopened, GivesRows, LeavesABook, LeavesAtMost, Recovers, IsKept, GivesAfter, HoldsAfter, HasABook, IsLeftBy}
use Rattle.book_recovery.proofs.Left.{one_database}
use Rattle.book_recovery.proofs.Books.{Book-set}

module _ {D : Type 0} {g : Ghosts D} (files : Files D) where
  -- an open of files that hold a book tells it
  pub opened_tells : (c : Held (FileStore D g)) → HasCleanDisk (file_state c) → IsOpened c → Finds files c → (book : Book) → HoldsBook (image_of g files) book → Holds (file_state c) false book
  opened_tells c clean opened found book held =
      let s = file_state c in
      let same : s.committed.trees ≡ held.trees = ∥∥₁_elim held.held (Trees-set _ _) (found.holds _) in
      let trees = ap (λ (d : Database). d.trees) opened.0.clean ∙ same ∙ sym held.file.same in
      let now = one_database s.now held.file.db trees (opened.1 opened.0.is_open).0 held.file.live in
      record {
        ready = record { clean = clean; is_open = opened.0.is_open; alone = opened.0.autocommit };
        own = refl;
        it = subst (λ (d : Database). IsBookIn d book) (sym now) held.file.it;
      }

  -- a book that a stop may leave of a connection just opened is one that it tells
  pub left_tells : (c : Held (FileStore D g)) → ((trees : Trees) → IsTrue (file_state c).is_open → (file_state c).may_leave trees → trees ≡ (file_state c).committed.trees) → HasCleanDisk (file_state c) → IsOpened c
      → Keeps (Holds (file_state c) false) (MayLeave (file_state c))
  left_tells c settled clean opened book may =
      let s = file_state c in
      let trees = ap (λ (d : Database). d.trees) opened.0.clean ∙ sym (settled may.db.trees opened.0.is_open may.left) in
      let now = one_database s.now may.db trees (opened.1 opened.0.is_open).0 may.live in
      record {
        ready = record { clean = clean; is_open = opened.0.is_open; alone = opened.0.autocommit };
        own = refl;
        it = subst (λ (d : Database). IsBookIn d book) (sym now) may.it;
      }

  -- it refuses none that hold a book
  pub unopened : (left : Leftover D g) (error : Error) → FailsToOpenFiles files left error → ∥ HoldsABook (image_of g files) ∥₁ → IsUnopened (faults_of g files) left error
  unopened left error (inl memory) held = inl memory
  unopened left error (inr (inl refused)) held = absurd (∥∥₁_elim held ⊥_prop (λ it. ∥∥₁_elim it.1.held ⊥_prop (λ db. refused.1 (inl (it.1.trees, db)))))
  unopened left error (inr (inr (inl fault))) held = inr (inl fault.1)
  unopened left error (inr (inr (inr full))) held = inr (inr full)

-- of a book that is told a load gives that book
pub given : (s : State) (b : Bool) (loaded : Loaded) → Gives (Holds s b) (HoldsBad s b) loaded → (book : Book) → Holds s b book → GivesBook book loaded
given s b (Loaded.Rows tables) gives book told = gives.0 book told
given s b (Loaded.BadRow table act) gives book told = gives.0 book told
given s b Loaded.Failed gives book told = tt
given s b Loaded.NoMemory gives book told = tt

-- rows tell one book
pub given_once : (s : State) (b : Bool) (loaded : Loaded) → GivesRows loaded → Gives (Holds s b) (HoldsBad s b) loaded → (one other : Book) → Holds s b one → Holds s b other → one ≡ other
given_once s b (Loaded.Rows tables) rows gives one other told again = sym (gives.0 one told) ∙ gives.0 other again
given_once s b (Loaded.BadRow table act) rows gives one other told again = absurd rows
given_once s b Loaded.Failed rows gives one other told again = absurd rows
given_once s b Loaded.NoMemory rows gives one other told again = absurd rows

-- of files that hold a book only a fault has the load give nothing, unless memory runs out
pub unloaded : (old new : State) (loaded : Loaded) (book : Book) → LoadFailsByFault old false new loaded → HasCleanDisk new → loaded ≡ Loaded.Failed → Holds old false book → old.step_limit ≡ None → 0 < new.faults
unloaded old new loaded book why clean failed told unlimited = let more = why clean failed (inl (book, told)) unlimited in omega (arith, more)

pub open_or_fault : (old new : State) → IsTrue new.is_open ⊎ MoreFaults old.faults new.faults → IsTrue new.is_open ⊎ (0 < new.faults)
open_or_fault old new (inl lives) = inl lives
open_or_fault old new (inr more) = inr (omega (arith, more))

-- a load of one of two books gave one of the two, told apart by how many acts they have
module _ {D : Type 0} {g : Ghosts D} (was now : Kept (FileStore D g)) (book : Book) (further : Batch) (most : LeavesAtMost (file_state was.file) book further) where
  abbrev Either : Book → Type 0
  Either it = (it ≡ book) ⊎ (it ≡ appended book further)

  longer : (it : Book) → it ≡ appended book further → length it.acts ≡ length book.acts + 1
  longer it is = ap (λ (b : Book). length b.acts) is ∙ length-append book.acts (further.act ∷ [])

  only_first : (it : Book) → length it.acts ≡ length book.acts → Either it → it ≡ book
  only_first it same (inl first) = first
  only_first it same (inr second) = absurd (omega (arith, same, longer it second))

  only_second : (it : Book) → ¬ (length it.acts ≡ length book.acts) → Either it → it ≡ appended book further
  only_second it other (inl first) = absurd (other (ap (λ (b : Book). length b.acts) first))
  only_second it other (inr second) = second

  pub gives_either : (loaded : Loaded) → ∥ Recovers was now loaded ∥₁ → GivesBook book loaded ⊎ GivesBook (appended book further) loaded
  gives_either (Loaded.Rows tables) found =
      let it = book_of tables in
      let one : (r : Recovers was now (Loaded.Rows tables)) → Either it = λ r. subst Either (sym r.found.given) (most r.book r.left) in
      elim (cases_eq (length it.acts) (length book.acts)) [
        | inl same ↦ inl (∥∥₁_elim found (Book-set _ _) (λ r. only_first it same (one r)))
        | inr other ↦ inr (∥∥₁_elim found (Book-set _ _) (λ r. only_second it other (one r)))
      ]
  gives_either (Loaded.BadRow table act) found = absurd (∥∥₁_elim found ⊥_prop (λ r. r.found.given))
  gives_either Loaded.Failed found = inl tt
  gives_either Loaded.NoMemory found = inl tt

some_only : {X : Type 0} (x y : X) → Some x ≡ Some y → x ≡ y
some_only x y e = cc

-- what a load gives after a commit and a stop
module _ {D : Type 0} {g : Ghosts D} (old new : Kept (FileStore D g)) (batch : Batch) (loaded : Loaded) (book : Book) (kept : IsKept old book) (clean : HasCleanDisk (file_state new.file)) (notes : new.is_beside ≡ old.is_beside)
    (told : (it : Book) → Holds (file_state new.file) new.is_beside it → GivesBook it loaded)
    (either : LeavesABook new → LeavesAtMost (file_state new.file) book batch → GivesBook book loaded ⊎ GivesBook (appended book batch) loaded) where
  own : new.is_beside ≡ false
  own = notes ∙ kept.told.own

  undone : LeavesBooks (file_state new.file) new.is_beside → LeavesOrCommits (Holds (file_state old.file) old.is_beside) (CrashLeaves (file_state old.file)) (CrashLeaves (file_state new.file)) batch
      → GivesBook book loaded ⊎ GivesBook (appended book batch) loaded
  undone books crash = either (own, books) (λ after may. elim (crash book kept.told (Some after) may) [
    | inl earlier ↦ inl (kept.alone after earlier)
    | inr it ↦ inr (some_only after (appended book batch) it)
  ])

  pub gives_after : (answer : Committed) → CommitsOn (file_state old.file) old.is_beside (file_state new.file) new.is_beside batch answer → CommitsBooks (file_state old.file) old.is_beside (file_state new.file) new.is_beside answer
      → (TellsCrash (file_state new.file) new.is_beside → CommitCrash (Holds (file_state old.file) old.is_beside) (CrashLeaves (file_state old.file)) (Holds (file_state new.file) new.is_beside) (CrashLeaves (file_state new.file)) batch answer)
      → GivesAfter answer book batch loaded
  gives_after Committed.Done on books crash = told (appended book batch) (on clean book kept.told)
  gives_after Committed.Failed on books crash = undone (books book kept.told kept.books) (crash (clean, own))
  gives_after Committed.NoMemory on books crash = undone (books book kept.told kept.books) (crash (clean, own))

-- ---- files that a stop left

module _ {D : Type 0} {g : Ghosts D} (keeper : Kept (FileStore D g)) (files : Files D) (left : IsLeftBy keeper files) (clean : AreClean g files.log files.db) where
  pub holds_some : HasABook keeper → ∥ HoldsABook (image_of g files) ∥₁
  holds_some (inl told) = ∣ (told.0, left.told clean told.0 told.1) ∣₁
  holds_some (inr books) = ∥∥₁_map (left.left clean books) (λ it. (it.book, it.held))

-- after a commit a keeper tells a book, or a stop leaves one
module _ {D : Type 0} {g : Ghosts D} (old new : Kept (FileStore D g)) (batch : Batch) (book : Book) (kept : IsKept old book) (notes : new.is_beside ≡ old.is_beside) where
  still_own : new.is_beside ≡ false
  still_own = notes ∙ kept.told.own

  pub has_after : HasCleanDisk (file_state new.file) → (answer : Committed) → CommitsOn (file_state old.file) old.is_beside (file_state new.file) new.is_beside batch answer → CommitsBooks (file_state old.file) old.is_beside (file_state new.file) new.is_beside answer → HasABook new
  has_after clean Committed.Done on books = inl (appended book batch, on clean book kept.told)
  has_after clean Committed.Failed on books = inr (still_own, books book kept.told kept.books)
  has_after clean Committed.NoMemory on books = inr (still_own, books book kept.told kept.books)

  module _ (files : Files D) (left : IsLeftBy new files) (clean : AreClean g files.log files.db) where
    either_held : LeavesABook new → LeavesOrCommits (Holds (file_state old.file) old.is_beside) (CrashLeaves (file_state old.file)) (CrashLeaves (file_state new.file)) batch
        → ∥ HoldsBook (image_of g files) book ⊎ HoldsBook (image_of g files) (appended book batch) ∥₁
    either_held leaves crash = ∥∥₁_map (left.left clean leaves) (λ it. elim (crash book kept.told (Some it.book) it.left) [
      | inl earlier ↦ inl (subst (HoldsBook (image_of g files)) (kept.alone it.book earlier) it.held)
      | inr later ↦ inr (subst (HoldsBook (image_of g files)) (some_only it.book (appended book batch) later) it.held)
    ])

    pub holds_after : (answer : Committed) → CommitsOn (file_state old.file) old.is_beside (file_state new.file) new.is_beside batch answer → CommitsBooks (file_state old.file) old.is_beside (file_state new.file) new.is_beside answer
        → (TellsCrash (file_state new.file) new.is_beside → CommitCrash (Holds (file_state old.file) old.is_beside) (CrashLeaves (file_state old.file)) (Holds (file_state new.file) new.is_beside) (CrashLeaves (file_state new.file)) batch answer)
        → ∥ HoldsAfter answer book batch (image_of g files) ∥₁
    holds_after Committed.Done on books crash = ∣ left.told clean (appended book batch) (on (left.honest clean) book kept.told) ∣₁
    holds_after Committed.Failed on books crash = either_held (still_own, books book kept.told kept.books) (crash (left.honest clean, still_own))
    holds_after Committed.NoMemory on books crash = either_held (still_own, books book kept.told kept.books) (crash (left.honest clean, still_own))

-- ---- what holds of an answer

pub on_ok : {A E : Type 0} {P R : A → Type 0} (r : Result A E) → IfOk r P → ((a : A) → P a → R a) → IfOk r R
on_ok (Ok a) p f = f a p
on_ok (Err e) p f = tt

pub on_both : {A E : Type 0} {P Q R : A → Type 0} (r : Result A E) → IfOk r P → IfOk r Q → ((a : A) → P a → Q a → R a) → IfOk r R
on_both (Ok a) p q f = f a p q
on_both (Err e) p q f = tt

pub on_all : {A E : Type 0} {P Q R S : A → Type 0} (r : Result A E) → IfOk r P → IfOk r Q → IfOk r R → ((a : A) → P a → Q a → R a → S a) → IfOk r S
on_all (Ok a) p q s f = f a p q s
on_all (Err e) p q s f = tt

pub on_errs : {A E : Type 0} {P Q R : E → Type 0} (r : Result A E) → IfErr r P → IfErr r Q → ((e : E) → P e → Q e → R e) → IfErr r R
on_errs (Ok a) p q f = tt
on_errs (Err e) p q f = f e p q

pub on_err : {A E : Type 0} {P R : E → Type 0} (r : Result A E) → IfErr r P → ((e : E) → P e → R e) → IfErr r R
on_err (Ok a) p f = tt
on_err (Err e) p f = f e p

-- two disks that are clean were so before
pub clean_before : (a b c d : Bool) → (IsTrue c → IsTrue a) → (IsTrue d → IsTrue b) → IsTrue (c && d) → IsTrue (a && b)
clean_before a b c d log db clean = let both = and_parts c d clean in and_from a b (log both.0) (db both.1)
