-- What a stop may leave of a store's two files holds trees that the store may leave.
use Rattle.std.proofs.Common.{◌≡◌, Bool, IsTrue, refl, sym, ap, subst, ◌∙◌, arith}
use Rattle.std.proofs.Math.Logic.{∥∥₁_map}
use Rattle.sqlite_disk.specs.declared.Disk.{Ghosts}
use Rattle.sqlite_wal.specs.Recovery.{Image}
use Rattle.sqlite_wal.specs.Files.{outcomes}
use Rattle.sqlite_wal.specs.Reads.{AreClean}
use Rattle.sqlite_pool.specs.Pool as pool
use Rattle.sqlite_store.specs.declared.store.FileStore.{FileStore}
use Rattle.sqlite_store.specs.FileStore.{state, view, faults, recovers, is_shielded, files}
use Rattle.sqlite_trees.specs.View.{IsClean, IsQuiet}
use Rattle.sqlite_trees.specs.Tree.{Trees}
use Rattle.sqlite_trees.specs.Objects.{catalog_tree}
use Rattle.sqlite_trees.proofs.Doubt.{no_doubt}
use Rattle.sqlite_catalog.specs.Listing.{Lists}
use Rattle.sqlite_catalog.proofs.ReadLemmas.{lists_once}
use Rattle.sqlite.specs.{Effect.Database, Effect.IsDatabase, Held.AreDatabases, State.State}
use Rattle.sqlite.specs.Files.{HoldsDatabase}
use Rattle.sqlite.proofs.OpenLemmas.{pool_files}
use Rattle.sqlite.proofs.Theorems.{opens_again}
use Rattle.book_rows.specs.Book.{Book}
use Rattle.keeper_sqlite.specs.Told.{Holds, LeavesBooks, TellsCrash}
use Rattle.book_recovery.specs.Recovery.{HoldsBook, HoldsLeft}

-- trees that are sound under two schemas list one
pub one_database : (a b : Database) → a.trees ≡ b.trees → IsDatabase a → IsDatabase b → a ≡ b
one_database a b same p q =
    let schema = lists_once (a.trees catalog_tree) a.schema b.schema p.lists (subst (λ (t : Trees). Lists (t catalog_tree) b.schema) (sym same) q.lists) in
    λ i. record { schema = schema i; trees = same i }

module _ {D : Type 0} {g : Ghosts D} (it : FileStore D g) (clean : AreClean g (files it).0 (files it).1) where
  is_clean : IsClean (view it)
  is_clean = no_doubt _ ((pool_files it.pool).1 ∙ clean)

  -- what a stop may leave of the two disks it may leave of the store
  may_leave : (image : Image) → outcomes g (files it).0 (files it).1 image → (state it).may_leave image
  unfolding pool.state pool.files
  may_leave image left = (clean, left)

  stays : (IsClean (view it) → IsTrue (view it).is_numbered) → (IsClean (view it) → AreDatabases (recovers it)) → (image : Image) → outcomes g (files it).0 (files it).1 image
      → ∥ ((trees : Trees) × recovers it trees × HoldsDatabase image trees) ∥₁
  stays numbered sound image left = opens_again it (numbered is_clean) (sound is_clean) image (may_leave image left)

module _ {D : Type 0} {g : Ghosts D} (old it : FileStore D g) (log db : D) (are : (log, db) ≡ files it) (clean : AreClean g log db)
    (quiet : IsQuiet view faults recovers is_shielded old it) where
  now_clean : AreClean g (files it).0 (files it).1
  now_clean = subst (λ (f : D × D). AreClean g f.0 f.1) are clean

  -- so the disks were clean before
  pub was_clean : IsClean (view old)
  was_clean = omega (arith, quiet.clean, is_clean it now_clean)

  pub leaves_held : (IsClean (view it) → IsTrue (view it).is_numbered) → (IsClean (view it) → AreDatabases (recovers it)) → (image : Image) → outcomes g log db image
      → ∥ ((trees : Trees) × recovers old trees × HoldsDatabase image trees) ∥₁
  leaves_held numbered sound image left =
      ∥∥₁_map (stays it now_clean numbered sound image (subst (λ (f : D × D). outcomes g f.0 f.1 image) are left)) (λ found. (found.0, quiet.outcomes found.0 found.1, found.2))

-- where the store leaves only trees of a book's file, the files hold a book that it may leave
pub holds_left : (s : State) (b : Bool) (image : Image) → LeavesBooks s b → TellsCrash s b → ∥ ((trees : Trees) × s.may_leave trees × HoldsDatabase image trees) ∥₁ → ∥ HoldsLeft s image ∥₁
holds_left s b image books tells found = ∥∥₁_map found (λ it.
    let file = books tells it.0 it.1 in
    record {
      book = file.0;
      left = record { db = file.1.db; left = subst s.may_leave (sym file.1.same) it.1; live = file.1.live; it = file.1.it };
      held = record { trees = it.0; held = ∣ it.2 ∣₁; file = file.1 };
    })

-- where it tells a book, the files hold that one
pub holds_told : (s : State) (b : Bool) (image : Image) → ((trees : Trees) → IsTrue s.is_open → s.may_leave trees → trees ≡ s.committed.trees) → (IsTrue s.is_open → IsDatabase s.now) → (IsTrue s.is_open → s.now ≡ s.committed)
    → ∥ ((trees : Trees) × s.may_leave trees × HoldsDatabase image trees) ∥₁ → (book : Book) → Holds s b book → HoldsBook image book
holds_told s b image settled live now found book told =
    let lives = told.ready.is_open in
    let trees = ap (λ (d : Database). d.trees) (now lives) in
    record {
      trees = s.now.trees;
      held = ∥∥₁_map found (λ it. subst (HoldsDatabase image) (settled it.0 lives it.1 ∙ sym trees) it.2);
      file = record { db = s.now; same = refl; live = live lives; it = told.it };
    }
