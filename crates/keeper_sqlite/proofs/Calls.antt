-- What is told after a call of the keeper, and what a crash may leave then.
use Rattle.std.proofs.Common.{◌≡◌, ◌⊎◌, inl, inr, suc, Bool, true, false, List, [], ◌∷◌, length, map, Option, Some, None, Result, Ok, Err, OnOk, OnErr, IsTrue, refl, sym, ap, subst, ◌∙◌, arith, true≢false, IsPermutation}
use Rattle.std.proofs.lemmas.List.Sorted.{length_permutation, IsPermutation-refl}
use Rattle.sqlite.specs.Tree.{Trees}
use Rattle.sqlite_disk.specs.Disk.{MoreFaults}
use Rattle.sqlite_value.specs.Order.{Row}
use Rattle.sqlite.specs.{Effect.Database, Effect.IsDatabase, State.State, State.HasCleanDisk, State.Survives}
use Rattle.sqlite.specs.declared.error.Error.{Error}
use Rattle.book_rows.specs.declared.{rows.Batch.Batch, tables.Tables.Tables}
use Rattle.book_rows.specs.Book.{Book, book_of, empty_book, IsBatch, IsBefore, appended}
use Rattle.keeper_core.specs.Keeping.{BadRow, Keeps, Gives, Commits, LeavesTold, LeavesOrCommits}
use Rattle.keeper_core.specs.declared.keeper.{Loaded.Loaded, Committed.Committed}
use Rattle.store_sql.specs.Tables.{cells}
use Rattle.store_sql.specs.Columns.{acts, records, lines}
use Rattle.store_sql.specs.Schema.{no_schema, book_schema, HasTables}
use Rattle.store_sql.specs.Trees.{StandsFor, HoldsNone}
use Rattle.store_write.specs.Effects.{Undoes, IsMade, Makes, MadeTrees, Lands, BatchTrees}
use Rattle.store_read.specs.declared.asking.AskedRows.{AskedRows}
use Rattle.store_read.specs.Asking.{AreAsked}
use Rattle.store_decode.specs.Read.{Narrows, first_bad}
use Rattle.keeper_sqlite.specs.Told.{IsBookIn, IsBadIn, IsReady, Holds, HoldsBad, IsWell, TellsCrash, MayLeave, MaySpoil, CrashLeaves, TellsNoMore, TellsOn, GoesOn, StaysOpen, IsFileOf, LeavesBooks, IsSettled, IsOwn, Notes, IsTold, IsUnloadedByFault}
use Rattle.store_sql.proofs.Standing.{one_act, one_record, one_line}
use Rattle.keeper_sqlite.proofs.Books.{book_once, made_has, schemas_differ, rows_once, exclusive}
use Rattle.keeper_sqlite.proofs.Batches.{rows_before, book_after, bad_before}

-- ---- what a call answered

pub on_ok : {A E : Type 0} {C P Q : Type 0} (r : Result A E) → (C → OnOk r P) → ((C → P) → Q) → OnOk r Q
on_ok (Ok a) h f = f h
on_ok (Err e) h f = tt

pub either_way : {A E : Type 0} {C P Q Z : Type 0} (r : Result A E) → (C → OnOk r P) → (C → OnErr r Q) → ((C → P) → Z) → ((C → Q) → Z) → Z
either_way (Ok a) h k f g = f h
either_way (Err e) h k f g = g k

-- ---- calls that change nothing

module _ (old new : State) (P : Trees → Type 0) (lives : Survives old new P) where
  clean_before : HasCleanDisk new → HasCleanDisk old
  clean_before clean = omega (arith, lives.clean, clean)

  module _ (undone : HasCleanDisk new → Undoes old new) where
    ready_before : IsReady new → IsReady old
    ready_before r = let was = undone r.clean r.is_open in record { clean = clean_before r.clean; is_open = was.0; alone = sym was.2 ∙ r.alone }

    same_before : IsReady new → new.now ≡ old.now
    same_before r = (undone r.clean r.is_open).1

    pub book_before : (b : Bool) → Keeps (Holds old b) (Holds new b)
    book_before b book h = record { ready = ready_before h.ready; own = h.own; it = subst (λ (d : Database). IsBookIn d book) (same_before h.ready) h.it }

    pub row_before : (b : Bool) → Keeps (HoldsBad old b) (HoldsBad new b)
    row_before b row h = record { ready = ready_before h.ready; own = h.own; it = subst (λ (d : Database). IsBadIn d row) (same_before h.ready) h.it }

-- where nothing changed, what was told is told on
pub undone_on : (old new : State) (b : Bool) → (HasCleanDisk new → Undoes old new) → GoesOn old b new b
undone_on old new b undone clean lives =
    let was = undone clean lives in
    let ready : (r : IsReady old) → IsReady new = λ r. record { clean = clean; is_open = lives; alone = was.2 ∙ r.alone } in
    record {
      book = λ book h. record { ready = ready h.ready; own = h.own; it = subst (λ (d : Database). IsBookIn d book) (sym was.1) h.it };
      row = λ row h. record { ready = ready h.ready; own = h.own; it = subst (λ (d : Database). IsBadIn d row) (sym was.1) h.it };
    }

pub told_before : (old new : State) (P : Trees → Type 0) (b : Bool) → Survives old new P → TellsCrash new b → TellsCrash old b
told_before old new P b lives tells = (clean_before old new P lives tells.0, tells.1)

-- where nothing changed, a keeper that is well was well
pub undone_well : (old new : State) (P : Trees → Type 0) (b : Bool) → Survives old new P → (HasCleanDisk new → Undoes old new) → IsWell new b → IsWell old b
undone_well old new P b lives undone well = (told_before old new P b lives well.0, (undone well.0.0 well.1).0)

pub stays_open : (old new : State) (P : Trees → Type 0) → Survives old new P → StaysOpen old new
stays_open old new P lives = lives.closes

-- a fault that was counted stays counted
pub stays_then : (a b c : State) (P Q : Trees → Type 0) → Survives a b P → Survives b c Q → StaysOpen a c
stays_then a b c P Q one two clean was_open = go (one.closes (clean_before b c Q two clean) was_open)
  where
    go : IsTrue b.is_open ⊎ MoreFaults a.faults b.faults → IsTrue c.is_open ⊎ MoreFaults a.faults c.faults
    go (inr more) = inr (omega (arith, more, two.counts))
    go (inl still) = elim (two.closes clean still) [
      | inl lives ↦ inl lives
      | inr more ↦ inr (omega (arith, more, one.counts))
    ]

pub quiet : (old new : State) (b : Bool) → Survives old new (λ _. ⊥) → (HasCleanDisk new → Undoes old new) → TellsNoMore old b new b
quiet old new b lives undone = record {
  kept = book_before old new (λ _. ⊥) lives undone b;
  kept_row = row_before old new (λ _. ⊥) lives undone b;
  told = told_before old new (λ _. ⊥) b lives;
  crash = go;
  well = undone_well old new (λ _. ⊥) b lives undone;
}
  where
    left : {A : Type 0} → A ⊎ ⊥ → A
    left (inl a) = a
    left (inr e) = absurd e

    go : TellsCrash new b → Keeps (CrashLeaves old) (CrashLeaves new)
    go tells (Some book) m = record { db = m.db; left = left (lives.crash tells.0 m.db.trees m.left); live = m.live; it = m.it }
    go tells None m = record { trees = m.trees; left = left (lives.crash tells.0 m.trees m.left); none = m.none }

pub then_no_more : (a b c : State) (p q r : Bool) → TellsNoMore a p b q → TellsNoMore b q c r → TellsNoMore a p c r
then_no_more a b c p q r one two = record {
  kept = λ book h. one.kept book (two.kept book h);
  kept_row = λ row h. one.kept_row row (two.kept_row row h);
  told = λ tells. one.told (two.told tells);
  crash = λ tells after m. one.crash (two.told tells) after (two.crash tells after m);
  well = λ well. one.well (two.well well);
}

-- ---- the flag

-- a book's file has the three tables, and nothing that touches them
pub book_own : (s : State) (book : Book) → IsBookIn s.now book → IsOwn s.now.schema
book_own s book (inl p) = inr p.schema
book_own s book (inr none) = inl none.0

pub row_own : (s : State) (row : BadRow) → IsBadIn s.now row → IsOwn s.now.schema
row_own s row bad = inr bad.schema

-- a file whose flag is raised is told of no more, and what is told of is not flagged
module _ (s : State) (was now : Bool) (notes : Notes s.now.schema was now) where
  pub noted_no_more : TellsNoMore s was s now
  noted_no_more = record {
    kept = λ book h. record { ready = h.ready; own = (notes.0 h.own).0; it = h.it };
    kept_row = λ row h. record { ready = h.ready; own = (notes.0 h.own).0; it = h.it };
    told = λ tells. (tells.0, (notes.0 tells.1).0);
    crash = λ tells after m. m;
    well = λ well. ((well.0.0, (notes.0 well.0.1).0), well.1);
  }

  pub noted_on : TellsOn s was s now
  noted_on = record {
    book = λ book h. record { ready = h.ready; own = notes.1 (h.own, book_own s book h.it); it = h.it };
    row = λ row h. record { ready = h.ready; own = notes.1 (h.own, row_own s row h.it); it = h.it };
  }

  pub noted_left : LeavesBooks s was → LeavesBooks s now
  noted_left left tells = left (tells.0, (notes.0 tells.1).0)

pub on_then : (a b : State) (p q r : Bool) → TellsOn a p a q → GoesOn a q b r → GoesOn a p b r
on_then a b p q r one two clean lives =
    let later = two clean lives in
    record { book = λ book h. later.book book (one.book book h); row = λ row h. later.row row (one.row row h) }

-- of a flagged file nothing is told
module _ (old new : State) (b : Bool) (is : b ≡ true) where
  up : b ≡ false → ⊥
  up down = absurd (true≢false (sym is ∙ down))

  pub beside_no_more : TellsNoMore old b new b
  beside_no_more = record {
    kept = λ book h. absurd (up h.own);
    kept_row = λ row h. absurd (up h.own);
    told = λ tells. absurd (up tells.1);
    crash = λ tells. absurd (up tells.1);
    well = λ well. absurd (up well.0.1);
  }

  pub beside_on : GoesOn old b new b
  beside_on clean lives = record { book = λ book h. absurd (up h.own); row = λ row h. absurd (up h.own) }

  pub beside_left : LeavesBooks new b
  beside_left tells = absurd (up tells.1)

  pub beside_gives : (loaded : Loaded) → Gives (Holds new b) (HoldsBad new b) loaded
  beside_gives (Loaded.Rows tables) = ((λ book h. absurd (up h.own)), (λ row h. up h.own))
  beside_gives (Loaded.BadRow table act) = ((λ book h. up h.own), (λ row h. absurd (up h.own)))
  beside_gives Loaded.Failed = tt
  beside_gives Loaded.NoMemory = tt

-- ---- what a crash leaves

-- a crash leaves books where it left them before, and what was written is one
pub left_on : (old new : State) (P : Trees → Type 0) (b : Bool) → Survives old new P → (TellsCrash new b → (trees : Trees) → P trees → (book : Book) × IsFileOf trees book) → LeavesBooks old b → LeavesBooks new b
left_on old new P b lives written left tells trees may = go (lives.crash tells.0 trees may)
  where
    go : old.may_leave trees ⊎ P trees → (book : Book) × IsFileOf trees book
    go (inl was) = left (told_before old new P b lives tells) trees was
    go (inr w) = written tells trees w

pub quiet_left : (old new : State) (b : Bool) → Survives old new (λ _. ⊥) → LeavesBooks old b → LeavesBooks new b
quiet_left old new b lives = left_on old new (λ _. ⊥) b lives (λ tells trees none. absurd none)

-- between two statements a crash leaves the file of the book that is told
pub told_left : (s : State) (b : Bool) → IsSettled s → ((db : Trees) → IsTrue s.is_open → s.may_leave db → db ≡ s.committed.trees) → (book : Book) → Holds s b book → LeavesBooks s b
told_left s b settled only book h tells trees may =
    let same : trees ≡ s.now.trees = only trees h.ready.is_open may ∙ ap (λ (d : Database). d.trees) (sym (settled.settled h.ready.alone h.ready.is_open)) in
    (book, record { db = s.now; same = sym same; live = (settled.live h.ready.is_open).0; it = h.it })

-- ---- rows that were asked for

module _ {X Y : Type 0} (f : X → Y) (only : (a b : X) → f a ≡ f b → a ≡ b) where
  map_only : (xs ys : List X) → map f xs ≡ map f ys → xs ≡ ys
  map_only [] [] e = refl
  map_only [] (y ∷ ys) e = absurd (cc)
  map_only (x ∷ xs) [] e = absurd (cc)
  map_only (x ∷ xs) (y ∷ ys) e =
      let first : f x ≡ f y = cc in
      let later : map f xs ≡ map f ys = cc in
      let one = only x y first in
      let more = map_only xs ys later in
      λ i. one i ∷ more i

book_is : (tables : Tables) (book : Book) → map (cells acts) tables.acts.items ≡ map (cells acts) book.acts → map (cells records) tables.records.items ≡ map (cells records) book.records → map (cells lines) tables.lines.items ≡ map (cells lines) book.lines → book_of tables ≡ book
book_is tables book acts_are records_are lines_are =
    let one = map_only (cells acts) one_act tables.acts.items book.acts acts_are in
    let two = map_only (cells records) one_record tables.records.items book.records records_are in
    let three = map_only (cells lines) one_line tables.lines.items book.lines lines_are in
    λ i. record { acts = one i; records = two i; lines = three i }

none_some : {X : Type 0} (o : Option X) (x : X) → o ≡ None → o ≡ Some x → ⊥
none_some o x p q = let e : None ≡ Some x = sym p ∙ q in absurd (cc)

some_in : {X : Type 0} (x y : X) → Some y ≡ Some x → y ≡ x
some_in x y e = cc

some_once : {X : Type 0} (o : Option X) (x y : X) → o ≡ Some x → o ≡ Some y → y ≡ x
some_once o x y p q = let e : Some y ≡ Some x = sym q ∙ p in cc

module _ (rows : AskedRows) (db : Database) (asked : AreAsked rows db) (loaded : Loaded) (reads : Narrows rows.acts rows.records rows.lines loaded) where
  of_rows : (act_rows record_rows line_rows : List Row) → HasTables db.schema → StandsFor db.trees act_rows record_rows line_rows → Narrows act_rows record_rows line_rows loaded
  of_rows act_rows record_rows line_rows has stands =
      subst (λ l. Narrows act_rows record_rows l loaded) (asked.lines has line_rows stands.lines)
      (subst (λ r. Narrows act_rows r rows.lines loaded) (asked.records has record_rows stands.records)
      (subst (λ a. Narrows a rows.records rows.lines loaded) (asked.acts has act_rows stands.acts) reads))

  pub of_book : (book : Book) → IsBookIn db book → first_bad (map (cells acts) book.acts) (map (cells records) book.records) (map (cells lines) book.lines) ≡ None × Narrows (map (cells acts) book.acts) (map (cells records) book.records) (map (cells lines) book.lines) loaded
  of_book book (inl p) = (p.fits, of_rows _ _ _ p.schema p.stands)
  of_book book (inr none) = absurd (asked.known none.0)

  pub of_bad : (row : BadRow) (bad : IsBadIn db row) → Narrows bad.act_rows bad.record_rows bad.line_rows loaded
  of_bad row bad = of_rows bad.act_rows bad.record_rows bad.line_rows bad.schema bad.stands

pub gives_rows : (rows : AskedRows) (old new : State) (P : Trees → Type 0) (loaded : Loaded) (b : Bool) → Survives old new P → (HasCleanDisk new → AreAsked rows old.now) → (HasCleanDisk new → Undoes old new)
    → Narrows rows.acts rows.records rows.lines loaded
    → Gives (Holds new b) (HoldsBad new b) loaded
gives_rows rows old new P (Loaded.Rows tables) b lives asked undone reads = (
  (λ book h. let it = of_book rows old.now (asked h.ready.clean) (Loaded.Rows tables) reads book (book_before old new P lives undone b book h).it in book_is tables book it.1.1.0 it.1.1.1.0 it.1.1.1.1),
  (λ row h. let bad = (row_before old new P lives undone b row h).it in none_some _ (Some row) (of_bad rows old.now (asked h.ready.clean) (Loaded.Rows tables) reads row bad).0 bad.is),
)
gives_rows rows old new P (Loaded.BadRow table act) b lives asked undone reads = (
  (λ book h. let it = of_book rows old.now (asked h.ready.clean) (Loaded.BadRow table act) reads book (book_before old new P lives undone b book h).it in none_some _ _ it.0 it.1),
  (λ row h. let bad = (row_before old new P lives undone b row h).it in some_in _ row (some_once _ _ (Some row) (of_bad rows old.now (asked h.ready.clean) (Loaded.BadRow table act) reads row bad) bad.is)),
)
gives_rows rows old new P Loaded.Failed b lives asked undone reads = tt
gives_rows rows old new P Loaded.NoMemory b lives asked undone reads = tt

-- no cell of the first row that doesn't fit is of another type than its column's, where a book or a bad row is told
module _ (rows : AskedRows) (old new : State) (b : Bool) (asked : HasCleanDisk new → AreAsked rows old.now) where
  first_as : (act_rows record_rows line_rows : List Row) → HasCleanDisk new → HasTables old.now.schema → StandsFor old.now.trees act_rows record_rows line_rows → first_bad act_rows record_rows line_rows ≡ first_bad rows.acts rows.records rows.lines
  first_as act_rows record_rows line_rows clean has stands =
      let it = asked clean in
      λ i. first_bad (sym (it.acts has act_rows stands.acts) i) (sym (it.records has record_rows stands.records) i) (sym (it.lines has line_rows stands.lines) i)

  in_book : HasCleanDisk new → first_bad rows.acts rows.records rows.lines ≡ Some None → (book : Book) → IsBookIn old.now book → ⊥
  in_book clean wrong book (inr none) = (asked clean).known none.0
  in_book clean wrong book (inl p) = none_some _ _ p.fits (first_as _ _ _ clean p.schema p.stands ∙ wrong)

  in_told : HasCleanDisk new → first_bad rows.acts rows.records rows.lines ≡ Some None → IsTold old b → ⊥
  in_told clean wrong (inl it) = in_book clean wrong it.0 it.1.it
  in_told clean wrong (inr it) =
      let bad = it.1.it in
      let same : Some it.0 ≡ None = some_once _ _ _ (first_as _ _ _ clean bad.schema bad.stands ∙ wrong) bad.is in
      absurd (cc)

  pub mistyped : (e : Error) → first_bad rows.acts rows.records rows.lines ≡ Some None → IsUnloadedByFault old b new e
  mistyped e wrong clean told unlimited = absurd (in_told clean wrong told)

-- ---- tables that were made

no_rows : (xs rows : List Row) → rows ≡ [] → IsPermutation xs rows → xs ≡ []
no_rows [] rows none same = refl
no_rows (x ∷ xs) rows none same = let e : 0 ≡ suc (length xs) = sym (ap length none) ∙ length_permutation _ _ same in absurd (omega (arith, e))

unmapped : {X Y : Type 0} (f : X → Y) (xs : List X) → map f xs ≡ [] → xs ≡ []
unmapped f [] e = refl
unmapped f (x ∷ xs) e = absurd (cc)

made_empty : (db : Database) → IsMade db → (book : Book) → IsBookIn db book → book ≡ empty_book
made_empty db made book (inr none) = none.1
made_empty db made book (inl p) =
    let one = unmapped (cells acts) book.acts (no_rows _ _ made.none.acts p.stands.acts.are) in
    let two = unmapped (cells records) book.records (no_rows _ _ made.none.records p.stands.records.are) in
    let three = unmapped (cells lines) book.lines (no_rows _ _ made.none.lines p.stands.lines.are) in
    λ i. record { acts = one i; records = two i; lines = three i }

made_good : (db : Database) → IsMade db → (row : BadRow) → IsBadIn db row → ⊥
made_good db made row bad =
    let one = no_rows _ _ made.none.acts bad.stands.acts.are in
    let two = no_rows _ _ made.none.records bad.stands.records.are in
    let three = no_rows _ _ made.none.lines bad.stands.lines.are in
    let none : first_bad bad.act_rows bad.record_rows bad.line_rows ≡ None = rw (one, two, three) refl in
    none_some _ (Some row) none bad.is

stands_empty : (trees : Trees) → HoldsNone trees → StandsFor trees [] [] []
stands_empty trees none = record {
  acts = record { are = subst (IsPermutation []) (sym none.acts) (IsPermutation-refl []); rise = tt };
  records = record { are = subst (IsPermutation []) (sym none.records) (IsPermutation-refl []); rise = tt };
  lines = record { are = subst (IsPermutation []) (sym none.lines) (IsPermutation-refl []); rise = tt };
}

empty_in : (db : Database) → IsMade db → IsBookIn db empty_book
empty_in db made = inl (record { schema = made_has db.schema made.schema; stands = stands_empty db.trees made.none; fits = refl })

module _ (old new : State) (lives : Survives old new (MadeTrees old)) (settled : IsSettled old) (empty : old.now.schema ≡ no_schema) (b : Bool) where
  -- what the making may have written is the empty book's file
  made_file : (trees : Trees) → MadeTrees old trees → IsFileOf trees empty_book
  made_file trees w =
      let made = w.made empty in
      record { db = record { schema = book_schema; trees = trees }; same = refl; live = made.live; it = empty_in _ made }

  made_crash : TellsCrash new b → Keeps (CrashLeaves old) (CrashLeaves new)
  made_crash tells None m = go (lives.crash tells.0 m.trees m.left)
    where
      go : old.may_leave m.trees ⊎ MadeTrees old m.trees → MaySpoil old
      go (inl left) = record { trees = m.trees; left = left; none = m.none }
      go (inr written) = absurd (m.none empty_book (made_file m.trees written))
  made_crash tells (Some book) m = go (lives.crash tells.0 m.db.trees m.left)
    where
      go : old.may_leave m.db.trees ⊎ MadeTrees old m.db.trees → MayLeave old book
      go (inl left) = record { db = m.db; left = left; live = m.live; it = m.it }
      go (inr written) =
          let made = written.made empty in
          let none : book ≡ empty_book = book_once m.db (record { schema = book_schema; trees = m.db.trees }) book empty_book refl m.live made.live m.it (empty_in _ made) in
          let same : old.now ≡ old.committed = settled.settled written.was_alone written.was_open in
          record {
            db = old.committed;
            left = settled.stays written.was_open;
            live = (settled.live written.was_open).1;
            it = inr (ap (λ (d : Database). d.schema) (sym same) ∙ empty, none);
          }

  -- the empty tables are a book's file
  pub made_left : LeavesBooks old b → LeavesBooks new b
  made_left = left_on old new (MadeTrees old) b lives (λ tells trees w. (empty_book, made_file trees w))

  pub made_fails : (HasCleanDisk new → Undoes old new) → TellsNoMore old b new b
  made_fails undone = record {
    kept = book_before old new (MadeTrees old) lives undone b;
    kept_row = row_before old new (MadeTrees old) lives undone b;
    told = told_before old new (MadeTrees old) b lives;
    crash = made_crash;
    well = undone_well old new (MadeTrees old) b lives undone;
  }

  module _ (made : HasCleanDisk new → Makes old new) where
    is_made : (clean : HasCleanDisk new) → IsMade new.now
    is_made clean = (made clean).made empty

    pub made_tells : TellsNoMore old b new b
    made_tells = record {
      kept = λ book h.
          let it = made h.ready.clean in
          let none = made_empty new.now (is_made h.ready.clean) book h.it in
          record { ready = record { clean = clean_before old new (MadeTrees old) lives h.ready.clean; is_open = it.settles.was_open; alone = it.settles.was_alone }; own = h.own; it = inr (empty, none) };
      kept_row = λ row h. absurd (made_good new.now (is_made h.ready.clean) row h.it);
      told = told_before old new (MadeTrees old) b lives;
      crash = made_crash;
      well = λ well. (told_before old new (MadeTrees old) b lives well.0, (made well.0.0).settles.was_open);
    }

    pub made_gives : (tables : Tables) → book_of tables ≡ empty_book → Gives (Holds new b) (HoldsBad new b) (Loaded.Rows tables)
    made_gives tables none = ((λ book h. none ∙ sym (made_empty new.now (is_made h.ready.clean) book h.it)), (λ row h. made_good new.now (is_made h.ready.clean) row h.it))

    -- the empty book that was told is told on
    pub made_on : GoesOn old b new b
    made_on clean lives_on =
        let it = made clean in
        let ready : IsReady new = record { clean = clean; is_open = it.settles.is_open; alone = it.settles.alone } in
        record { book = λ book h. record { ready = ready; own = h.own; it = go book h.it }; row = λ row h. absurd (schemas_differ _ h.it.schema empty) }
      where
        go : (book : Book) → IsBookIn old.now book → IsBookIn new.now book
        go book (inl p) = absurd (schemas_differ _ p.schema empty)
        go book (inr none) = subst (IsBookIn new.now) (sym none.1) (empty_in new.now (is_made clean))

-- ---- a batch that was written

book_same : (db : Database) (x y : Book) → IsBookIn db x → IsBookIn db y → x ≡ y
book_same db x y (inl p) (inl q) = rows_once db db x y refl p q
book_same db x y (inl p) (inr q) = absurd (schemas_differ _ p.schema q.0)
book_same db x y (inr p) (inl q) = absurd (schemas_differ _ q.schema p.0)
book_same db x y (inr p) (inr q) = p.1 ∙ sym q.1

module _ (old new : State) (b : Bool) (batch : Batch) (it : IsBatch batch) (lives : Survives old new (BatchTrees old batch)) where
  module _ (next : (book : Book) → Holds old b book → IsBefore book batch.act.n) (lands : HasCleanDisk new → Lands old new batch) where
    ready_then : IsReady new → IsReady old
    ready_then r = let l = lands r.clean in record { clean = clean_before old new (BatchTrees old batch) lives r.clean; is_open = l.settles.was_open; alone = l.settles.was_alone }

    pub landed : Commits (Holds old b) (Holds new b) batch Committed.Done
    landed book h = go h.it
      where
        l : Lands old new batch
        l = lands h.ready.clean

        go : IsBookIn new.now book → (was : Book) × (Holds old b was × (book ≡ appended was batch))
        go (inr none) = absurd (l.known (sym l.schema ∙ none.0))
        go (inl p) =
            let has : HasTables old.now.schema = subst HasTables l.schema p.schema in
            let found = rows_before old.now new.now batch (l.rows has) has it book p (λ was w. next was (record { ready = ready_then h.ready; own = h.own; it = w })) in
            (found.0, (record { ready = ready_then h.ready; own = h.own; it = found.1.0 }, found.1.1))

    -- the book that was told is told on, with the batch
    pub landed_on : HasCleanDisk new → (book : Book) → Holds old b book → Holds new b (appended book batch)
    landed_on clean book h = record { ready = record { clean = clean; is_open = l.settles.is_open; alone = l.settles.alone }; own = h.own; it = go h.it }
      where
        l : Lands old new batch
        l = lands clean

        go : IsBookIn old.now book → IsBookIn new.now (appended book batch)
        go (inl p) = inl (book_after old.now new.now batch (l.rows p.schema) (subst HasTables (sym l.schema) p.schema) it l.fit book p (next book h))
        go (inr none) = absurd (l.known none.0)

    pub landed_row : Keeps (HoldsBad old b) (HoldsBad new b)
    landed_row row h =
        let l = lands h.ready.clean in
        let has : HasTables old.now.schema = subst HasTables l.schema h.it.schema in
        record { ready = ready_then h.ready; own = h.own; it = bad_before old.now new.now batch (l.rows has) has l.fit row h.it }

    pub landed_well : IsWell new b → IsWell old b
    landed_well well = (told_before old new (BatchTrees old batch) b lives well.0, (lands well.0.0).settles.was_open)

    pub landed_crash : ((db : Trees) → IsTrue new.is_open → new.may_leave db → db ≡ new.committed.trees) → LeavesTold (Holds new b) (CrashLeaves new)
    landed_crash settled book h = go
      where
        l : Lands old new batch
        l = lands h.ready.clean

        same : (trees : Trees) → new.may_leave trees → trees ≡ new.now.trees
        same trees left = settled trees h.ready.is_open left ∙ ap (λ (d : Database). d.trees) l.settles.settled

        go : (after : Option Book) → CrashLeaves new after → after ≡ Some book
        go (Some after) m = ap Some (book_once m.db new.now after book (same m.db.trees m.left) m.live l.live m.it h.it)
        go None m = absurd (m.none book (record { db = new.now; same = sym (same m.trees m.left); live = l.live; it = h.it }))

    -- after Done a crash leaves the book's file
    pub landed_left : ((db : Trees) → IsTrue new.is_open → new.may_leave db → db ≡ new.committed.trees) → (book : Book) → Holds new b book → LeavesBooks new b
    landed_left settled book h tells trees may =
        let l = lands tells.0 in
        let same : trees ≡ new.now.trees = settled trees h.ready.is_open may ∙ ap (λ (d : Database). d.trees) l.settles.settled in
        (book, record { db = new.now; same = sym same; live = l.live; it = h.it })

  module _ (next : (book : Book) → Holds old b book → IsBefore book batch.act.n) where
    -- what the commit may have written is the file of the book that was told with the batch
    written_file : (book : Book) → Holds old b book → (trees : Trees) → BatchTrees old batch trees → IsFileOf trees (appended book batch)
    written_file book h trees w = go h.it
      where
        go : IsBookIn old.now book → IsFileOf trees (appended book batch)
        go (inl p) = record {
          db = record { schema = old.now.schema; trees = trees };
          same = refl;
          live = w.live;
          it = inl (book_after old.now (record { schema = old.now.schema; trees = trees }) batch (w.rows p.schema) p.schema it w.fit book p (next book h));
        }
        go (inr none) = absurd (w.known none.0)

    pub not_landed_left : (book : Book) → Holds old b book → LeavesBooks old b → LeavesBooks new b
    not_landed_left book h = left_on old new (BatchTrees old batch) b lives (λ tells trees w. (appended book batch, written_file book h trees w))

    pub not_landed_crash : TellsCrash new b → LeavesOrCommits (Holds old b) (CrashLeaves old) (CrashLeaves new) batch
    not_landed_crash tells book h None m = go (lives.crash tells.0 m.trees m.left)
      where
        go : old.may_leave m.trees ⊎ BatchTrees old batch m.trees → MaySpoil old ⊎ (None ≡ Some (appended book batch))
        go (inl left) = inl (record { trees = m.trees; left = left; none = m.none })
        go (inr w) = absurd (m.none (appended book batch) (written_file book h m.trees w))
    not_landed_crash tells book h (Some after) m = go (lives.crash tells.0 m.db.trees m.left)
      where
        written : BatchTrees old batch m.db.trees → after ≡ appended book batch
        written w = rows m.it
          where
            has : IsBookIn old.now book → HasTables old.now.schema
            has (inl p) = p.schema
            has (inr none) = absurd (w.known none.0)

            old_schema : HasTables old.now.schema
            old_schema = has h.it

            rows : IsBookIn m.db after → after ≡ appended book batch
            rows (inr none) = absurd (exclusive old.now.schema m.db.trees old_schema w.live (subst IsDatabase (λ i. record { schema = none.0 i; trees = m.db.trees }) m.live))
            rows (inl p) =
                let found = rows_before old.now m.db batch (w.rows old_schema) old_schema it after p (λ was e. subst (λ (k : Book). IsBefore k batch.act.n) (book_same old.now book was h.it e) (next book h)) in
                found.1.1 ∙ ap (λ (k : Book). appended k batch) (book_same old.now found.0 book found.1.0 h.it)

        go : old.may_leave m.db.trees ⊎ BatchTrees old batch m.db.trees → MayLeave old after ⊎ (Some after ≡ Some (appended book batch))
        go (inl left) = inl (record { db = m.db; left = left; live = m.live; it = m.it })
        go (inr w) = inr (ap Some (written w))
