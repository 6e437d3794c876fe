-- What was told is loaded, unless memory runs out or the store counts a fault.
use Rattle.std.proofs.Common.{◌≡◌, Bool, true, false, Result, Ok, Err, IfOk, IfErr, IsTrue, inl, inr, sym, ◌∙◌, true≢false}
use Rattle.sqlite.specs.{State.State, State.HasCleanDisk}
use Rattle.sqlite.specs.declared.error.{Error.Error, Error.TheVariants.SqliteFailure, ErrorCode.TheVariants.OutOfMemory}
use Rattle.book_rows.specs.Book.{Book}
use Rattle.keeper_core.specs.declared.keeper.Loaded.{Loaded}
use Rattle.store_sql.specs.Schema.{no_schema, HasTables}
use Rattle.store_sql.specs.Takes.{IsExcused, IsServing}
use Rattle.store_read.specs.declared.asking.AskFault.{AskFault}
use Rattle.store_read.specs.Asking.{AreUnreadByFault, error_of}
use Rattle.keeper_sqlite.specs.Told.{IsBookIn, IsReady, IsTold, IsUnloadedByFault, LoadFailsByFault, Notes}
use Rattle.keeper_sqlite.proofs.Calls.{noted_on}

pub on_err : {A E : Type 0} {C : Type 0} {P Q : E → Type 0} (r : Result A E) → (C → IfErr r P) → ((e : E) → (C → P e) → Q e) → IfErr r Q
on_err (Ok a) h f = tt
on_err (Err e) h f = f e h

pub if_ok : {A E : Type 0} (P Q : A → Type 0) (r : Result A E) → ((a : A) → P a → Q a) → IfOk r P → IfOk r Q
if_ok P Q (Ok a) f h = f a h
if_ok P Q (Err e) f h = tt

pub if_err : {A E : Type 0} (P Q : E → Type 0) (r : Result A E) → ((e : E) → P e → Q e) → IfErr r P → IfErr r Q
if_err P Q (Ok a) f h = tt
if_err P Q (Err e) f h = f e h

module _ (old new : State) (b : Bool) where
  ready_of : IsTold old b → IsReady old
  ready_of (inl it) = it.1.ready
  ready_of (inr it) = it.1.ready

  own_of : IsTold old b → b ≡ false
  own_of (inl it) = it.1.own
  own_of (inr it) = it.1.own

  -- the tables of a file that isn't empty
  pub unread : (fault : AskFault) → (HasCleanDisk new → AreUnreadByFault old new fault) → (old.now.schema ≡ no_schema → ⊥) → IsUnloadedByFault old b new (error_of fault)
  unread fault why some clean told unlimited = go told
    where
      serving : HasTables old.now.schema → IsServing old
      serving has = record { is_open = (ready_of told).is_open; unlimited = unlimited; schema = has }

      of_book : (book : Book) → IsBookIn old.now book → IsExcused old new (error_of fault)
      of_book book (inl rows) = why clean (serving rows.schema) (ready_of told).alone
      of_book book (inr none) = absurd (some none.0)

      go : IsTold old b → IsExcused old new (error_of fault)
      go (inl it) = of_book it.0 it.1.it
      go (inr it) = why clean (serving it.1.it.schema) (ready_of told).alone

  -- the tables of an empty file
  pub unmade : (e : Error) → (HasCleanDisk new → IsTrue old.is_open → old.in_transaction ≡ false → old.now.schema ≡ no_schema → IsExcused old new e) → old.now.schema ≡ no_schema → IsUnloadedByFault old b new e
  unmade e why empty clean told unlimited = let ready = ready_of told in why clean ready.is_open ready.alone empty

  pub unloaded_beside : {A : Type 0} (r : Result A Error) → b ≡ true → IfErr r (IsUnloadedByFault old b new)
  unloaded_beside (Ok a) up = tt
  unloaded_beside (Err e) up = λ clean told unlimited. absurd (true≢false (sym up ∙ own_of told))

  pub load_fails : (e : Error) → (e ≡ SqliteFailure OutOfMemory → ⊥) → IsUnloadedByFault old b new e → LoadFailsByFault old b new Loaded.Failed
  load_fails e other why clean failed told unlimited = elim (why clean told unlimited) [ inl memory ↦ absurd (other memory) | inr fault ↦ fault ]

pub unloaded_noted : (old new : State) (was now : Bool) (e : Error) → Notes old.now.schema was now → IsUnloadedByFault old now new e → IsUnloadedByFault old was new e
unloaded_noted old new was now e notes why clean told unlimited = why clean (told_now told) unlimited
  where
    told_now : IsTold old was → IsTold old now
    told_now (inl it) = inl (it.0, (noted_on old was now notes).book it.0 it.1)
    told_now (inr it) = inr (it.0, (noted_on old was now notes).row it.0 it.1)
