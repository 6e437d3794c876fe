-- A batch that follows a told book is new to the tables of its file.
use Rattle.std.proofs.Common.{◌≡◌, ◌≢◌, ◌<◌, ◌+◌, ℕ, pos, Bool, false, ◌&&◌, ◌==◌, List, ◌++◌, All, take, length, get_or, Option, None, Some, IfSome, inl, inr, refl, ap, ◌∙◌, arith, get_or-take, length-take}
use Rattle.std.specs.Prelude.{⊤}
use Rattle.std.proofs.lemmas.Bool.{both_ways, and_from, eq-eqb}
use Rattle.std.proofs.lemmas.List.Elements.{All-append}
use Rattle.sqlite.specs.{State.State, State.HasCleanDisk}
use Rattle.sqlite.specs.declared.error.{Error.Error, Error.TheVariants.SqliteFailure, ErrorCode.TheVariants.OutOfMemory}
use Rattle.record_history.specs.declared.records.Record.{Record}
use Rattle.voucher_core.specs.declared.line.Line.{Line}
use Rattle.book_rows.specs.declared.rows.{ActRow.ActRow, Batch.Batch}
use Rattle.book_rows.specs.Book.{Book, IsBatch, IsBefore}
use Rattle.keeper_core.specs.declared.keeper.Committed.{Committed}
use Rattle.sqlite.specs.declared.types.Value.TheVariants.{Int}
use Rattle.store_sql.specs.Columns.{acts, records, lines}
use Rattle.store_sql.specs.Takes.{IsExcused, IsServing, IsNew}
use Rattle.store_write.specs.Causes.{Takes}
use Rattle.keeper_sqlite.specs.Told.{Holds, HoldsRows, TakesBatch, FailsByFault}
use Rattle.keeper_sqlite.proofs.Books.{schemas_differ}

same : (m n : ℕ) → Int (pos m) ≡ Int (pos n) → m ≡ n
same m n e = cc

apart : (m n k : ℕ) → m < n → k ≡ n → Int (pos m) ≢ Int (pos k)
apart m n k low is e = omega (arith, low, is, same m k e)

new_act : (there : List ActRow) (act : ActRow) → All (λ other. other.n < act.n) there → All (λ other. (other.clerk == act.clerk && other.request == act.request) ≡ false) there → IsNew acts there act
new_act there act before fresh i d low = (
  λ key. apart _ _ _ (before i d low) refl key.0,
  λ both. both_ways _ (fresh i d low) (and_from _ _ (eq-eqb _ _ (same _ _ both.0)) (eq-eqb _ _ (same _ _ both.1.0))),
)

new_made : (there : List Record) (n : ℕ) (made : Option Record) → All (λ r. r.act < n) there → IfSome made (λ r. r.act ≡ n) → IfSome made (λ m. All (λ r. r.household ≡ m.household → r.number ≢ m.number) there)
    → IfSome made (IsNew records there)
new_made there n None before of fresh = tt
new_made there n (Some r) before of fresh = λ i d low. (
  λ key. apart _ _ _ (before i d low) of key.0,
  λ both. fresh i d low (same _ _ both.0) (same _ _ both.1.0),
)

new_line : (there made : List Line) (n : ℕ) → All (λ line. line.act < n) there → All (λ line. line.act ≡ n) made → ((place : ℕ) (d : Line) → place < length made → (get_or made place d).place ≡ place + 1)
    → (at : ℕ) (d : Line) → at < length made → IsNew lines (there ++ take at made) (get_or made at d)
new_line there made n before of places at d within =
    let line = get_or made at d in
    let Other = λ (o : Line). (Int (pos o.act) ≡ Int (pos line.act)) × ((Int (pos o.place) ≡ Int (pos line.place)) × ⊤) → ⊥ in
    let old : All (λ o. Other o × Other o) there = λ i e low. let never : Other (get_or there i e) = λ both. apart _ _ _ (before i e low) (of at d within) both.0 in (never, never) in
    let new : All (λ o. Other o × Other o) (take at made) = λ i e low.
    let earlier : i < at = omega (arith, low, length-take at made) in
    let one : (get_or (take at made) i e).place ≡ i + 1 = ap (λ (l : Line). l.place) (get_or-take at made i e earlier) ∙ places i e (omega (arith, earlier, within)) in
    let here = places at d within in
    let never : Other (get_or (take at made) i e) = λ both. omega (arith, one, here, same _ _ both.1.0, earlier) in
    (never, never) in
    All-append (λ o. Other o × Other o) there (take at made) old new

takes_rows : (s : State) (book : Book) (batch : Batch) → IsBatch batch → IsBefore book batch.act.n → HoldsRows s.now book → TakesBatch s book batch → Takes s.now.trees batch
takes_rows s book batch is before rows takes = record {
  act = record { there = book.acts; there_are = rows.stands.acts.are; new = new_act book.acts batch.act before.acts takes.request; short = takes.body };
  made = record { there = book.records; there_are = rows.stands.records.are; new = new_made book.records batch.act.n batch.made before.records is.made takes.number };
  lines = record { there = book.lines; there_are = rows.stands.lines.are; new = new_line book.lines batch.lines batch.act.n before.lines is.lines is.places; numbers = takes.rowids };
}

-- a batch that the file takes fails where the store counted a fault
pub failed_by_fault : (old new : State) (is_beside : Bool) (batch : Batch) (e : Error) → IsBatch batch → ((book : Book) → Holds old is_beside book → IsBefore book batch.act.n) → (e ≡ SqliteFailure OutOfMemory → ⊥)
    → (HasCleanDisk new → IsServing old → old.in_transaction ≡ false → Takes old.now.trees batch → IsExcused old new e) → FailsByFault old is_beside new batch Committed.Failed
failed_by_fault old new is_beside batch e is next other why clean failed book holds takes =
    let served : IsServing old = record { is_open = holds.ready.is_open; unlimited = takes.unlimited; schema = takes.made } in
    let rows : HoldsRows old.now book = elim holds.it [ inl rows ↦ rows | inr none ↦ absurd (schemas_differ _ takes.made none.0) ] in
    elim (why clean served holds.ready.alone (takes_rows old book batch is (next book holds) rows takes)) [ inl memory ↦ absurd (other memory) | inr fault ↦ fault ]
