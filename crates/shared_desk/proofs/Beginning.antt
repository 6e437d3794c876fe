-- What the lock keeps when a desk is opened.
use Rattle.std.proofs.Common.{◌≡◌, ◌∙◌, sym, ap, subst, inl, ℕ, Some, List, []}
use Rattle.atomic_table.specs.Table.{Me}
use Rattle.book_rows.specs.{declared.rows.ActRow.ActRow, Book.Book}
use Rattle.keeper_core.specs.declared.keeper.Keeper as keeper
use Rattle.keeper_core.specs.Keeping.{LeavesTold}
use Rattle.clerk_desk.specs.Below.office_core.Office.{Holding}
use Rattle.clerk_desk.specs.OpenBook.{IsOpen}
use Rattle.shared_desk.specs.declared.naming.Naming as naming
use Rattle.clerk_desk.specs.Below.office_step.{declared.call.Capacity.Capacity, Step.IsReached}
use Rattle.desk_history.specs.declared.views.{Start.Start, BookView.BookView, View.View, View.TheVariants.Free}
use Rattle.desk_history.specs.{Seen.book_of, Seen.start_on, Moves.opened}
use Rattle.shared_desk.specs.History.{book_in, capacity_of, tables_at, IsLegalHistory}
use Rattle.shared_desk.specs.Deciding.{IsBetweenCalls}

-- the view of a book that is just opened
pub record IsOpened (view : View) (first : Start) (counted : ℕ) : Type 0 where
  pub start : (book_of view).start ≡ first
  pub faults : (book_of view).faults ≡ counted

pub book_opened : (me : Me (Unit {0}) View) (rows : Book) (most_acts most_lines faults : ℕ) →
    me ≡ (Free (opened (start_on rows most_acts most_lines) faults), []) → IsOpened me.0 (start_on rows most_acts most_lines) faults
book_opened me rows most_acts most_lines faults is = record {
  start = ap (λ (m : Me (Unit {0}) View). (book_of m.0).start) is;
  faults = ap (λ (m : Me (Unit {0}) View). (book_of m.0).faults) is;
}

-- no row is a legal history over an office's book
pub legal_first : (capacity : Capacity) (held : Book) (start : Start) → start ≡ start_on held capacity.acts capacity.lines → IsReached capacity held →
    IsLegalHistory start []
legal_first capacity held start is reached =
    subst (λ (s : Start). IsLegalHistory s []) (sym is) (record { opened = reached; each = tt })

pub settled_first : {B K : Type 0} (desk : naming.Ghosts B) (tells : keeper.Ghosts K) (office : Holding) (its : K) (book : BookView) →
    book.start ≡ start_on office.book office.capacity.acts office.capacity.lines → book.list ≡ [] → tells.faults its ≡ book.faults → IsReached office.capacity office.book →
    IsOpen tells office its → ((now : Book) → tells.holds its now → desk.told now) → (tells.is_well its → (was : Book) → desk.told was → tells.holds its office.book) →
    (desk.sound → tells.tells_crash its → LeavesTold (tells.holds its) (tells.leaves its)) → IsBetweenCalls desk tells office its book
settled_first desk tells office its book start list counted reached kept first on known =
    let same : book_in book.start.opening ≡ office.book = ap (λ (s : Start). book_in s.opening) start in
    record {
      tables = sym (ap (λ (rows : List ActRow). tables_at book.start rows) list ∙ same);
      capacity_is = sym (ap capacity_of start);
      legal = subst (λ (rows : List ActRow). IsLegalHistory book.start rows) (sym list) (legal_first office.capacity office.book book.start start reached);
      kept = kept;
      first = λ now telling. subst desk.told (kept now telling ∙ sym same) (first now telling);
      on = on;
      faults_are = counted;
      survives = λ sure telling now holding after left. inl (known sure telling now holding after left ∙ ap Some (kept now holding));
    }
