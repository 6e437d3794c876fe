-- What the lock keeps, once a call was decided.
use Rattle.std.proofs.Common.{◌≡◌, ◌∙◌, refl, sym, ap, subst, subst₂, inl, inr, ⊎_elim, ◌⊎◌, ℕ, arith, Option, Some, List, [], ◌∷◌, ◌++◌}
use Rattle.std.specs.Prelude.{Contains}
use Rattle.std.proofs.lemmas.List.Elements.{Contains-append_left, Contains-append_right, Contains-get_or}
use Rattle.book_rows.specs.{declared.rows.ActRow.ActRow, declared.rows.Batch.Batch, Book.Book, Book.appended}
use Rattle.keeper_core.specs.declared.keeper.Keeper as keeper
use Rattle.clerk_desk.specs.Below.{office_step.declared.call.Capacity.Capacity, office_step.Step.IsAppended, office_core.Office.Holding}
use Rattle.clerk_desk.specs.{OpenBook.StaysOpen, Serving.IsFurther, Serving.LeavesFurther, Serving.LeavesOnly}
use Rattle.desk_history.specs.declared.views.BookView.{BookView}
use Rattle.shared_desk.specs.declared.naming.Naming as naming
use Rattle.shared_desk.specs.History.{GoesOnBy, HistoriesGoOn, IsLegalHistory, tables_at}
use Rattle.shared_desk.specs.Deciding.{IsBetweenCalls, IsLeftBy, IsTriedOn}

-- the book's view with this list, these tries and faults
abbrev pub seen : BookView → List ActRow → List Batch → ℕ → BookView
seen book list tried faults = record { start = book.start; list = list; tried = tried; next = book.next; faults = faults }

module _ {B K : Type 0} (desk : naming.Ghosts B) (tells : keeper.Ghosts K) (office office_now : Holding) (was now : K) (book book_now : BookView)
    (settled : IsBetweenCalls desk tells office was book) (stays : StaysOpen tells office was office_now now) where
  -- It is settled with this list and these tries, where a crash leaves the tables, or where they are as before what it could
  -- leave before, or them and the rows of a try.
  settled_now : (list : List ActRow) (tried : List Batch) (faults : ℕ) → book_now ≡ seen book list tried faults → tells.faults now ≡ faults →
      office_now.book ≡ tables_at book.start list → IsLegalHistory book.start list → ((rows : Batch) → Contains book.tried rows → Contains tried rows) →
      (tells.tells_crash now → (told : Book) → tells.holds now told → (after : Option Book) → tells.leaves now after →
      (after ≡ Some office_now.book) ⊎ ((office_now.book ≡ office.book) × (tells.leaves was after ⊎ IsTriedOn office.capacity office.book tried after))) →
      IsBetweenCalls desk tells office_now now book_now
  settled_now list tried faults is counted tables legal more crash =
      subst (λ (b : BookView). IsBetweenCalls desk tells office_now now b) (sym is)
      (record {
        tables = tables;
        capacity_is = stays.capacity ∙ settled.capacity_is;
        legal = legal;
        kept = stays.kept;
        first = λ told holding. (let before = stays.told_before told holding in settled.first before.0 before.1);
        on = λ well opening telling. (let before = stays.tells_on well in before.1 _ (settled.on before.0 opening telling));
        faults_are = counted;
        survives = λ sound telling told holding after left.
            ⊎_elim (λ (same : after ≡ Some office_now.book). inl same)
            (λ (as_before : (office_now.book ≡ office.book) × (tells.leaves was after ⊎ IsTriedOn office.capacity office.book tried after)).
            subst₂ (λ (most : Capacity) (held : Book). IsLeftBy most held tried after) (sym stays.capacity) (sym as_before.0)
            (⊎_elim (earlier sound telling told holding after) (λ (try : IsTriedOn office.capacity office.book tried after). inr try) as_before.1))
            (crash telling told holding after left);
      })
    where
      earlier : desk.sound → tells.tells_crash now → (told : Book) → tells.holds now told → (after : Option Book) → tells.leaves was after → IsLeftBy office.capacity office.book tried after
      earlier sound telling told holding after left =
          let before = stays.told_before told holding in
          ⊎_elim (λ (same : after ≡ Some office.book). inl same)
          (λ (try : IsTriedOn office.capacity office.book book.tried after). inr (record { rows = try.rows; were_tried = more try.rows try.were_tried; appends_them = try.appends_them; left = try.left }))
          (settled.survives sound (stays.crash_told telling) before.0 before.1 after left)

  -- nothing was sent to the keeper
  pub settled_unsent : office_now.book ≡ office.book → now ≡ was → book_now ≡ seen book book.list book.tried (tells.faults now) → IsBetweenCalls desk tells office_now now book_now
  settled_unsent same is view =
      settled_now book.list book.tried (tells.faults now) view refl (same ∙ settled.tables) settled.legal (λ rows there. there)
      (λ telling told holding after left. inr (same, inl (subst (λ (its : K). tells.leaves its after) is left)))

  -- it was sent these rows and did not say it kept them, and they were written down as tried
  pub settled_unkept : (rows : Batch) → IsAppended office.capacity office.book rows → office_now.book ≡ office.book → book_now ≡ seen book book.list (book.tried ++ rows ∷ []) (tells.faults now) →
      (tells.tells_crash now → LeavesFurther (IsFurther office.capacity office.book (appended office.book rows)) office.book office_now.book (tells.holds now) (tells.leaves was) (tells.leaves now)) →
      IsBetweenCalls desk tells office_now now book_now
  settled_unkept rows appends same view crash =
      settled_now book.list (book.tried ++ rows ∷ []) (tells.faults now) view refl (same ∙ settled.tables) settled.legal (λ others there. Contains-append_left book.tried (rows ∷ []) others there)
      (λ telling told holding after left.
      ⊎_elim (λ (it : after ≡ Some office_now.book). inl it)
      (λ (as_before : (office_now.book ≡ office.book) × (tells.leaves was after ⊎ IsFurther office.capacity office.book (appended office.book rows) after)).
      inr (as_before.0, ⊎_elim (λ (before : tells.leaves was after). inl before) (λ (further : IsFurther office.capacity office.book (appended office.book rows) after). inr (try after further.left)) as_before.1))
      (crash telling told holding after left))
    where
      try : (after : Option Book) → after ≡ Some (appended office.book rows) → IsTriedOn office.capacity office.book (book.tried ++ rows ∷ []) after
      try after left = record {
        rows = rows;
        were_tried = Contains-append_right book.tried (rows ∷ []) rows (Contains-get_or (rows ∷ []) 0 rows (omega arith));
        appends_them = appends;
        left = left;
      }

  -- it kept the rows, and they were appended
  pub settled_more : HistoriesGoOn → (rows : Batch) (row : ActRow) → IsAppended office.capacity office.book rows → row ≡ rows.act → office_now.book ≡ appended office.book rows →
      book_now ≡ seen book (book.list ++ row ∷ []) book.tried book.faults → tells.faults now ≡ tells.faults was →
      (tells.tells_crash now → LeavesOnly office.book office_now.book (tells.holds now) (tells.leaves was) (tells.leaves now)) → IsBetweenCalls desk tells office_now now book_now
  settled_more law rows row appends of same grown counted crash =
      let more : GoesOnBy book.start book.list rows =
      law book.start book.list rows settled.legal (subst₂ (λ (most : Capacity) (tables : Book). IsAppended most tables rows) settled.capacity_is settled.tables appends) in
      settled_now (book.list ++ rows.act ∷ []) book.tried book.faults (grown ∙ ap (λ (r : ActRow). seen book (book.list ++ r ∷ []) book.tried book.faults) of) (counted ∙ settled.faults_are)
      (same ∙ ap (λ (tables : Book). appended tables rows) settled.tables ∙ sym more.tables) more.legal (λ others there. there)
      (λ telling told holding after left.
      ⊎_elim (λ (it : after ≡ Some office_now.book). inl it) (λ (before : (office_now.book ≡ office.book) × tells.leaves was after). inr (before.0, inl before.1)) (crash telling told holding after left))
