-- An open book stays open.
use Rattle.std.proofs.Common.{◌≡◌, ◌∙◌, refl, sym, ap, subst, inl, inr, ⊎_elim, Some}
use Rattle.book_rows.specs.{declared.rows.Batch.Batch, Book.Book, Book.appended}
use Rattle.keeper_core.specs.declared.keeper.Keeper as keeper
use Rattle.keeper_core.specs.Keeping.{Keeps, LeavesOrCommits}
use Rattle.office_core.specs.{Below.office_step.Step.IsAppended, Office.Holding}
use Rattle.clerk_desk.specs.{OpenBook.IsOpen, OpenBook.StaysOpen, Serving.IsFurther, Serving.LeavesFurther}

module _ {K : Type 0} (tells : keeper.Ghosts K) (office office_now : Holding) (was now : K) (told : IsOpen tells office was) (room : office_now.capacity ≡ office.capacity)
    (kept_row : Keeps (tells.bad was) (tells.bad now)) (was_well : tells.is_well now → tells.is_well was) (crash_told : tells.tells_crash now → tells.tells_crash was) where
  -- where office and keeper did the same to the book
  pub stays_by : (done : Book → Book) → office_now.book ≡ done office.book
      → ((book : Book) → tells.holds now book → (before : Book) × (tells.holds was before × (book ≡ done before)))
      → (tells.is_well now → (book : Book) → tells.holds was book → tells.holds now (done book)) → StaysOpen tells office was office_now now
  stays_by done same before on = record {
    kept = λ book telling. (let it = before book telling in it.1.1 ∙ ap done (told it.0 it.1.0) ∙ sym same);
    capacity = room;
    told_before = λ book telling. (let it = before book telling in (it.0, it.1.0));
    tells_on = λ well. (was_well well, λ book telling. subst (tells.holds now) (ap done (told book telling) ∙ sym same) (on well book telling));
    kept_row = kept_row;
    crash_told = crash_told;
  }

  -- where neither did anything to it
  pub stays_as : office_now.book ≡ office.book → Keeps (tells.holds was) (tells.holds now) → (tells.is_well now → Keeps (tells.holds now) (tells.holds was))
      → StaysOpen tells office was office_now now
  stays_as same keeps on = stays_by (λ book. book) same (λ book telling. (book, (keeps book telling, refl))) on

-- where the keeper was asked nothing
pub stays_still : {K : Type 0} (tells : keeper.Ghosts K) (office office_now : Holding) (was : K) → IsOpen tells office was → office_now.capacity ≡ office.capacity → office_now.book ≡ office.book
    → StaysOpen tells office was office_now was
stays_still tells office office_now was told room same =
    stays_as tells office office_now was was told room (λ row bad. bad) (λ well. well) (λ telling. telling) same (λ book telling. telling) (λ well book telling. telling)

pub stays : {K : Type 0} (tells : keeper.Ghosts K) (office : Holding) (was : K) → IsOpen tells office was → StaysOpen tells office was office was
stays tells office was told = stays_still tells office office was told refl refl

pub stays_then : {K : Type 0} (tells : keeper.Ghosts K) (office office_mid office_now : Holding) (was mid now : K) → StaysOpen tells office was office_mid mid → StaysOpen tells office_mid mid office_now now
    → StaysOpen tells office was office_now now
stays_then tells office office_mid office_now was mid now one two = record {
  kept = two.kept;
  capacity = two.capacity ∙ one.capacity;
  told_before = λ book telling. (let before = two.told_before book telling in one.told_before before.0 before.1);
  tells_on = λ well.
      (let later = two.tells_on well in
      let earlier = one.tells_on later.0 in
      (earlier.0, λ book telling. later.1 _ (earlier.1 book telling)));
  kept_row = λ row bad. one.kept_row row (two.kept_row row bad);
  crash_told = λ telling. one.crash_told (two.crash_told telling);
}

-- what a crash leaves where the keeper did not say it kept the rows
pub leaves_unkept : {K : Type 0} (tells : keeper.Ghosts K) (office office_now : Holding) (was now : K) (made : Book) (rows batch : Batch) → IsOpen tells office was → IsAppended office.capacity office.book rows
    → made ≡ appended office.book rows → batch ≡ rows → office_now.book ≡ office.book → Keeps (tells.holds was) (tells.holds now)
    → (tells.tells_crash now → LeavesOrCommits (tells.holds was) (tells.leaves was) (tells.leaves now) batch) → tells.tells_crash now
    → LeavesFurther (IsFurther office.capacity office.book made) office.book office_now.book (tells.holds now) (tells.leaves was) (tells.leaves now)
leaves_unkept tells office office_now was now made rows batch told appends made_is is same keeps crash telling book holding after left =
    inr (
      same,
      ⊎_elim
          (λ (earlier : tells.leaves was after). inl earlier)
          (λ (it : after ≡ Some (appended book batch)). inr (record {
            rows = rows;
            appends_them = appends;
            makes = made_is;
            left = it ∙ (λ i. Some (appended (told book (keeps book holding) i) (is i))) ∙ ap Some (sym made_is);
          }))
          (crash telling book (keeps book holding) after left),
    )
