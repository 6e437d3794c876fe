-- Every row of a book was appended by one act.
use Rattle.office_laws.proofs.Words.{common_steps, ◌≡◌, inl, inr, arith, Option, Some, Contains, option_to_list, Contains-append_cases, Contains-push_cases, Batch, Book, appended, Capacity, IsAppended, IsReached, reached_empty, reached_more, later_same, later_more, Past, CameByActs, RowsCameByActs}
use Rattle.office_laws.proofs.laws.rows_came_by_acts.Goals as goal

one_in : {X : Type 0} (made : Option X) (x : X) → Contains (option_to_list made) x → made ≡ Some x
one_in made x there = grind (arith, common_steps, there)

module _ (capacity : Capacity) (book : Book) (rows : Batch) (reached : IsReached capacity book) (appends : IsAppended capacity book rows)
    (came : CameByActs capacity book) where
  -- what is past stays past
  still : (P : Batch → Type 0) → (past : Past capacity book) × P past.rows → (past : Past capacity (appended book rows)) × P past.rows
  still P (past, is) = (
    record { earlier = past.earlier; rows = past.rows; reached = past.reached; appends = past.appends; later = later_more past.later appends },
    is,
  )

  -- and what holds of these rows is of the last act
  now : (P : Batch → Type 0) → P rows → (past : Past capacity (appended book rows)) × P past.rows
  now P is = (record { earlier = book; rows = rows; reached = reached; appends = appends; later = later_same }, is)

  came_more : CameByActs capacity (appended book rows)
  came_more = record {
    acts = λ row there. elim (Contains-push_cases book.acts rows.act row there) [
      | inl before ↦ still (λ rows. rows.act ≡ row) (came.acts row before)
      | inr last ↦ now (λ rows. rows.act ≡ row) last
    ];
    records = λ r there. elim (Contains-append_cases book.records (option_to_list rows.made) r there) [
      | inl before ↦ still (λ rows. rows.made ≡ Some r) (came.records r before)
      | inr last ↦ now (λ rows. rows.made ≡ Some r) (one_in rows.made r last)
    ];
    lines = λ line there. elim (Contains-append_cases book.lines rows.lines line there) [
      | inl before ↦ still (λ rows. Contains rows.lines line) (came.lines line before)
      | inr last ↦ now (λ rows. Contains rows.lines line) last
    ];
  }

rows_came_by_acts : RowsCameByActs
rows_came_by_acts capacity _ reached_empty = record {
  acts = λ row there. absurd (omega (arith, there.1));
  records = λ r there. absurd (omega (arith, there.1));
  lines = λ line there. absurd (omega (arith, there.1));
}
rows_came_by_acts capacity _ (reached_more {book} {rows} reached appends) =
    came_more capacity book rows reached appends (rows_came_by_acts capacity book reached)

pub returns : goal.returns
returns c = rows_came_by_acts
