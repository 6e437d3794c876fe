-- Each act of a book found the book of the acts before it, and appended its rows there.
use Rattle.office_laws.proofs.Words.{common_steps, nat_tests, ◌≡◌, ◌∙◌, sym, ap, subst, ℕ, ◌<◌, ◌≤◌, inl, inr, arith, List, [], ◌∷◌, ◌++◌, option_to_list, All, Contains, filter, append-nil, filter-append, Contains-push_cases, ActRow, Batch, Book, IsBatch, IsBefore, appended, Record, Line, Command, same_Some, Capacity, IsAppended, IsReached, IsLater, later_same, later_more, reached_empty, reached_more, filter_all, filter_none, find_last, filter_last, find_earlier, filter_earlier, All-IfSome, Known, known_of}
use Rattle.std.proofs.Common.{nat_lt, subst₂}
use Rattle.office_laws.specs.InPlace.{book_before, rows_by, IsInPlace, ActsAreInPlace, OfEachAct}
use Rattle.office_laws.proofs.{Inversion.accepted, Reached.books_are_kept, Reached.batches_follow, Replies.numbered_there, Replies.its_own}

-- ---- of elements with numbers, those before a number

module _ {X : Type 0} (n : X → ℕ) (xs ys : List X) (act : ℕ) (own : All (λ y. n y ≡ act) ys) where
  -- more of a later number, or of this one, come to nothing
  before_stay : (k : ℕ) → k ≤ act → filter (λ x. nat_lt (n x) k) (xs ++ ys) ≡ filter (λ x. nat_lt (n x) k) xs
  before_stay k by =
      filter-append (λ x. nat_lt (n x) k) xs ys
      ∙ ap (λ (more : List X). filter (λ x. nat_lt (n x) k) xs ++ more)
      (filter_none (λ x. nat_lt (n x) k) ys (λ i d within. grind (arith, nat_tests, by, own i d within)))
      ∙ append-nil (filter (λ x. nat_lt (n x) k) xs)

  -- and where all others are before it, these are they
  before_all : All (λ x. n x < act) xs → filter (λ x. nat_lt (n x) act) (xs ++ ys) ≡ xs
  before_all before =
      before_stay act (omega arith)
      ∙ filter_all (λ x. nat_lt (n x) act) xs (λ i d within. grind (arith, nat_tests, before i d within))

-- ---- one act more

module _ (capacity : Capacity) (book : Book) (rows : Batch) (reached : IsReached capacity book) (appends : IsAppended capacity book rows) where
  follow : IsBatch rows × IsBefore book rows.act.n
  follow = batches_follow capacity book rows reached appends

  made_own : All (λ r. r.act ≡ rows.act.n) (option_to_list rows.made)
  made_own = All-IfSome (λ r. r.act ≡ rows.act.n) rows.made follow.0.made

  act_own : All (λ row. row.n ≡ rows.act.n) (rows.act ∷ [])
  act_own = λ k d within. grind (arith, common_steps)

  -- an earlier act found what it found before
  found_stays : (n : ℕ) → n ≤ rows.act.n → book_before (appended book rows) n ≡ book_before book n
  found_stays n by = λ i. record {
    acts = before_stay (λ (row : ActRow). row.n) book.acts (rows.act ∷ []) rows.act.n act_own n by i;
    records = before_stay (λ (r : Record). r.act) book.records (option_to_list rows.made) rows.act.n made_own n by i;
    lines = before_stay (λ (line : Line). line.act) book.lines rows.lines rows.act.n follow.0.lines n by i;
  }

  made_stays : (row : ActRow) → row.n < rows.act.n → rows_by (appended book rows) row ≡ rows_by book row
  made_stays row after = λ i. record {
    act = row;
    made = find_earlier (λ (r : Record). r.act) row.n rows.act.n book.records (option_to_list rows.made) after made_own i;
    lines = filter_earlier (λ (line : Line). line.act) row.n rows.act.n book.lines rows.lines after follow.0.lines i;
  }

  -- and the last found the whole book
  last_found : book_before (appended book rows) rows.act.n ≡ book
  last_found = λ i. record {
    acts = before_all (λ (row : ActRow). row.n) book.acts (rows.act ∷ []) rows.act.n act_own follow.1.acts i;
    records = before_all (λ (r : Record). r.act) book.records (option_to_list rows.made) rows.act.n made_own follow.1.records i;
    lines = before_all (λ (line : Line). line.act) book.lines rows.lines rows.act.n follow.0.lines follow.1.lines i;
  }

  last_made : rows_by (appended book rows) rows.act ≡ rows
  last_made = λ i. record {
    act = rows.act;
    made = (find_last (λ (r : Record). r.act) rows.act.n book.records (option_to_list rows.made) follow.1.records
        ∙ its_own rows.act.n rows.made follow.0.made) i;
    lines = filter_last (λ (line : Line). line.act) rows.act.n book.lines rows.lines follow.1.lines follow.0.lines i;
  }

  in_place_last : IsInPlace capacity (appended book rows) rows.act
  in_place_last = record {
    reached = subst (IsReached capacity) (sym last_found) reached;
    appends = subst₂ (IsAppended capacity) (sym last_found) (sym last_made) appends;
    later = subst₂ (λ (found : Book) (made : Batch). IsLater capacity (appended found made) (appended book rows)) (sym last_found) (sym last_made) later_same;
  }

  in_place_before : (row : ActRow) → Contains book.acts row → IsInPlace capacity book row → IsInPlace capacity (appended book rows) row
  in_place_before row there is =
      let after : row.n < rows.act.n =
      omega (arith, numbered_there book.acts (books_are_kept capacity book reached).acts row there, (accepted capacity book rows appends).n) in
      record {
        reached = subst (IsReached capacity) (sym (found_stays row.n (omega arith))) is.reached;
        appends = subst₂ (IsAppended capacity) (sym (found_stays row.n (omega arith))) (sym (made_stays row after)) is.appends;
        later = subst₂ (λ (found : Book) (made : Batch). IsLater capacity (appended found made) (appended book rows))
            (sym (found_stays row.n (omega arith))) (sym (made_stays row after)) (later_more is.later appends);
      }

pub acts_are_in_place : ActsAreInPlace
acts_are_in_place capacity _ reached_empty row there = absurd (omega (arith, there.1))
acts_are_in_place capacity _ (reached_more {book} {rows} reached appends) row there = elim (Contains-push_cases book.acts rows.act row there) [
  | inl before ↦ in_place_before capacity book rows reached appends row before (acts_are_in_place capacity book reached row before)
  | inr last ↦ subst (IsInPlace capacity (appended book rows)) last (in_place_last capacity book rows reached appends)
]

-- ---- what holds of each act that is appended

-- what holds of each act when it is appended holds of each act of a book
pub of_each_act : (Holds : Known → Batch → Command → Type 0) (capacity : Capacity) →
    ((book : Book) (rows : Batch) → IsReached capacity book → (appends : IsAppended capacity book rows) → Holds (known_of book) rows appends.call.command) →
    (book : Book) → IsReached capacity book → OfEachAct book Holds
of_each_act Holds capacity each book reached row asked there read =
    let place : IsInPlace capacity book row = acts_are_in_place capacity book reached row there in
    subst (Holds (known_of (book_before book row.n)) (rows_by book row)) (same_Some place.appends.call.command asked (sym place.appends.read ∙ read))
    (each (book_before book row.n) (rows_by book row) place.reached place.appends)
