-- What holds of every book that an office comes to, by induction on how it comes to it.
use Rattle.office_laws.proofs.Words.{common_steps, false, List, None, Plan, plan_of, plan_act, planned_by, refused_if, Refusal, not, is_some, IsReached, is_plan, ◌≡◌, ◌∙◌, sym, ◌+◌, ◌≤◌, ◌<◌, arith, [], ◌∷◌, ◌++◌, Some, length, option_to_list, All, leb-false, ltb-false, and_parts, length_push, length-append, All-append, Record, Batch, Book, IsBatch, IsBefore, appended, is_fit, Capacity, Act, acts_of, known_of, IsAppended, reached_empty, reached_more, Accepted, Kept, BooksAreKept, BatchesFollow, All-option, AllPairs-option, if_none, AllPairs-append, IfSome-each}
use Rattle.office_laws.proofs.{Inversion.accepted, Inversion.passes, Grown.acts-more, Naming.names_only_more, Rows.acts_more, Makes.record_names_act, Makes.lines_name_act, Makes.lines_have_places}

-- the act of appended rows
abbrev pub act_made : {capacity : Capacity} {book : Book} {rows : Batch} → IsAppended capacity book rows → Act
act_made {capacity} {book} {rows} appends = record { n = rows.act.n; command = appends.call.command }

-- the acts of a book with one more
pub acts_appended : {capacity : Capacity} {book : Book} {rows : Batch} → (appends : IsAppended capacity book rows) →
    acts_of (appended book rows).acts ≡ acts_of book.acts ++ act_made appends ∷ []
acts_appended {capacity} {book} {rows} appends = acts-more book.acts rows.act appends.call.command appends.read

-- ---- one act more

module _ (capacity : Capacity) (book : Book) (rows : Batch) (kept : Kept capacity book) (appends : IsAppended capacity book rows) where
  is : Accepted capacity book appends.call rows
  is = accepted capacity book rows appends

  long : length (appended book rows).acts ≡ length book.acts + 1
  long = length_push book.acts rows.act

  made_act : (r : Record) → rows.made ≡ Some r → r.act ≡ length book.acts + 1
  made_act r made = record_names_act (known_of book) appends.call.command r (sym is.made ∙ made)

  line_act : All (λ line. line.act ≡ length book.acts + 1) rows.lines
  line_act = rw is.lines (lines_name_act (known_of book) appends.call.command)

  kept_more : Kept capacity (appended book rows)
  kept_more = record {
    acts = acts_more book.acts kept.acts rows.act appends.call.command is.n appends.read
        (and_parts _ (is_fit appends.call.command) (and_parts _ _ appends.fit).1).1 is.day
        (rw (is.clerk, is.request, is.body) is.is_new) (rw (is.clerk, is.request, is.body) is.is_unused);
    made = record {
      of_records = All-append (λ r. r.act ≤ length (appended book rows).acts) book.records (option_to_list rows.made)
          (λ k d within. omega (arith, long, kept.made.of_records k d within))
          (All-option (λ r. r.act ≤ length (appended book rows).acts) rows.made (λ r made. omega (arith, long, made_act r made)));
      of_lines = All-append (λ line. line.act ≤ length (appended book rows).acts) book.lines rows.lines
          (λ k d within. omega (arith, long, kept.made.of_lines k d within))
          (λ k d within. omega (arith, long, line_act k d within));
      records_rise = AllPairs-append (λ r next. r.act < next.act) book.records (option_to_list rows.made) kept.made.records_rise
          (AllPairs-option (λ r next. r.act < next.act) rows.made) (λ k l d within there.
          omega (arith, kept.made.of_records k d within, All-option (λ r. r.act ≡ length book.acts + 1) rows.made made_act l d there));
      lines_rise = AllPairs-append (λ line next. line.act ≤ next.act) book.lines rows.lines kept.made.lines_rise
          (λ i j d before within. omega (arith, line_act i d (omega arith), line_act j d within))
          (λ k l d within there. omega (arith, kept.made.of_lines k d within, line_act l d there));
    };
    names = rw (acts_appended appends, is.made)
        (names_only_more (length book.acts) (acts_of book.acts) book.records kept.names rows.act.n capacity.acts rows.act.day appends.call.command is.is_allowed);
    room = record {
      acts = omega (arith, long, leb-false capacity.acts _ (if_none _ _ (passes capacity book rows appends).book_full));
      lines = omega (arith, length-append book.lines rows.lines, ltb-false capacity.lines _ (if_none _ _ is.has_room));
    };
  }

  follows : IsBatch rows × IsBefore book rows.act.n
  follows = (
    record {
      made = IfSome-each (λ r. r.act ≡ rows.act.n) rows.made (λ r made. made_act r made ∙ sym is.n);
      lines = λ k d within. line_act k d within ∙ sym is.n;
      places = rw is.lines (λ place d within. omega (arith, lines_have_places (known_of book) appends.call.command place d within));
    },
    omega (arith, is.n),
  )

pub books_are_kept : BooksAreKept
books_are_kept capacity _ reached_empty = grind arith
books_are_kept capacity _ (reached_more {book} {rows} reached appends) =
    kept_more capacity book rows (books_are_kept capacity book reached) appends

pub batches_follow : BatchesFollow
batches_follow capacity book rows reached appends = follows capacity book rows (books_are_kept capacity book reached) appends

-- ---- the plan

-- there is a plan wherever another act is accepted
planned : (acts : List Act) → (plan_of acts ≡ None → acts ≡ []) → refused_if (not (is_some (plan_act acts))) Refusal.NoPlan ≡ None → (plan : Plan) × (plan_of acts ≡ Some plan)
planned acts first free = grind (arith, common_steps, first, free)

pub plan_there : (capacity : Capacity) (book : Book) (rows : Batch) → IsReached capacity book → (appends : IsAppended capacity book rows) →
    is_plan appends.call.command ≡ false → (plan : Plan) × ((known_of book).plan ≡ Some plan)
plan_there capacity book rows reached appends other =
    planned (acts_of book.acts) (books_are_kept capacity book reached).names.planned (rw other at (planned_by (known_of book) appends.call.command (passes capacity book rows appends).no_plan))
