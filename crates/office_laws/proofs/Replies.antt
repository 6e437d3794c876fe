-- The reply to a new act, and that a repeat gets the reply that its act got.
use Rattle.office_laws.proofs.Words.{All, nat_tests, common_steps, ◌≡◌, ◌∙◌, ap, refl, ℕ, ◌<◌, ◌≤◌, arith, ◌&&◌, List, [], ◌∷◌, Some, length, Contains, option_to_list, nat_le, bytes_eq, option_map_or, bytes_decides, lt-leb, append-nil, filter-append, Contains-append_left, Contains-push, Record, Line, ActRow, Batch, Book, IsBatch, appended, Command, body_of, command_in, Call, Capacity, Act, acts_of, acts_up_to, made_by, done_of, is_request_of, repeated, IsAppended, IsReached, reached_more, again, Accepted, AreActs, IsLater, later_same, later_more, find_first, find_earlier, filter_earlier, All-IfSome, Done, ◌+◌, ◌==◌, ◌++◌, Option, IfSome, find, le-leb, length_push, IsBefore, act_of, unit_in, unit_row, units_of, apply_in, application_by, applications_of, known_of, made_now, filter_all, All-filter_map, find_last, filter_last, Made}
use Rattle.office_laws.specs.Replies.{IsOf, RepliesStay, RepeatsAreAnswered, FirstRepliesAreGivenAgain}
use Rattle.office_laws.proofs.{Inversion.accepted, Reached.acts_appended, Reached.act_made, Reached.books_are_kept, Reached.batches_follow, Grown.units-more, Grown.applications-more}

-- ---- the reply to a new act, by what was known before it and by its rows

pub act_numbered : (row : ActRow) (act : Act) → act_of row ≡ Some act → row.n ≡ act.n
act_numbered row act is = grind (arith, common_steps, is)

-- every act of a book has a number up to theirs
pub acts_within : (rows : List ActRow) → AreActs rows → All (λ act. act.n ≤ length rows) (acts_of rows)
acts_within rows are =
    All-filter_map (λ row. row.n ≤ length rows) (λ act. act.n ≤ length rows) act_of
    (λ row act is by. omega (arith, by, act_numbered row act is)) rows (λ k d within. omega (arith, are.numbers k d within))

pub its_own : (n : ℕ) (made : Option Record) → IfSome made (λ r. r.act ≡ n) → find (λ (r : Record). r.act == n) (option_to_list made) ≡ made
its_own n made same = grind (arith, common_steps, nat_tests, same)

module _ (capacity : Capacity) (book : Book) (rows : Batch) (reached : IsReached capacity book) (appends : IsAppended capacity book rows) where
  abbrev n : ℕ
  n = rows.act.n

  abbrev earlier : List Act
  earlier = acts_of book.acts

  follow : IsBatch rows × IsBefore book n
  follow = batches_follow capacity book rows reached appends

  -- the acts up to the new one are all
  pub whole : acts_up_to (appended book rows) n ≡ earlier ++ act_made appends ∷ []
  whole =
      let are : AreActs (appended book rows).acts = (books_are_kept capacity (appended book rows) (reached_more reached appends)).acts in
      let last : n ≡ length book.acts + 1 = (accepted capacity book rows appends).n in
      filter_all (λ (act : Act). nat_le act.n n) (acts_of (appended book rows).acts) (λ k d within.
      le-leb _ n (omega (arith, last, length_push book.acts rows.act, acts_within (appended book rows).acts are k d within)))
      ∙ acts_appended appends

  pub made_is : (asked : Command) → appends.call.command ≡ asked → made_by (appended book rows) n asked ≡ made_now (known_of book) rows asked
  made_is (Command.Unit unit) is =
      rw (whole, units-more earlier (act_made appends), ap unit_in is, length_push (units_of earlier) (unit_row (length (units_of earlier) + 1) unit)) refl
  made_is (Command.Apply apply) is =
      rw (whole, applications-more earlier (act_made appends), ap apply_in is, length_push (applications_of earlier) (application_by n apply)) refl
  made_is (Command.Close close) is = rw (filter_last (λ (line : Line). line.act) n book.lines rows.lines follow.1.lines follow.0.lines) refl
  made_is _ is = rw (find_last (λ (r : Record). r.act) n book.records (option_to_list rows.made) follow.1.records, its_own n rows.made follow.0.made) refl

-- ---- replies stay

module _ (capacity : Capacity) (book : Book) (rows : Batch) (reached : IsReached capacity book) (appends : IsAppended capacity book rows)
    (n : ℕ) (there : n ≤ length book.acts) where
  after : n < rows.act.n
  after = omega (arith, there, (accepted capacity book rows appends).n)

  pub acts_stay : acts_up_to (appended book rows) n ≡ acts_up_to book n
  acts_stay =
      rw (acts_appended appends, filter-append (λ (act : Act). nat_le act.n n) (acts_of book.acts) (act_made appends ∷ []), lt-leb rows.act.n n after)
      (append-nil (acts_up_to book n))

  batch : IsBatch rows
  batch = (batches_follow capacity book rows reached appends).0

  made_stays : (asked : Command) → made_by (appended book rows) n asked ≡ made_by book n asked
  made_stays (Command.Unit unit) = rw acts_stay refl
  made_stays (Command.Apply apply) = rw acts_stay refl
  made_stays (Command.Close close) = rw (filter_earlier (λ (line : Line). line.act) n rows.act.n book.lines rows.lines after batch.lines) refl
  made_stays _ =
      let its : All (λ r. r.act ≡ rows.act.n) (option_to_list rows.made) = All-IfSome (λ r. r.act ≡ rows.act.n) rows.made batch.made in
      rw (find_earlier (λ (r : Record). r.act) n rows.act.n book.records (option_to_list rows.made) after its) refl

-- the number of an act is at most the number of acts
pub numbered_there : (rows : List ActRow) → AreActs rows → (row : ActRow) → Contains rows row → row.n ≤ length rows
numbered_there rows are row (k, within, same) = omega (arith, within, rw same at (are.numbers k row within))

reply_stays : (capacity : Capacity) (book : Book) (rows : Batch) → IsReached capacity book → IsAppended capacity book rows →
    (row : ActRow) → Contains book.acts row → done_of (appended book rows) row ≡ done_of book row
reply_stays capacity book rows reached appends row there =
    λ i. record { act = row.n; day = row.day; made = option_map_or (λ asked. stays asked i) (command_in row.body) Made.Nothing }
  where
    stays : (asked : Command) → made_by (appended book rows) row.n asked ≡ made_by book row.n asked
    stays = made_stays capacity book rows reached appends row.n (numbered_there book.acts (books_are_kept capacity book reached).acts row there)

pub reached_later : (capacity : Capacity) (book later : Book) → IsReached capacity book → IsLater capacity book later → IsReached capacity later
reached_later capacity book _ reached later_same = reached
reached_later capacity book _ reached (later_more {later} {rows} is appends) = reached_more (reached_later capacity book later reached is) appends

pub still_there : (capacity : Capacity) (book later : Book) → IsLater capacity book later → (row : ActRow) → Contains book.acts row → Contains later.acts row
still_there capacity book _ later_same row there = there
still_there capacity book _ (later_more {later} {rows} is appends) row there =
    Contains-append_left later.acts (rows.act ∷ []) row (still_there capacity book later is row there)

pub replies_stay : RepliesStay
replies_stay capacity book _ reached later_same row there = refl
replies_stay capacity book _ reached (later_more {later} {rows} is appends) row there =
    reply_stays capacity later rows (reached_later capacity book later reached is) appends row (still_there capacity book later is row there)
    ∙ replies_stay capacity book later reached is row there

-- ---- repeats

repeat_found : (rows : List ActRow) → AreActs rows → (row : ActRow) → Contains rows row → (call : Call) → IsOf call row →
    repeated rows call.clerk call.request (body_of call.command) ≡ Some row
repeat_found rows are row (k, within, same) call is =
    find_first (λ row. is_request_of call.clerk call.request row && bytes_eq row.body (body_of call.command)) rows k row within
    (rw same (grind (arith, common_steps, nat_tests, is.clerk, is.request, (bytes_decides row.body (body_of call.command)).1 is.body)))
    (λ i before. grind (arith, common_steps, nat_tests, same, is.clerk, is.request, are.once i k row before within))
    ∙ ap (λ (row : ActRow). Some row) same

pub repeats_are_answered : RepeatsAreAnswered
repeats_are_answered capacity book reached row there call is session clock =
    rw (repeat_found book.acts (books_are_kept capacity book reached).acts row there call is) refl

pub first_replies_are_given_again : FirstRepliesAreGivenAgain
first_replies_are_given_again capacity book rows reached appends later is session clock =
    let own : Accepted capacity book appends.call rows = accepted capacity book rows appends in
    let now : IsReached capacity (appended book rows) = reached_more reached appends in
    let there : Contains later.acts rows.act = still_there capacity (appended book rows) later is rows.act (Contains-push book.acts rows.act) in
    repeats_are_answered capacity later (reached_later capacity (appended book rows) later now is) rows.act there appends.call
    (record { clerk = own.clerk; request = own.request; body = own.body }) session clock
    ∙ ap (λ (done : Done). again done) (replies_stay capacity (appended book rows) later now is rows.act (Contains-push book.acts rows.act))
