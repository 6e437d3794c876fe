-- An office accepts acts one after another where what it knows allows each, and comes to the book with them.
use Rattle.std.proofs.Common.{◌≡◌, ◌∙◌, ap, refl, subst, ℕ, ◌+◌, ◌<◌, ◌≤◌, arith, Bool, true, false, not, ◌&&◌, nat_le, nat_lt, List, [], ◌∷◌, ◌++◌, Option, None, length, bytes_eq}
use Rattle.std.specs.Prelude.{All}
use Rattle.std.specs.Option.{option_map, option_map_or}
use Rattle.std.proofs.lemmas.{Bool.Decides.nat_tests, Bool.le-leb, Bool.and_parts, Bool.leb-true, Bool.ltb-true, Grind.common_steps, List.length-append}
use Rattle.std.proofs.lemmas.List.Elements.{All-nil, All-push, All-weaker}
use Rattle.list_laws.proofs.Finds.{find_fails}
use Rattle.days_core.specs.OfficeDays.{first_office_day, last_office_day}
use Rattle.book_rows.specs.{declared.command.Command.Command, declared.rows.ActRow.ActRow, declared.rows.Batch.Batch, Book.Book, Book.empty_book, Book.is_request_of, Fit.is_fit, Fit.is_within}
use Rattle.command_forms.specs.{Holdable.IsHoldable, Commands.body_of}
use Rattle.command_forms.proofs.CommandAgain.{body_again}
use Rattle.office_step.specs.{declared.call.Call.Call, declared.call.Capacity.Capacity, declared.refusal.Refusal.Refusal, declared.reply.Made.Made, Known.Known, Known.known_of, Made.record_of, Made.lines_of, Against.refused_by, Against.tests_of, Reply.done_of}
use Rattle.office_step.specs.Refusals.{repeated, request_reused, lines_full}
use Rattle.office_step.specs.Step.{IsReached, IsAppended, reached_empty, reached_more, last_act_day, act_day, refusal_of, rows_for, first_step, step, again, refused, appends, is_fit_call}
use Rattle.office_step.proofs.Passed.{first_of-around}
use Rattle.office_laws.specs.{After.KnownAfter, AtHand.NewReplies, AtHand.made_now}
unfoldable use Rattle.manual_acts.specs.Taken.{batch_of, AreTaken}
use Rattle.manual_acts.specs.Taken.{Told, HasRoom, IsTaken, Takes, call_of, next_number, with_act, with_acts}
use Rattle.manual_acts.proofs.Goes.{Past, past, past_then, Goes, is_ready, reply_by, known_then}
use Rattle.manual_acts.proofs.Tests.{none_stands}
use Rattle.office_step.specs.Matter.{matter_of}

-- ---- what allows an act

-- by what is known, after that past, the act is fit, new, refused by nothing, and makes what is told
pub record IsAllowed (capacity : Capacity) (known : Known) (before : Past) (told : Told) : Type 0 where
  pub fit : is_fit told.asked ≡ true
  pub holdable : IsHoldable told.asked
  pub later : before.day ≤ told.day
  pub from_first : first_office_day ≤ told.day
  pub to_last : told.day ≤ last_office_day
  pub new : before.request < told.request
  pub free : refused_by known capacity.acts told.day told.asked ≡ None
  pub made : record_of known told.asked ≡ told.made
  pub lines : lines_of known told.asked ≡ told.lines
  pub room : before.held + length told.lines ≤ capacity.lines
  pub reply : reply_by known told.made told.lines told.asked ≡ told.reply

-- what makes it ready
record IsReady (known : Known) (before : Past) (told : Told) : Type 0 where
  fit : is_fit told.asked ≡ true
  later : before.day ≤ told.day
  from_first : first_office_day ≤ told.day
  to_last : told.day ≤ last_office_day
  new : before.request < told.request
  act_room : known.count < 27
  room : before.held + length told.lines ≤ 29

made_ready : (known : Known) (before : Past) (told : Told) → is_ready known before told ≡ true → IsReady known before told
made_ready known before told ready =
    let first = and_parts (is_fit told.asked) _ ready in
    let second = and_parts (is_within first_office_day last_office_day told.day) _ first.1 in
    let within = and_parts (nat_le first_office_day told.day) _ second.0 in
    let third = and_parts (nat_le before.day told.day) _ second.1 in
    let fourth = and_parts (nat_lt before.request told.request) _ third.1 in
    let fifth = and_parts (nat_lt known.count 27) _ fourth.1 in
    record {
      fit = first.0;
      later = leb-true before.day told.day third.0;
      from_first = leb-true first_office_day told.day within.0;
      to_last = leb-true told.day last_office_day within.1;
      new = ltb-true before.request told.request fourth.0;
      act_room = ltb-true known.count 27 fifth.0;
      room = leb-true (before.held + length told.lines) 29 fifth.1;
    }

-- what goes by what is known is allowed by any office with room
pub allowed : (capacity : Capacity) (known : Known) (before : Past) (told : Told) → HasRoom capacity →
    Goes known before told → IsAllowed capacity known before told
allowed capacity known before told has_room goes =
    let ready : IsReady known before told = made_ready known before told goes.ready in
    record {
      fit = ready.fit;
      holdable = goes.holdable;
      later = ready.later;
      from_first = ready.from_first;
      to_last = ready.to_last;
      new = ready.new;
      free = none_stands capacity.acts told.day (matter_of known told.asked) told.made goes.made (omega (arith, has_room.acts)) goes.passes;
      made = goes.made;
      lines = goes.lines;
      room = omega (arith, has_room.lines);
      reply = goes.reply;
    }

-- each of them is, after those before it
pub data AreAllowed (capacity : Capacity) : Known → Past → List Told → Type 0 where
  none_more : {known : Known} {before : Past} → AreAllowed capacity known before []
  one_more : {known : Known} {before : Past} {told : Told} {more : List Told} → IsAllowed capacity known before told →
      AreAllowed capacity (known_then known told) (past_then before told) more → AreAllowed capacity known before (told ∷ more)

-- ---- what stands of a book

record Stands (capacity : Capacity) (book : Book) (known : Known) (before : Past) : Type 0 where
  reached : IsReached capacity book
  known_is : known_of book ≡ known
  held_is : length book.lines ≡ before.held
  last_is : last_act_day book.acts ≡ before.day
  requests : All (λ row. row.request ≤ before.request) book.acts

-- ---- one act more

last_day_push : (rows : List ActRow) (row : ActRow) → last_act_day (rows ++ row ∷ []) ≡ row.day
last_day_push [] row = refl
last_day_push (first ∷ []) row = refl
last_day_push (first ∷ next ∷ rows) row = last_day_push (next ∷ rows) row

other_request : (clerk request most : ℕ) (row : ActRow) (test : Bool) → row.request ≤ most → most < request → (is_request_of clerk request row && test) ≡ false
other_request clerk request most row test before new = grind (arith, nat_tests, common_steps)

module _ (rows : List ActRow) (clerk request most : ℕ) (body : List ℕ) (before : All (λ row. row.request ≤ most) rows) (new : most < request) where
  not_repeated : repeated rows clerk request body ≡ None
  not_repeated =
      find_fails (λ (row : ActRow). is_request_of clerk request row && bytes_eq row.body body) rows
      (All-weaker (λ (row : ActRow). row.request ≤ most) (λ row. (is_request_of clerk request row && bytes_eq row.body body) ≡ false)
      (λ row at. other_request clerk request most row (bytes_eq row.body body) at new) rows before)

  not_reused : request_reused rows clerk request body ≡ None
  not_reused =
      ap (option_map (λ (row : ActRow). Refusal.RequestReused row.n))
      (find_fails (λ (row : ActRow). is_request_of clerk request row && not (bytes_eq row.body body)) rows
      (All-weaker (λ (row : ActRow). row.request ≤ most) (λ row. (is_request_of clerk request row && not (bytes_eq row.body body)) ≡ false)
      (λ row at. other_request clerk request most row (not (bytes_eq row.body body)) at new) rows before))

its_day : (last day : ℕ) → last ≤ day → first_office_day ≤ day → day ≤ last_office_day → (rows : List ActRow) → last_act_day rows ≡ last →
    act_day rows day ≡ day
its_day last day later from to rows is = rw is (omega arith)

fits : (held more most : ℕ) → held + more ≤ most → lines_full held more most ≡ None
fits held more most room = grind (arith, nat_tests)

-- what a new act made, by its rows
made_by_rows : (known : Known) (rows : Batch) (asked : Command) → made_now known rows asked ≡ reply_by known rows.made rows.lines asked
made_by_rows known rows (Command.Unit unit) = refl
made_by_rows known rows (Command.Apply apply) = refl
made_by_rows known rows (Command.Close close) = refl
made_by_rows known rows asked = refl

module _ (after : KnownAfter) (replies : NewReplies) (capacity : Capacity) (book : Book) (before : Past) (told : Told)
    (stands : Stands capacity book (known_of book) before) (allowed : IsAllowed capacity (known_of book) before told) where
  abbrev n : ℕ
  n = next_number book

  abbrev call : Call
  call = call_of told

  fit_call : is_fit_call call ≡ true
  fit_call = let new = allowed.new in rw (le-leb 1 told.request (omega arith), allowed.fit) refl

  on_its_day : act_day book.acts told.day ≡ told.day
  on_its_day = its_day before.day told.day allowed.later allowed.from_first allowed.to_last book.acts stands.last_is

  has_room : lines_full (length book.lines) (length (lines_of (known_of book) told.asked)) capacity.lines ≡ None
  has_room =
      fits (length book.lines) (length (lines_of (known_of book) told.asked)) capacity.lines
      (rw (stands.held_is, allowed.lines) allowed.room)

  not_refused : refusal_of book capacity told.day call ≡ None
  not_refused =
      first_of-around _ (tests_of (known_of book) capacity.acts told.day told.asked) _
      ∙ rw (not_reused book.acts 1 told.request before.request (body_of told.asked) stands.requests allowed.new, allowed.free, has_room) refl

  its_rows : rows_for book 1 told.day call ≡ batch_of n told
  unfolding batch_of
  its_rows = rw (allowed.made, allowed.lines) refl

  stepped : step book capacity 1 told.day call ≡ appends (batch_of n told)
  stepped =
      ap (λ (found : Option ActRow). option_map_or (λ row. again (done_of book row)) found (first_step book capacity 1 (act_day book.acts told.day) call))
      (not_repeated book.acts 1 told.request before.request (body_of told.asked) stands.requests allowed.new)
      ∙ ap (λ (day : ℕ). first_step book capacity 1 day call) on_its_day
      ∙ ap (λ (against : Option Refusal). option_map_or refused against (appends (rows_for book 1 told.day call))) not_refused
      ∙ ap appends its_rows

  appended_so : IsAppended capacity book (batch_of n told)
  unfolding batch_of
  appended_so = record {
    call = call;
    fit = fit_call;
    read = body_again told.asked allowed.fit allowed.holdable;
    same = stepped;
  }

  taken : IsTaken capacity book n told
  unfolding batch_of appended_so
  taken = record {
    accepted = stepped;
    answered =
        replies capacity book (batch_of n told) stands.reached appended_so
        ∙ ap (λ (made : Made). record { act = n; day = told.day; made = made }) (made_by_rows (known_of book) (batch_of n told) told.asked ∙ allowed.reply);
  }

  stands_more : Stands capacity (with_act book told) (known_then (known_of book) told) (past_then before told)
  unfolding batch_of appended_so
  stands_more =
      let new = allowed.new in
      record {
        reached = reached_more stands.reached appended_so;
        known_is = after capacity book (batch_of n told) stands.reached appended_so;
        held_is = length-append book.lines told.lines ∙ ap (λ (k : ℕ). k + length told.lines) stands.held_is;
        last_is = last_day_push book.acts (batch_of n told).act;
        requests =
            All-push (λ (row : ActRow). row.request ≤ told.request) book.acts (batch_of n told).act
            (All-weaker (λ (row : ActRow). row.request ≤ before.request) (λ row. row.request ≤ told.request) (λ row at. omega arith) book.acts stands.requests)
            (omega arith);
      }

-- ---- all of them

-- from a book on
record TakesFrom (capacity : Capacity) (book : Book) (acts : List Told) : Type 0 where
  taken : AreTaken capacity book acts
  reached : IsReached capacity (with_acts book acts)

module _ (after : KnownAfter) (replies : NewReplies) (capacity : Capacity) where
  takes : (book : Book) (known : Known) (before : Past) (acts : List Told) → Stands capacity book known before →
      AreAllowed capacity known before acts → TakesFrom capacity book acts
  unfolding AreTaken
  takes book known before [] stands none_more = record { taken = tt; reached = stands.reached }
  takes book known before (told ∷ more) stands (one_more first rest) =
      let at_book : Stands capacity book (known_of book) before =
      record { reached = stands.reached; known_is = refl; held_is = stands.held_is; last_is = stands.last_is; requests = stands.requests } in
      let allows : IsAllowed capacity (known_of book) before told = rw (← stands.known_is) at first in
      let then : Stands capacity (with_act book told) (known_then known told) (past_then before told) =
      subst (λ (k : Known). Stands capacity (with_act book told) (known_then k told) (past_then before told))
      stands.known_is (stands_more after replies capacity book before told at_book allows) in
      let later = takes (with_act book told) (known_then known told) (past_then before told) more then rest in
      record { taken = (taken after replies capacity book before told at_book allows, later.taken); reached = later.reached }

  pub takes_all : (acts : List Told) → AreAllowed capacity (known_of empty_book) (past 0 0 0) acts → Takes capacity acts
  takes_all acts allowed =
      let all = takes empty_book (known_of empty_book) (past 0 0 0) acts
      (record { reached = reached_empty; known_is = refl; held_is = refl; last_is = refl; requests = All-nil (λ (row : ActRow). row.request ≤ 0) }) allowed in
      record { taken = all.taken; reached = all.reached }
