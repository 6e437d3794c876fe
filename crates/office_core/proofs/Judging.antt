-- What the office does with a call, by what was found of it.
use Rattle.std.proofs.Common.{subst, ◌≡◌, ◌∙◌, ℕ, ◌+◌, [], ◌∷◌, length, Option, Some, None, Ok, Err, sym, refl}
use Rattle.std.specs.Option.{option_map_or}
use Rattle.std.specs.Prelude.{Bool, true, false, find, bytes_eq}
use Rattle.record_history.specs.declared.records.Record.{Record}
use Rattle.book_rows.specs.{declared.rows.ActRow.ActRow, declared.rows.Batch.Batch, Book.Book}
use Rattle.book_replay.specs.Below.command_forms.Commands.{command_in, body_of}
use Rattle.office_answers.specs.Below.office_step.{declared.call.Call.Call, declared.call.Capacity.Capacity, declared.refusal.Refusal.Refusal, declared.reply.Done.Done, Acts.name_given, Known.Known, Known.known_of, Made.record_of, Made.lines_of, Reply.done_of, Against.refused_by}
use Rattle.office_answers.specs.Below.office_step.Refusals.{first_of, is_request_of, repeated, request_reused, lines_full}
use Rattle.office_answers.specs.Below.office_step.Step.{last_act_day, day_after, again, refused, appends, step, act_day, is_fit_call, IsReached}
use Rattle.office_answers.proofs.Below.office_step.Passed.{first_of-around}
use Rattle.office_answers.specs.Below.office_step.Valid.{rows_in}
use Rattle.book_replay.specs.Below.office_laws.AtHand.{NewRequests, RepeatedRequests, ReusedRequests, NextDayStays}
use Rattle.office_acts.specs.Judged.{judged_by}
use Rattle.office_core.specs.{declared.drafting.BookLimits.BookLimits, declared.judged.Judgment.Judgment, Judged.Judges, Held.IsNewTo, Office.Holding, Planned.IsPlannedFor}

-- ---- what was judged

pub judged_err : (found : Option Refusal) (made : Option Record) (r : Refusal) → Err r ≡ judged_by found made → found ≡ Some r
judged_err None made r is = cc
judged_err (Some other) made r is = cc

pub judged_ok : (found : Option Refusal) (made given : Option Record) → Ok given ≡ judged_by found made → (found ≡ None) × (given ≡ made)
judged_ok None made given is = (refl, cc)
judged_ok (Some other) made given is = (cc, cc)

-- the office refuses, by the capacity that is at hand
pub refused_by_it : (book : Book) (session clock : ℕ) (call : Call) {capacity held : Capacity} (judgment : Judgment) (r : Refusal) → held ≡ capacity →
    judgment ≡ Judgment.Refused r → Judges (step book held session clock call) (Err judgment) → step book capacity session clock call ≡ refused r
refused_by_it book session clock call {held = held} judgment r same is judged =
    subst (λ (limit : Capacity). step book limit session clock call ≡ refused r) same
    (subst (λ (given : Judgment). Judges (step book held session clock call) (Err given)) is judged)

-- ---- no act is of the clerk and request

-- The call is new, what is known is what the book gives, and the day is that of the next act.
pub record IsTried (capacity : Capacity) (book : Book) (known : Known) (clock day : ℕ) (call : Call) : Type 0 where
  pub reached : IsReached capacity book
  pub is_new : (repeated book.acts call.clerk call.request (body_of call.command) ≡ None) × (request_reused book.acts call.clerk call.request (body_of call.command) ≡ None)
  pub known_is : known ≡ known_of book
  pub today : day ≡ act_day book.acts clock

pub new_call : {known : Known} {held : BookLimits} {book : Book} {clock day : ℕ} {call : Call} → IsNewTo known held call book → NewRequests →
    day ≡ day_after held.last clock → IsTried held.capacity book known clock day call
new_call {held = held} {book} {call = call} fresh law today = record {
  reached = fresh.reached;
  is_new = law held.capacity book fresh.reached call.clerk call.request (body_of call.command) fresh.is_new;
  known_is = fresh.known_is;
  today = rw (← fresh.last) today;
}

-- The office is seen twice, the same: as it is inside, and as its callers see it.
pub new_to : {inside now : Holding} {known : Known} {held : BookLimits} {call : Call} → inside ≡ now → IsReached inside.capacity inside.book →
    known ≡ known_of inside.book → held.capacity ≡ now.capacity → held.last ≡ last_act_day now.book.acts → held.lines ≡ length now.book.lines →
    find (is_request_of call.clerk call.request) now.book.acts ≡ None → IsNewTo known held call now.book
new_to same reached known capacity last lines none = record {
  reached = rw (capacity, ← same) reached;
  known_is = rw (← same) known;
  last = last;
  lines = lines;
  is_new = none;
}

-- the rows of the call, by what is known
abbrev pub rows_by : Known → ℕ → ℕ → Call → Batch
rows_by known session day call = record {
  act = record { n = known.count + 1; session = session; clerk = call.clerk; request = call.request; day = day; body = body_of call.command };
  made = record_of known call.command;
  lines = lines_of known call.command;
}

module _ {capacity : Capacity} {book : Book} {known : Known} {clock day : ℕ} {call : Call} (tried : IsTried capacity book known clock day call) (session : ℕ) where
  by_tests : step book capacity session clock call ≡
      option_map_or refused (first_of (refused_by known capacity.acts day call.command
      ∷ lines_full (length book.lines) (length (lines_of known call.command)) capacity.lines ∷ [])) (appends (rows_by known session day call))
  by_tests = rw (tried.known_is, tried.today, tried.is_new.0, first_of-around, tried.is_new.1) refl

  pub refused_for : (r : Refusal) → refused_by known capacity.acts day call.command ≡ Some r → step book capacity session clock call ≡ refused r
  refused_for r stands = by_tests ∙ rw stands refl

  -- no room for the lines
  pub full_for : (r : Refusal) → refused_by known capacity.acts day call.command ≡ None →
      lines_full (length book.lines) (length (lines_of known call.command)) capacity.lines ≡ Some r → step book capacity session clock call ≡ refused r
  full_for r free full = by_tests ∙ rw (free, full) refl

  pub appends_for : refused_by known capacity.acts day call.command ≡ None →
      lines_full (length book.lines) (length (lines_of known call.command)) capacity.lines ≡ None →
      step book capacity session clock call ≡ appends (rows_by known session day call)
  appends_for free room = by_tests ∙ rw (free, room) refl

-- the rows are planned for the office
pub planned_for : {capacity : Capacity} {book : Book} {known : Known} {clock day : ℕ} {call : Call} → IsTried capacity book known clock day call → (session : ℕ) → NextDayStays →
    is_fit_call call ≡ true → command_in (body_of call.command) ≡ Some call.command → refused_by known capacity.acts day call.command ≡ None →
    lines_full (length book.lines) (length (lines_of known call.command)) capacity.lines ≡ None →
    IsPlannedFor capacity book (record { rows = rows_by known session day call; asked = call.command; name = name_given known.applications call.command })
planned_for {capacity} {book} {known} {clock} {day} {call} tried session law fit reads free room = record {
  appends = record { call = call; fit = fit; read = reads; same = appends_for that_day session free room };
  asked = refl;
  name = rw tried.known_is refl;
}
  where
    -- the clock may as well show the act's day
    that_day : IsTried capacity book known day day call
    that_day = record {
      reached = tried.reached;
      is_new = tried.is_new;
      known_is = tried.known_is;
      today = rw tried.today (sym (law capacity book tried.reached clock));
    }

-- ---- an act of the clerk and request is there

module _ {inside now : Holding} (call : Call) (row : ActRow) (same : inside ≡ now) (reached : IsReached inside.capacity inside.book)
    (found : find (is_request_of call.clerk call.request) now.book.acts ≡ Some row) where
  pub again_in : (done : Done) → RepeatedRequests → bytes_eq row.body (body_of call.command) ≡ true → done ≡ done_of now.book row →
      (session clock : ℕ) → step now.book now.capacity session clock call ≡ again done
  again_in done law is replied session clock =
      rw (replied, ← same, law inside.capacity inside.book reached call.clerk call.request (body_of call.command) row (rw same found) is) refl

  pub reused_in : ReusedRequests → bytes_eq row.body (body_of call.command) ≡ false →
      (session clock : ℕ) → step now.book now.capacity session clock call ≡ refused (Refusal.RequestReused row.n)
  reused_in law other session clock =
      let both = law inside.capacity inside.book reached call.clerk call.request (body_of call.command) row (rw same found) other in
      rw (← same, both.0, both.1) refl

-- and no rows are appended for it
pub nothing_for : {capacity : Capacity} {book : Book} (call : Call) (row : ActRow) → IsReached capacity book →
    find (is_request_of call.clerk call.request) book.acts ≡ Some row → RepeatedRequests → ReusedRequests →
    (session clock : ℕ) → rows_in (step book capacity session clock call) ≡ None
nothing_for {capacity} {book} call row reached found repeats reuses session clock = by_text (bytes_eq row.body (body_of call.command)) refl
  where
    by_text : (same : Bool) → bytes_eq row.body (body_of call.command) ≡ same → rows_in (step book capacity session clock call) ≡ None
    by_text true is = rw (repeats capacity book reached call.clerk call.request (body_of call.command) row found is) refl
    by_text false is =
        let both = reuses capacity book reached call.clerk call.request (body_of call.command) row found is in
        rw (both.0, both.1) refl
