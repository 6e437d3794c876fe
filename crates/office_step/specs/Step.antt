-- What the office of one clerk does with a call: a repeat, the first refusal that stands, or the rows that it appends.
use Rattle.std.specs.Prelude.{ℕ, ◌+◌, ◌++◌, ◌≡◌, ◌&&◌, nat_le, max, min, Bool, true, Option, Some, List, [], ◌∷◌, length}
use Rattle.std.specs.Option.{option_map_or}
use Rattle.book_rows.specs.{declared.rows.ActRow.ActRow, declared.rows.Batch.Batch, Fit.is_within, Fit.is_fit, Book.Book, Book.empty_book, Book.appended}
use Rattle.command_forms.specs.Commands.{command_in, body_of}
use Rattle.days_core.specs.OfficeDays.{first_office_day, last_office_day}
use Rattle.office_step.specs.{declared.call.Call.Call, declared.call.Capacity.Capacity, declared.refusal.Refusal.Refusal, declared.reply.Done.Done, Known.known_of, Made.record_of, Made.lines_of, Against.tests_of, Reply.done_of}
use Rattle.office_step.specs.Refusals.{first_of, repeated, request_reused, lines_full}

-- ---- days

-- the day of the last act, and 0 where there is none
abbrev pub last_act_day : List ActRow → ℕ
last_act_day [] = 0
last_act_day (row ∷ []) = row.day
last_act_day (row ∷ next ∷ rows) = last_act_day (next ∷ rows)

-- the clock's day, put into 2000-01-01 to 2099-12-31, or the last act's where that is later
abbrev pub day_after : ℕ → ℕ → ℕ
day_after last clock = max (min (max clock first_office_day) last_office_day) last

-- the day of the next act
abbrev pub act_day : List ActRow → ℕ → ℕ
act_day rows clock = day_after (last_act_day rows) clock

-- ---- the refusal of a call

-- every test, in the one order: the request goes first, and the room for lines comes last
abbrev pub all_tests : Book → Capacity → ℕ → Call → List (Option Refusal)
all_tests book capacity today call =
    request_reused book.acts call.clerk call.request (body_of call.command)
    ∷ (tests_of (known_of book) capacity.acts today call.command
    ++ lines_full (length book.lines) (length (lines_of (known_of book) call.command)) capacity.lines ∷ [])

-- the refusal is the first that stands
abbrev pub refusal_of : Book → Capacity → ℕ → Call → Option Refusal
refusal_of book capacity today call = first_of (all_tests book capacity today call)

-- ---- the step

-- the rows that the call appends
abbrev pub rows_for : Book → ℕ → ℕ → Call → Batch
rows_for book session today call = record {
  act = record { n = length book.acts + 1; session = session; clerk = call.clerk; request = call.request; day = today; body = body_of call.command };
  made = record_of (known_of book) call.command;
  lines = lines_of (known_of book) call.command;
}

-- what the office does: it gives the reply of an act again, refuses, or appends rows
pub data Outcome : Type 0 where
  again : Done → Outcome
  refused : Refusal → Outcome
  appends : Batch → Outcome

-- what it does on that day with a call that is no repeat: it refuses where a refusal stands
abbrev pub first_step : Book → Capacity → ℕ → ℕ → Call → Outcome
first_step book capacity session today call = option_map_or refused (refusal_of book capacity today call) (appends (rows_for book session today call))

-- what the office does with the call in the session, while the clock shows the day
abbrev pub step : Book → Capacity → ℕ → ℕ → Call → Outcome
step book capacity session clock call =
    option_map_or (λ row. again (done_of book row)) (repeated book.acts call.clerk call.request (body_of call.command))
    (first_step book capacity session (act_day book.acts clock) call)

-- ---- what an office can hold

-- a call by a clerk and request of the right range, whose command is fit
abbrev pub is_fit_call : Call → Bool
is_fit_call call = is_within 1 9999 call.clerk && (nat_le 1 call.request && is_fit call.command)

-- for the row's own session, day and call the office appends exactly these rows
pub record IsAppended (capacity : Capacity) (book : Book) (rows : Batch) : Type 0 where
  pub call : Call
  pub fit : is_fit_call call ≡ true
  pub read : command_in rows.act.body ≡ Some call.command
  pub same : step book capacity rows.act.session rows.act.day call ≡ appends rows

-- a book that an office of that capacity comes to, act by act from nothing
pub data IsReached (capacity : Capacity) : Book → Type 0 where
  reached_empty : IsReached capacity empty_book
  reached_more : {book : Book} {rows : Batch} → IsReached capacity book → IsAppended capacity book rows → IsReached capacity (appended book rows)
