-- The sessions of one desk, by one history: each reply is the one that the office of one clerk gives at a point of it.
use Rattle.std.specs.Prelude.{◌≡◌, ◌≤◌, ◌⊎◌, ◌+◌, ℕ, Option, Result, Ok, Err, List, [], ◌∷◌, ◌++◌, length, take, IfSome}
use mathlib.Core.List.{IsPrefix}
use Rattle.book_rows.specs.{declared.rows.ActRow.ActRow, declared.rows.Batch.Batch, Book.Book}
use Rattle.questions.specs.declared.question.Question.{Question}
use Rattle.clerk_desk.specs.Below.{office_answers.Answering.answer_to, office_answers.declared.reply.Reply.Reply as OfficeReply, office_step.declared.call.Call.Call, office_step.Step.Outcome, office_step.Step.appends, office_step.Step.step}
use Rattle.clerk_desk.specs.Serving.{reply_of as reply_of_office}
use Rattle.desk_history.specs.{declared.views.PassView.PassView, declared.views.Start.Start, Seen.entries_of, Seen.point_of}
use Rattle.json_front.specs.Calls.{call_from}
use Rattle.http_messages.specs.declared.message.Message.{Message}
use Rattle.http_responses.specs.declared.{body.Reply.Reply, refusal.Refusal.Refusal}
use Rattle.http_routes.specs.{Asks.name_of, declared.routed.Routed.Routed}
use Rattle.http_session.specs.{Completeness.Completes, Sessions.Ends, declared.end.SessionEnd.SessionEnd}
use Rattle.shared_desk.specs.{Deciding.IsReplied, History.IsLegalHistory, History.capacity_of, History.tables_at}
use Rattle.http_front.specs.{Passes.AnswersPass, Passes.IsToldAs, Passes.reply_of, Told.IsLed, Told.IsSaid, Told.bad_form, Told.refused, Told.said_of_answer, declared.draft.ReplyDraft.ReplyDraft, declared.draft.NoReply.NoReply}

-- ---- a history behind its first so many rows

-- the point there
abbrev pub point_behind : Start → ℕ → ℕ
point_behind start count = length start.opening.acts + count

-- the tables of the office there
abbrev pub tables_behind : Start → List ActRow → ℕ → Book
tables_behind start history count = tables_at start (take count history)

-- what the office does there with a call of a session
abbrev pub step_behind : Start → List ActRow → ℕ → ℕ → ℕ → Call → Outcome
step_behind start history count number clock call = step (tables_behind start history count) (capacity_of start) number clock call

-- the acts of a session there
abbrev pub acts_behind : List ActRow → ℕ → ℕ → List ActRow
acts_behind history count number = entries_of number (take count history)

-- ---- what a session of that number is told behind `count` rows; its reply before stands behind `before` of them

module _ (start : Start) (history : List ActRow) (number before count : ℕ) where
  -- The call was booked. Its act is the last of these rows, and the session's one further act. Behind the rows before it the
  -- office appends exactly its rows, and the reply is the one that it then gives.
  pub record IsBookedAt (clock : ℕ) (call : Call) (reply : OfficeReply) : Type 0 where
    pub rows : Batch
    pub earlier : ℕ
    pub next : count ≡ earlier + 1
    pub last : take count history ≡ take earlier history ++ rows.act ∷ []
    pub appends_them : step_behind start history earlier number clock call ≡ appends rows
    pub replied : reply ≡ reply_of_office (tables_behind start history earlier) (appends rows)
    pub point : rows.act.n ≡ point_behind start count
    pub session : rows.act.session ≡ number
    pub own : acts_behind history count number ≡ acts_behind history before number ++ rows.act ∷ []

  -- The call was not booked, and the session has no further act. The reply is the one that the office gives there, where it
  -- appends nothing; or the keeper failed or memory ran out.
  pub record IsUnbookedAt (clock : ℕ) (call : Call) (reply : OfficeReply) : Type 0 where
    pub replied : IsReplied (step_behind start history count number clock call) reply
    pub own : acts_behind history count number ≡ acts_behind history before number

  -- a call, on a day that the clock may show; whether the keeper failed is no matter of the history
  pub record SaysCallAt (shows : ℕ → Type 0) (call : Call) (said : Result ReplyDraft NoReply) : Type 0 where
    pub day : ℕ
    pub shown : shows day
    pub reply : OfficeReply
    pub called : IsBookedAt day call reply ⊎ IsUnbookedAt day call reply
    pub told : IsToldAs reply said

  -- a question: the answer is the one there, and the session has no further act
  pub record SaysAnswerAt (question : Question) (said : Result ReplyDraft NoReply) : Type 0 where
    pub own : acts_behind history count number ≡ acts_behind history before number
    pub told : IsSaid (said_of_answer (answer_to (tables_behind start history count) question)) said

  -- what the office isn't asked for, at the point of the reply before
  abbrev pub SaysAloneAt : ReplyDraft → Result ReplyDraft NoReply → Type 0
  SaysAloneAt right said = (count ≡ before) × IsSaid right said

  -- the call that a body is read as, unless memory ran out before the office was asked
  abbrev pub SaysBodyAt : (ℕ → Type 0) → Result Call (List ℕ) → Result ReplyDraft NoReply → Type 0
  SaysBodyAt shows (Ok call) said = SaysCallAt shows call said ⊎ ((count ≡ before) × (said ≡ Err NoReply.NoMemory))
  SaysBodyAt shows (Err path) said = SaysAloneAt (bad_form path) said

  -- by where a message leads, and its body
  abbrev pub SaysAt : (ℕ → Type 0) → List ℕ → Routed → Result ReplyDraft NoReply → Type 0
  SaysAt shows body Routed.Act said = SaysBodyAt shows (call_from body) said
  SaysAt shows body (Routed.Question question) said = SaysAnswerAt question said
  SaysAt shows body (Routed.BadPart part) said = SaysAloneAt (bad_form (name_of part)) said
  SaysAt shows body Routed.NoRoute said = (count ≡ before) × (said ≡ Ok (refused Refusal.NoRoute))
  SaysAt shows body Routed.NoMethod said = (count ≡ before) × (said ≡ Ok (refused Refusal.NoMethod))

-- The reply to a message of a session: what the office of one clerk says behind `count` rows of the history, at the point
-- there. They are no fewer than those behind which the session's reply before stands.
pub record IsReplyAt (shows : ℕ → Type 0) (start : Start) (history : List ActRow) (number before : ℕ) (message : Message) (reply : Reply) (count : ℕ) : Type 0 where
  pub rises : before ≤ count
  pub within : count ≤ length history
  pub legal : IsLegalHistory start (take count history)
  pub routed : Routed
  pub led : IsLed message routed
  pub said : Result ReplyDraft NoReply
  pub says : SaysAt start history number before count shows message.body routed said
  pub reply_is : reply ≡ reply_of said (point_behind start count)

-- ---- sessions

-- what the source of a session had left and its sink held, before and after it, and how it ended
pub record Exchange : Type 0 where
  pub left : Option (List ℕ)
  pub left_now : Option (List ℕ)
  pub held : Option (List ℕ)
  pub held_now : Option (List ℕ)
  pub end : SessionEnd

module _ {D : Type 0} (answers : D → Message → Reply → D → Type 0) (point : D → ℕ) where
  -- a session of replies that are such, where there always is one
  pub record Exchanges (desk desk_now : D) (exchange : Exchange) : Type 0 where
    pub ends : Ends answers (λ was message now. ⊥) point desk desk_now exchange.left exchange.left_now exchange.held exchange.held_now exchange.end
    pub complete : IfSome exchange.left (λ input. Completes answers point desk desk_now exchange.held exchange.held_now input exchange.end)

-- a session by a pass of a desk
abbrev pub ByPass : (ℕ → Type 0) → PassView → PassView → Exchange → Type 0
ByPass shows pass pass_now exchange = Exchanges (AnswersPass shows) point_of pass pass_now exchange

-- the session's replies are those at points of the history, from behind what the pass knew of it at first to behind what it
-- knows at last
abbrev pub ByHistory : (ℕ → Type 0) → Start → List ActRow → PassView → PassView → Exchange → Type 0
ByHistory shows start history pass pass_now exchange =
    Exchanges (IsReplyAt shows start history pass_now.number) (point_behind start) (length pass.list) (length pass_now.list) exchange

-- what a pass of a desk with that start knows is the beginning of the history
pub record KnowsBeginning (start : Start) (history : List ActRow) (pass : PassView) : Type 0 where
  pub start_is : pass.start ≡ start
  pub front : IsPrefix pass.list history

-- what two passes of a desk know are beginnings of one legal history
pub record AreOfOneHistory (start : Start) (history : List ActRow) (first other : PassView) : Type 0 where
  pub legal : IsLegalHistory start history
  pub first_begins : KnowsBeginning start history first
  pub other_begins : KnowsBeginning start history other

-- ---- law

-- Two sessions, each by a clock and by a pass. Where what the two passes know at last are beginnings of one history, both gave
-- the replies of one clerk's office at points of it.
abbrev pub SessionsShareAHistory : {Clock : Type 0} → (Clock → ℕ → Type 0) → Type 0
SessionsShareAHistory {Clock} may_show = (start : Start) (history : List ActRow)
    (clock other_clock : Clock) (first first_now other other_now : PassView) (exchange other_exchange : Exchange) →
    ByPass (may_show clock) first first_now exchange → ByPass (may_show other_clock) other other_now other_exchange →
    AreOfOneHistory start history first_now other_now →
    ByHistory (may_show clock) start history first first_now exchange × ByHistory (may_show other_clock) start history other other_now other_exchange
