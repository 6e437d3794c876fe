-- What the sessions of passes that know beginnings of one history wrote, by that history.
use Rattle.std.proofs.Common.{◌≡◌, ◌⊎◌, ◌∙◌, ◌+◌, ℕ, arith, refl, inl, inr, sym, ap, subst, List, [], ◌∷◌, ◌++◌, length, append-nil, take}
use Rattle.std.specs.Prelude.{Result, Ok, Err}
use Rattle.std.proofs.lemmas.List.{length_push}
use Rattle.std.proofs.Math.Seq.{take-append_seam}
use mathlib.Core.List.{IsPrefix}
use Rattle.book_rows.specs.{declared.rows.ActRow.ActRow, declared.rows.Batch.Batch, Book.Book}
use Rattle.questions.specs.declared.question.Question.{Question}
use Rattle.clerk_desk.specs.Below.{office_answers.Answering.answer_to, office_answers.declared.reply.Reply.Reply as OfficeReply, office_step.declared.call.Call.Call, office_step.Step.Outcome, office_step.Step.appends, office_step.Step.step}
use Rattle.clerk_desk.specs.Serving.{reply_of as reply_of_office}
use Rattle.desk_history.proofs.Fronts.{prefix_length, prefix_more}
use Rattle.desk_history.specs.{declared.views.PassView.PassView, declared.views.Start.Start, Laws.GoesOn, Seen.entries_of, Seen.point_of}
use Rattle.json_front.specs.Calls.{call_from}
use Rattle.http_messages.specs.declared.message.Message.{Message}
use Rattle.http_responses.specs.declared.body.Reply.{Reply}
use Rattle.http_routes.specs.declared.routed.Routed.{Routed}
use Rattle.shared_desk.specs.{Calls.Further, Calls.IsBooked, Calls.IsCalled, Calls.IsUnbooked, Deciding.IsReplied, History.HistoriesWereLegal, History.IsLegalHistory, History.capacity_of, History.tables_at}
use Rattle.http_front.proofs.Seen.{seen_ends, seen_told}
use Rattle.http_front.specs.{Passes.AnswersPass, Passes.SaysBody, Passes.SaysTo, Passes.reply_of, Told.IsSaid, Told.said_of_answer, declared.draft.ReplyDraft.ReplyDraft, declared.draft.NoReply.NoReply}
use Rattle.http_front.specs.Together.{point_behind, tables_behind, step_behind, acts_behind, IsBookedAt, IsUnbookedAt, SaysAt, SaysBodyAt, IsReplyAt, Exchange, ByPass, ByHistory, SessionsShareAHistory}

-- ---- a pass goes on from each reply to the next

body_further : (shows : ℕ → Type 0) (read : Result Call (List ℕ)) (old new : PassView) (said : Result ReplyDraft NoReply) → SaysBody shows read old new said → Further old new
body_further shows (Ok call) old new said (inl says) = inr says.goes_on
body_further shows (Ok call) old new said (inr (same, silent)) = inl same
body_further shows (Err path) old new said (same, right) = inl same

says_further : (shows : ℕ → Type 0) (body : List ℕ) (routed : Routed) (old new : PassView) (said : Result ReplyDraft NoReply) → SaysTo shows body routed old new said → Further old new
says_further shows body Routed.Act old new said says = body_further shows (call_from body) old new said says
says_further shows body (Routed.Question question) old new said says = inr ([], [], says.goes_on)
says_further shows body (Routed.BadPart part) old new said (same, right) = inl same
says_further shows body Routed.NoRoute old new said (same, right) = inl same
says_further shows body Routed.NoMethod old new said (same, right) = inl same

-- ---- beginnings of a history

begins_with : (early late all : List ActRow) → IsPrefix early late → IsPrefix late all → IsPrefix early all
begins_with early late all first then = subst (λ (rows : List ActRow). IsPrefix early rows) then.1 (prefix_more early late then.0 first)

-- a beginning is the first so many rows
is_taken : (early all : List ActRow) → IsPrefix early all → early ≡ take (length early) all
is_taken early all begins = sym (take-append_seam early begins.0) ∙ ap (λ (rows : List ActRow). take (length early) rows) begins.1

module _ (were : HistoriesWereLegal) (start : Start) (history : List ActRow) (legal : IsLegalHistory start history) (number : ℕ) where
  -- a pass with that start and number knows a beginning of the history
  record Knows (pass : PassView) : Type 0 where
    start_is : pass.start ≡ start
    number_is : pass.number ≡ number
    front : IsPrefix pass.list history

  knew : (old new : PassView) → Further old new → Knows new → Knows old
  knew old new (inl same) knows = subst Knows same knows
  knew old new (inr (booked, tries, on)) knows = record {
    start_is = sym on.start ∙ knows.start_is;
    number_is = sym on.number ∙ knows.number_is;
    front = begins_with old.list new.list history on.front knows.front;
  }

  -- ---- what is seen behind the rows that a pass knows

  point_is : (pass : PassView) → Knows pass → point_of pass ≡ point_behind start (length pass.list)
  point_is pass knows = ap (λ (s : Start). point_behind s (length pass.list)) knows.start_is

  acts_are : (pass : PassView) → Knows pass → entries_of pass.number pass.list ≡ acts_behind history (length pass.list) number
  acts_are pass knows =
      let list = is_taken pass.list history knows.front in
      λ i. entries_of (knows.number_is i) (list i)

  legal_there : (pass : PassView) → Knows pass → IsLegalHistory start (take (length pass.list) history)
  legal_there pass knows =
      subst (λ (rows : List ActRow). IsLegalHistory start rows) (is_taken pass.list history knows.front)
      (were start pass.list knows.front.0 (subst (λ (rows : List ActRow). IsLegalHistory start rows) (sym knows.front.1) legal))

  module _ (pass : PassView) (knows : Knows pass) (list : List ActRow) (front : IsPrefix list history) where
    tables_are : tables_at pass.start list ≡ tables_behind start history (length list)
    tables_are =
        let same = is_taken list history front in
        λ i. tables_at (knows.start_is i) (same i)

    step_is : (clock : ℕ) (call : Call) → step (tables_at pass.start list) (capacity_of pass.start) pass.number clock call ≡ step_behind start history (length list) number clock call
    step_is clock call = λ i. step (tables_are i) (capacity_of (knows.start_is i)) (knows.number_is i) clock call

  -- ---- a reply

  module _ (old new : PassView) (knows_old : Knows old) (knows : Knows new) where
    acts_then : (since : List ActRow) (tries : List Batch) → GoesOn old new since tries → acts_behind history (length new.list) number ≡ acts_behind history (length old.list) number ++ since
    acts_then since tries on =
        sym (acts_are new knows) ∙ on.own ∙ ap (λ (rows : List ActRow). rows ++ since) (acts_are old knows_old)

    acts_stay : (tries : List Batch) → GoesOn old new [] tries → acts_behind history (length new.list) number ≡ acts_behind history (length old.list) number
    acts_stay tries on = acts_then [] tries on ∙ append-nil (acts_behind history (length old.list) number)

    booked_at : (day : ℕ) (call : Call) (reply : OfficeReply) → IsBooked day call old new reply
        → IsBookedAt start history number (length old.list) (length new.list) day call reply
    booked_at day call reply b =
        let front = begins_with b.earlier new.list history (b.rows.act ∷ [], sym b.last) knows.front in
        let taken = is_taken b.earlier history front in
        record {
          rows = b.rows;
          earlier = length b.earlier;
          next = ap (λ (rows : List ActRow). length rows) b.last ∙ length_push b.earlier b.rows.act;
          last = sym (is_taken new.list history knows.front) ∙ b.last ∙ ap (λ (rows : List ActRow). rows ++ b.rows.act ∷ []) taken;
          appends_them = sym (step_is new knows b.earlier front day call) ∙ b.appends_them;
          replied = b.replied ∙ ap (λ (tables : Book). reply_of_office tables (appends b.rows)) (tables_are new knows b.earlier front);
          point = b.point ∙ point_is new knows;
          session = b.session ∙ knows.number_is;
          own = acts_then (b.rows.act ∷ []) [] b.goes_on;
        }

    unbooked_at : (day : ℕ) (call : Call) (reply : OfficeReply) → IsUnbooked day call old new reply
        → IsUnbookedAt start history number (length old.list) (length new.list) day call reply
    unbooked_at day call reply u = record {
      replied = subst (λ (outcome : Outcome). IsReplied outcome reply) (step_is new knows new.list knows.front day call) u.replied;
      own = acts_stay u.tries u.goes_on;
    }

    called_at : (day : ℕ) (call : Call) (reply : OfficeReply) → IsCalled day call old new reply
        → IsBookedAt start history number (length old.list) (length new.list) day call reply
        ⊎ IsUnbookedAt start history number (length old.list) (length new.list) day call reply
    called_at day call reply (inl b) = inl (booked_at day call reply b)
    called_at day call reply (inr u) = inr (unbooked_at day call reply u)

    same_count : new ≡ old → length new.list ≡ length old.list
    same_count same = ap (λ (pass : PassView). length pass.list) same

    body_at : (shows : ℕ → Type 0) (read : Result Call (List ℕ)) (said : Result ReplyDraft NoReply) → SaysBody shows read old new said
        → SaysBodyAt start history number (length old.list) (length new.list) shows read said
    body_at shows (Ok call) said (inl says) = inl (record {
      day = says.day;
      shown = says.shown;
      reply = says.reply;
      called = called_at says.day call says.reply says.called;
      told = says.told;
    })
    body_at shows (Ok call) said (inr (same, silent)) = inr (same_count same, silent)
    body_at shows (Err path) said (same, right) = (same_count same, right)

    says_at : (shows : ℕ → Type 0) (body : List ℕ) (routed : Routed) (said : Result ReplyDraft NoReply) → SaysTo shows body routed old new said
        → SaysAt start history number (length old.list) (length new.list) shows body routed said
    says_at shows body Routed.Act said says = body_at shows (call_from body) said says
    says_at shows body (Routed.Question question) said says = record {
      own = acts_stay [] says.goes_on;
      told = subst (λ (tables : Book). IsSaid (said_of_answer (answer_to tables question)) said) (tables_are new knows new.list knows.front) says.told;
    }
    says_at shows body (Routed.BadPart part) said (same, right) = (same_count same, right)
    says_at shows body Routed.NoRoute said (same, right) = (same_count same, right)
    says_at shows body Routed.NoMethod said (same, right) = (same_count same, right)

  reply_at : (shows : ℕ → Type 0) (old : PassView) (message : Message) (reply : Reply) (new : PassView) → Knows new → AnswersPass shows old message reply new
      → IsReplyAt shows start history number (length old.list) message reply (length new.list) × Knows old
  reply_at shows old message reply new knows answers =
      let before = knew old new (says_further shows message.body answers.routed old new answers.said answers.says) knows in (
        record {
          rises = omega (arith, answers.rises, point_is old before, point_is new knows);
          within = prefix_length new.list history knows.front;
          legal = legal_there new knows;
          routed = answers.routed;
          led = answers.led;
          said = answers.said;
          says = says_at old new before knows shows message.body answers.routed answers.said answers.says;
          reply_is = answers.reply_is ∙ ap (λ (point : ℕ). reply_of answers.said point) (point_is new knows);
        },
        before,
      )

-- ---- a session

by_history : HistoriesWereLegal → (start : Start) (history : List ActRow) → IsLegalHistory start history
    → (shows : ℕ → Type 0) (pass pass_now : PassView) (exchange : Exchange) → pass_now.start ≡ start → IsPrefix pass_now.list history
    → ByPass shows pass pass_now exchange → ByHistory shows start history pass pass_now exchange
by_history were start history legal shows pass pass_now exchange start_is front by = record {
  ends = seen_ends (λ desk. length desk.list) (Knows were start history legal pass_now.number)
      (AnswersPass shows) (λ was message now. ⊥) point_of
      (IsReplyAt shows start history pass_now.number) (λ was message now. ⊥) (point_behind start)
      (reply_at were start history legal pass_now.number shows) (λ desk message desk_now knew silent. absurd silent)
      (point_is were start history legal pass_now.number)
      pass pass_now exchange.left exchange.left_now exchange.held exchange.held_now exchange.end knows by.ends;
  complete = seen_told (λ desk. length desk.list) (Knows were start history legal pass_now.number)
      (AnswersPass shows) (λ was message now. ⊥) point_of
      (IsReplyAt shows start history pass_now.number) (λ was message now. ⊥) (point_behind start)
      (reply_at were start history legal pass_now.number shows) (λ desk message desk_now knew silent. absurd silent)
      (point_is were start history legal pass_now.number)
      pass pass_now exchange.held exchange.held_now exchange.left exchange.end knows by.complete;
}
  where
    knows : Knows were start history legal pass_now.number pass_now
    knows = record { start_is = start_is; number_is = refl; front = front }

pub sessions_share_a_history : {Clock : Type 0} (may_show : Clock → ℕ → Type 0) → HistoriesWereLegal → SessionsShareAHistory may_show
sessions_share_a_history may_show were start history clock other_clock first first_now other other_now exchange other_exchange by other_by are = (
  by_history were start history are.legal (may_show clock) first first_now exchange are.first_begins.start_is are.first_begins.front by,
  by_history were start history are.legal (may_show other_clock) other other_now other_exchange are.other_begins.start_is are.other_begins.front other_by,
)
