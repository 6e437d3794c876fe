-- The replies of a desk that several clerks share to the messages of one session, which has a pass.
use Rattle.std.specs.Prelude.{◌≡◌, ◌≤◌, ◌⊎◌, ℕ, Result, Ok, Err, List, []}
use Rattle.questions.specs.declared.question.Question.{Question}
use Rattle.clerk_desk.specs.Below.{office_answers.Answering.answer_to, office_answers.declared.reply.Reply.Reply as OfficeReply, office_step.declared.call.Call.Call}
use Rattle.clerk_desk.specs.Serving.{ReplyCause}
use Rattle.desk_history.specs.{declared.views.PassView.PassView, Laws.GoesOn, Seen.point_of}
use Rattle.json_front.specs.Calls.{call_from}
use Rattle.http_messages.specs.declared.message.Message.{Message}
use Rattle.http_responses.specs.declared.{body.Reply.Reply, refusal.Refusal.Refusal}
use Rattle.http_routes.specs.{Asks.name_of, declared.routed.Routed.Routed}
use Rattle.http_front.specs.{Told.IsLed, Told.IsSaid, Told.bad_form, Told.refused, Told.said_of_answer, Told.said_of_reply, declared.draft.ReplyDraft.ReplyDraft, declared.draft.NoReply.NoReply}
use Rattle.shared_desk.specs.{History.IsLegalHistory, History.tables_at, Calls.IsCalled, Calls.KnowsMore}

-- the desk's reply in text, unless memory ran out; there is none where the keeper failed, or memory ran out before
abbrev pub IsToldAs : OfficeReply → Result ReplyDraft NoReply → Type 0
IsToldAs OfficeReply.StoreFault said = said ≡ Err NoReply.Store
IsToldAs OfficeReply.NoMemory said = said ≡ Err NoReply.NoMemory
IsToldAs reply said = IsSaid (said_of_reply reply) said

-- A call, on a day that the clock may show: it was booked or it was not, and the reply is the one at the point. The keeper
-- counted a fault just where it is blamed.
pub record SaysCall (shows : ℕ → Type 0) (call : Call) (old new : PassView) (said : Result ReplyDraft NoReply) : Type 0 where
  pub day : ℕ
  pub shown : shows day
  pub reply : OfficeReply
  pub called : IsCalled day call old new reply
  pub goes_on : KnowsMore old new
  pub legal : IsLegalHistory new.start new.list
  pub cause : ReplyCause new.found new.left reply
  pub told : IsToldAs reply said

-- a question: the answer is the one at the point, where the pass has booked and tried nothing
pub record SaysAnswer (question : Question) (old new : PassView) (said : Result ReplyDraft NoReply) : Type 0 where
  pub goes_on : GoesOn old new [] []
  pub legal : IsLegalHistory new.start new.list
  pub told : IsSaid (said_of_answer (answer_to (tables_at new.start new.list) question)) said

-- what the desk isn't asked for, the pass being left as it was; its text is made in memory, which may run out
abbrev pub SaysAlone : ReplyDraft → PassView → PassView → Result ReplyDraft NoReply → Type 0
SaysAlone right old new said = (new ≡ old) × IsSaid right said

-- the call that a body is read as, unless memory ran out before the desk was asked
abbrev pub SaysBody : (ℕ → Type 0) → Result Call (List ℕ) → PassView → PassView → Result ReplyDraft NoReply → Type 0
SaysBody shows (Ok call) old new said = SaysCall shows call old new said ⊎ ((new ≡ old) × (said ≡ Err NoReply.NoMemory))
SaysBody shows (Err path) old new said = SaysAlone (bad_form path) old new said

-- By where a message leads, and its body. A refusal of where it leads takes no memory.
abbrev pub SaysTo : (ℕ → Type 0) → List ℕ → Routed → PassView → PassView → Result ReplyDraft NoReply → Type 0
SaysTo shows body Routed.Act old new said = SaysBody shows (call_from body) old new said
SaysTo shows body (Routed.Question question) old new said = SaysAnswer question old new said
SaysTo shows body (Routed.BadPart part) old new said = SaysAlone (bad_form (name_of part)) old new said
SaysTo shows body Routed.NoRoute old new said = (new ≡ old) × (said ≡ Ok (refused Refusal.NoRoute))
SaysTo shows body Routed.NoMethod old new said = (new ≡ old) × (said ≡ Ok (refused Refusal.NoMethod))

-- the reply at a point
abbrev pub reply_of : Result ReplyDraft NoReply → ℕ → Reply
reply_of (Ok said) point = record { status = said.status; point = point; body = said.body }
reply_of (Err NoReply.Store) point = record { status = (refused Refusal.Store).status; point = point; body = (refused Refusal.Store).body }
reply_of (Err NoReply.NoMemory) point = record { status = (refused Refusal.NoMemory).status; point = point; body = (refused Refusal.NoMemory).body }

-- The desk's reply to a message of a pass: what it says by where the message leads, at the point that the pass has then
-- seen. That point is no lesser one than before.
pub record AnswersPass (shows : ℕ → Type 0) (old : PassView) (message : Message) (reply : Reply) (new : PassView) : Type 0 where
  pub routed : Routed
  pub led : IsLed message routed
  pub said : Result ReplyDraft NoReply
  pub says : SaysTo shows message.body routed old new said
  pub reply_is : reply ≡ reply_of said (point_of new)
  pub rises : point_of old ≤ point_of new

-- there is always memory for a reply
abbrev pub NeverSilent : PassView → Message → PassView → Type 0
NeverSilent old message new = ⊥
