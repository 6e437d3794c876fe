-- What is said of a message.
use Rattle.std.specs.Prelude.{◌≡◌, ℕ, ◌⊎◌, ⊤, List, Result, Ok, Err}
use Rattle.std.specs.Str.{IsUtf8}
use Rattle.clerk_desk.specs.Below.office_step.declared.refusal.Refusal.{Refusal as OfficeRefusal}
use Rattle.clerk_desk.specs.Below.office_answers.{declared.answer.Answer.Answer, declared.reply.Reply.Reply as OfficeReply}
use Rattle.reply_text.specs.{Replies.reply_text, Replies.bad_form_text, Answers.answer_text}
use Rattle.http_messages.specs.declared.message.Message.{Message}
use Rattle.http_responses.specs.{Responses.refusal_status, declared.body.Body.Body, declared.refusal.Refusal.Refusal, declared.status.Status.Status}
use Rattle.http_routes.specs.{Asks.Leads, declared.routed.Routed.Routed}
use Rattle.http_front.specs.declared.draft.{ReplyDraft.ReplyDraft, NoReply.NoReply}

-- this text is said
abbrev pub in_text : Status → List ℕ → ReplyDraft
in_text status text = record { status = status; body = Body.Text text }

-- the place that isn't of its form is told by its path
abbrev pub bad_form : List ℕ → ReplyDraft
bad_form path = in_text Status.UnprocessableEntity (bad_form_text path)

-- a refusal that is told by its kind alone
abbrev pub refused : Refusal → ReplyDraft
refused refusal = record { status = refusal_status refusal; body = Body.Refused refusal }

-- ---- acts

-- an act that was accepted, now or before, was made; every other reply is a refusal
abbrev pub status_of : OfficeReply → Status
status_of (OfficeReply.Accepted done) = Status.Created
status_of _ = Status.Conflict

abbrev pub said_of_reply : OfficeReply → ReplyDraft
said_of_reply reply = in_text (status_of reply) (reply_text reply)

-- ---- questions

-- the answer, or why there is none
abbrev pub said_of_answer : Result Answer OfficeRefusal → ReplyDraft
said_of_answer (Ok answer) = in_text Status.Okay (answer_text answer)
said_of_answer (Err refusal) = said_of_reply (OfficeReply.Refused refusal)

-- ---- messages

-- Where a message leads. Bytes that are no text lead nowhere; the head of no message has such a method or target.
abbrev pub IsLed : Message → Routed → Type 0
IsLed message routed =
    Leads message.method message.target routed
    ⊎ (¬ (IsUtf8 message.method × IsUtf8 message.target) × (routed ≡ Routed.NoRoute))

-- this is said, unless memory ran out
abbrev pub IsSaid : ReplyDraft → Result ReplyDraft NoReply → Type 0
IsSaid right (Ok said) = said ≡ right
IsSaid right (Err NoReply.NoMemory) = ⊤
IsSaid right _ = ⊥
