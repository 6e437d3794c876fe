-- What a session writes: the responses to its messages, and the refusal of what is no message.
use Rattle.std.specs.Prelude.{ℕ, ◌+◌, ◌||◌, ◌==◌, Bool, true, false, List, [], ◌∷◌, ◌++◌}
use Rattle.http_heads.specs.declared.fault.Fault.{Fault}
use Rattle.http_messages.specs.declared.message.Message.{Message}
use Rattle.http_responses.specs.{Responses.refusal_status, Responses.response_text, declared.body.Body.Body, declared.body.Reply.Reply, declared.refusal.Refusal.Refusal, declared.status.Status.Status}

-- the most responses of a session
abbrev pub most : ℕ
most = 10000

-- the statuses by which what came is refused as a message
abbrev pub refuses : Status → Bool
refuses Status.BadRequest = true
refuses Status.PayloadTooLarge = true
refuses Status.HeaderFieldsTooLarge = true
refuses Status.NotImplemented = true
refuses _ = false

-- the response to a message behind so many others is the last where the message asks for it, or a session has no more
abbrev pub is_last : ℕ → Message → Bool
is_last before message = message.asks_close || before + 1 == most

-- the responses to messages behind so many others
abbrev pub responses : ℕ → List Message → List Reply → List ℕ
responses before [] replies = []
responses before (message ∷ messages) [] = []
responses before (message ∷ messages) (reply ∷ replies) =
    response_text reply (is_last before message) ++ responses (before + 1) messages replies

abbrev pub refusal_of : Fault → Refusal
refusal_of Fault.BadHead = Refusal.BadHead
refusal_of Fault.HeadTooLong = Refusal.HeadTooLong
refusal_of Fault.Coding = Refusal.Coding
refusal_of Fault.BadLength = Refusal.BadLength
refusal_of Fault.BodyTooLong = Refusal.BodyTooLong

-- the reply to what is no message
abbrev pub refusal : Fault → ℕ → Reply
refusal why point = record {
  status = refusal_status (refusal_of why);
  point = point;
  body = Body.Refused (refusal_of why);
}

-- and its response, which is always the last
abbrev pub refusal_response : Fault → ℕ → List ℕ
refusal_response why point = response_text (refusal why point) true
