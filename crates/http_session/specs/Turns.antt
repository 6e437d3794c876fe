-- What comes of one message, and of what is refused: the steps of a session.
use Rattle.std.specs.Prelude.{◌≡◌, ℕ, Option, List, true, false}
use Rattle.std.specs.Io.KnownBytes.{Appends}
use Rattle.office_io.specs.{Outside.Faulted, Transfer.AppendsPart}
use Rattle.http_heads.specs.declared.fault.Fault.{Fault}
use Rattle.http_messages.specs.declared.message.Message.{Message}
use Rattle.http_responses.specs.{Responses.code_of, Responses.response_text, declared.body.Reply.Reply}
use Rattle.http_session.specs.{Replies.is_last, Replies.refusal, Replies.refusal_response, Sessions.IsAnswer, declared.end.SessionEnd.SessionEnd, declared.serve.Served.Served}

module _ {D : Type 0} (answers : D → Message → Reply → D → Type 0) (gives_up : D → Message → D → Type 0) where
  -- what comes of a message behind so many others
  abbrev pub Serves : ℕ → Message → D → D → Option (List ℕ) → Option (List ℕ) → Served → Type 0
  Serves before message desk desk_now held held_now Served.Open =
      (reply : Reply) × IsAnswer answers desk message reply desk_now × Appends held held_now (response_text reply (is_last before message))
      × (message.asks_close ≡ false)
  Serves before message desk desk_now held held_now Served.Closed =
      (reply : Reply) × IsAnswer answers desk message reply desk_now × Appends held held_now (response_text reply (is_last before message))
      × (message.asks_close ≡ true)
  Serves before message desk desk_now held held_now Served.Unwritten =
      (reply : Reply) × IsAnswer answers desk message reply desk_now × AppendsPart held held_now (response_text reply (is_last before message))
  Serves before message desk desk_now held held_now Served.NoMemory = gives_up desk message desk_now × (held_now ≡ held)

abbrev pub ServesCause : ℕ → ℕ → Served → Type 0
ServesCause before now Served.Unwritten = Faulted before now
ServesCause before now _ = now ≡ before

-- what comes of a refusal
abbrev pub Refuses : Fault → ℕ → Option (List ℕ) → Option (List ℕ) → SessionEnd → Type 0
Refuses why point held held_now (SessionEnd.Refused status) =
    (status ≡ code_of (refusal why point).status) × Appends held held_now (refusal_response why point)
Refuses why point held held_now SessionEnd.WriteFault = AppendsPart held held_now (refusal_response why point)
Refuses why point held held_now _ = ⊥

abbrev pub RefusesCause : ℕ → ℕ → SessionEnd → Type 0
RefusesCause before now SessionEnd.WriteFault = Faulted before now
RefusesCause before now _ = now ≡ before
