-- What a session did: the messages that it took, the replies of its desk, what it wrote, and how it ended.
use Rattle.std.specs.Prelude.{◌≡◌, ℕ, ◌<◌, ◌≤◌, ◌⊎◌, Option, false, List, [], ◌∷◌, ◌++◌, length, ⊤}
use Rattle.std.specs.{Io.KnownBytes.Appends, Io.KnownBytes.Consumes, Io.KnownBytes.IsAtEnd}
use Rattle.office_io.specs.{Outside.Faulted, Transfer.AppendsPart}
use Rattle.http_heads.specs.declared.fault.Fault.{Fault}
use Rattle.http_messages.specs.{Cutting.Cuts, Cutting.Ending, Cutting.between, Cutting.closed, Cutting.inside, Cutting.refused, Messages.IsMessage, Messages.IsRefused, Messages.IsUnfinished, declared.message.Message.Message}
use Rattle.http_responses.specs.{Responses.code_of, Responses.response_text, declared.body.Reply.Reply}
use Rattle.http_session.specs.{Replies.is_last, Replies.most, Replies.refusal, Replies.refusal_response, Replies.refuses, Replies.responses, declared.end.SessionEnd.SessionEnd}

-- ---- what was read

-- the bytes are these messages, none of which asks for the close, and then the rest
abbrev pub GoesOn : List ℕ → List Message → List ℕ → Type 0
GoesOn bytes [] rest = bytes ≡ rest
GoesOn bytes (message ∷ messages) rest =
    (after : List ℕ) × IsMessage bytes message after × (message.asks_close ≡ false) × GoesOn after messages rest

-- Nothing was read, or a last piece of at most 4,096 bytes behind whole messages and one that wasn't whole.
abbrev pub IsAllNeeded : List ℕ → Type 0
IsAllNeeded read =
    (read ≡ [])
    ⊎ ((before : List ℕ) × (last : List ℕ) × (messages : List Message) × (rest : List ℕ) × (read ≡ before ++ last) × (length last ≤ 4096)
    × GoesOn before messages rest × IsUnfinished rest)

-- they are fewer than a session has responses, and what was read ends behind them in that way
abbrev pub EndsBy : Ending → List ℕ → List Message → Type 0
EndsBy ending read messages = Cuts read messages ending × (length messages < most)

-- they are fewer than a session has responses, and what was read goes on behind them in such a way
abbrev pub GoesOnBy : (ℕ → List ℕ → Type 0) → List ℕ → List Message → Type 0
GoesOnBy Is read messages = (rest : List ℕ) × GoesOn read messages rest × (length messages < most) × Is (length messages) rest

-- the last of them asks for the close
abbrev pub IsClosed : List ℕ → List Message → Type 0
IsClosed read messages = Cuts read messages closed × (length messages ≤ most)

-- they are as many as a session has responses, and none asks for the close
abbrev pub IsSpent : List ℕ → List Message → Type 0
IsSpent read messages = (rest : List ℕ) × GoesOn read messages rest × (length messages ≡ most)

-- ---- what was answered

module _ {D : Type 0} (answers : D → Message → Reply → D → Type 0) where
  -- the desk answered the message by this reply, and didn't refuse it as a message
  abbrev pub IsAnswer : D → Message → Reply → D → Type 0
  IsAnswer desk message reply desk_now = answers desk message reply desk_now × (refuses reply.status ≡ false)

  -- the desk answered these messages by these replies, one after another
  abbrev pub Run : D → List Message → List Reply → D → Type 0
  Run desk [] [] desk_now = desk_now ≡ desk
  Run desk [] (reply ∷ replies) desk_now = ⊥
  Run desk (message ∷ messages) [] desk_now = ⊥
  Run desk (message ∷ messages) (reply ∷ replies) desk_now =
      (mid : D) × IsAnswer desk message reply mid × Run mid messages replies desk_now

  -- These messages, and what was read, are such; no more was read than was needed; and each message was answered by the
  -- desk, and its response written whole.
  pub record Serving (desk desk_now : D) (left left_now held held_now : Option (List ℕ)) (Are : List ℕ → List Message → Type 0) : Type 0 where
    pub read : List ℕ
    pub consumed : Consumes left left_now read
    pub needed : IsAllNeeded read
    pub messages : List Message
    pub are : Are read messages
    pub replies : List Reply
    pub ran : Run desk messages replies desk_now
    pub written : Appends held held_now (responses 0 messages replies)

module _ {D : Type 0} (answers : D → Message → Reply → D → Type 0) (gives_up : D → Message → D → Type 0) where
  -- the desk answered one message after another, and at most gave up the one behind them
  abbrev pub IsAsked : D → D → Type 0
  IsAsked desk desk_now =
      (messages : List Message) × (replies : List Reply) × (mid : D) × Run answers desk messages replies mid
      × ((desk_now ≡ mid) ⊎ ((message : Message) × gives_up mid message desk_now))

-- ---- how it ended

module _ {D : Type 0} (answers : D → Message → Reply → D → Type 0) (gives_up : D → Message → D → Type 0) (point : D → ℕ) where
  -- behind so many others one message more was answered, or what is no message refused, and of its response a part was written
  abbrev pub IsUnwritten : D → D → Option (List ℕ) → Option (List ℕ) → ℕ → List ℕ → Type 0
  IsUnwritten desk desk_now held held_now before rest =
      ((message : Message) × (after : List ℕ) × (reply : Reply) × IsMessage rest message after × IsAnswer answers desk message reply desk_now
      × AppendsPart held held_now (response_text reply (is_last before message)))
      ⊎ ((why : Fault) × IsRefused rest why × (desk_now ≡ desk) × AppendsPart held held_now (refusal_response why (point desk_now)))

  -- one message more was asked of the desk, which had no memory for a reply
  abbrev pub IsUnanswered : D → D → ℕ → List ℕ → Type 0
  IsUnanswered desk desk_now before rest = (message : Message) × (after : List ℕ) × IsMessage rest message after × gives_up desk message desk_now

  -- a session that ended so, with the desk, what the source has left and what the sink holds, before and after
  abbrev pub Ends : D → D → Option (List ℕ) → Option (List ℕ) → Option (List ℕ) → Option (List ℕ) → SessionEnd → Type 0
  Ends desk desk_now left left_now held held_now SessionEnd.Ended =
      (Serving answers desk desk_now left left_now held held_now (EndsBy between) × IsAtEnd left_now)
      ⊎ Serving answers desk desk_now left left_now held held_now IsClosed
  Ends desk desk_now left left_now held held_now SessionEnd.Cut =
      Serving answers desk desk_now left left_now held held_now (EndsBy inside) × IsAtEnd left_now
  Ends desk desk_now left left_now held held_now (SessionEnd.Refused status) =
      (why : Fault) × (status ≡ code_of (refusal why (point desk_now)).status) × (held_mid : Option (List ℕ))
      × Serving answers desk desk_now left left_now held held_mid (EndsBy (refused why))
      × Appends held_mid held_now (refusal_response why (point desk_now))
  Ends desk desk_now left left_now held held_now SessionEnd.Spent = Serving answers desk desk_now left left_now held held_now IsSpent
  Ends desk desk_now left left_now held held_now SessionEnd.ReadFault =
      Serving answers desk desk_now left left_now held held_now (GoesOnBy (λ before rest. IsUnfinished rest))
  Ends desk desk_now left left_now held held_now SessionEnd.WriteFault =
      (desk_mid : D) × (held_mid : Option (List ℕ))
      × Serving answers desk desk_mid left left_now held held_mid (GoesOnBy (IsUnwritten desk_mid desk_now held_mid held_now))
  Ends desk desk_now left left_now held held_now SessionEnd.NoMemory =
      Serving answers desk desk_now left left_now held held_now (GoesOnBy (λ before rest. ⊤))
      ⊎ ((desk_mid : D) × Serving answers desk desk_mid left left_now held held_now (GoesOnBy (IsUnanswered desk_mid desk_now)))

-- reads and writes fail only where the source and the sink counted a fault, and at every other end neither did
abbrev pub EndCause : ℕ → ℕ → ℕ → ℕ → SessionEnd → Type 0
EndCause reads reads_now writes writes_now SessionEnd.ReadFault = Faulted reads reads_now × (writes_now ≡ writes)
EndCause reads reads_now writes writes_now SessionEnd.WriteFault = (reads_now ≡ reads) × Faulted writes writes_now
EndCause reads reads_now writes writes_now _ = (reads_now ≡ reads) × (writes_now ≡ writes)
