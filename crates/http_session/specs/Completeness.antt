-- What a session makes of all the messages that its source holds, where nothing fails and memory suffices.
use Rattle.std.specs.Prelude.{◌≡◌, ℕ, not, nat_lt, Option, Bool, true, false, if◌then◌else◌, List, [], ◌++◌, length, take}
use Rattle.std.specs.Io.KnownBytes.{Appends}
use Rattle.http_messages.specs.{Cutting.Cuts, Cutting.Ending, Cutting.between, Cutting.closed, Cutting.inside, Cutting.refused, declared.message.Message.Message}
use Rattle.http_responses.specs.{Responses.code_of, declared.body.Reply.Reply}
use Rattle.http_session.specs.{Replies.most, Replies.refusal, Replies.refusal_response, Replies.responses, Sessions.Run, declared.end.SessionEnd.SessionEnd}

-- a fault or want of memory broke the session off
abbrev pub is_broken : SessionEnd → Bool
is_broken SessionEnd.ReadFault = true
is_broken SessionEnd.WriteFault = true
is_broken SessionEnd.NoMemory = true
is_broken _ = false

-- a session has responses enough to come to the end behind these messages
abbrev pub comes_to_end : List Message → Ending → Bool
comes_to_end messages closed = not (nat_lt most (length messages))
comes_to_end messages _ = nat_lt (length messages) most

-- how it ends there
abbrev pub end_at : Ending → SessionEnd
end_at closed = SessionEnd.Ended
end_at between = SessionEnd.Ended
end_at inside = SessionEnd.Cut
end_at (refused why) = SessionEnd.Refused (code_of (refusal why 0).status)

-- and what it writes there
abbrev pub written_at : Ending → ℕ → List ℕ
written_at (refused why) point = refusal_response why point
written_at _ point = []

module _ {D : Type 0} (answers : D → Message → Reply → D → Type 0) (point : D → ℕ) where
  -- each message was answered in turn, up to as many as a session has responses, and then it ended as the messages do, or was spent
  pub record AnswersAll (desk desk_now : D) (held held_now : Option (List ℕ)) (messages : List Message) (ending : Ending) (end : SessionEnd) : Type 0 where
    pub ends : end ≡ (if comes_to_end messages ending then end_at ending else SessionEnd.Spent)
    pub replies : List Reply
    pub ran : Run answers desk (take most messages) replies desk_now
    pub written : Appends held held_now
        (responses 0 (take most messages) replies ++ (if comes_to_end messages ending then written_at ending (point desk_now) else []))

  -- so it served a source that held these bytes, unless it was broken off
  abbrev pub Completes : D → D → Option (List ℕ) → Option (List ℕ) → List ℕ → SessionEnd → Type 0
  Completes desk desk_now held held_now told end =
      (messages : List Message) (ending : Ending) → Cuts told messages ending → is_broken end ≡ false → AnswersAll desk desk_now held held_now messages ending end
