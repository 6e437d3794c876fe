-- What a session says of its desk, said of what is seen of the desk.
use Rattle.std.proofs.Common.{◌≡◌, ℕ, inl, inr, Option, Some, None, List, [], ◌∷◌, ◌++◌, if◌then◌else◌, ap, subst, take}
use Rattle.std.specs.Prelude.{IfSome}
use Rattle.office_io.specs.Transfer.{AppendsPart}
use Rattle.std.specs.Io.KnownBytes.{Appends}
use Rattle.http_messages.specs.declared.message.Message.{Message}
use Rattle.http_responses.specs.declared.body.Reply.{Reply}
use Rattle.http_session.specs.{Completeness.Completes, Completeness.comes_to_end, Completeness.written_at, Replies.most, Replies.refusal_response, Replies.responses, Sessions.Ends, Sessions.GoesOnBy, Sessions.IsUnanswered, Sessions.IsUnwritten, Sessions.Run, Sessions.Serving, declared.end.SessionEnd.SessionEnd}

-- `seen` is what is seen of a desk, and `Holds` what holds of it at last; `shows` and `silent` say that it then held before each
-- answer, which is an answer of what is seen.
module _
    {D E : Type 0} (seen : D → E) (Holds : D → Type 0)
    (answers : D → Message → Reply → D → Type 0) (gives_up : D → Message → D → Type 0) (point : D → ℕ)
    (seen_answers : E → Message → Reply → E → Type 0) (seen_gives_up : E → Message → E → Type 0) (seen_point : E → ℕ)
    (shows : (desk : D) (message : Message) (reply : Reply) (desk_now : D) → Holds desk_now → answers desk message reply desk_now
    → seen_answers (seen desk) message reply (seen desk_now) × Holds desk)
    (silent : (desk : D) (message : Message) (desk_now : D) → Holds desk_now → gives_up desk message desk_now
    → seen_gives_up (seen desk) message (seen desk_now) × Holds desk)
    (same_point : (desk : D) → Holds desk → point desk ≡ seen_point (seen desk)) where
  seen_run : (desk desk_now : D) (messages : List Message) (replies : List Reply) → Holds desk_now → Run answers desk messages replies desk_now
      → Run seen_answers (seen desk) messages replies (seen desk_now) × Holds desk
  seen_run desk desk_now [] [] holds same = (ap seen same, subst Holds same holds)
  seen_run desk desk_now [] (reply ∷ replies) holds ran = absurd ran
  seen_run desk desk_now (message ∷ messages) [] holds ran = absurd ran
  seen_run desk desk_now (message ∷ messages) (reply ∷ replies) holds (mid, (answer, taken), later) =
      let others = seen_run mid desk_now messages replies holds later in
      let one = shows desk message reply mid others.1 answer in
      ((seen mid, (one.0, taken), others.0), one.1)

  -- what was read, and how it ends there, may be told of the desk in another way
  seen_serving : (desk desk_now : D) (left left_now held held_now : Option (List ℕ)) (Are Seen : List ℕ → List Message → Type 0)
      → ((read : List ℕ) (messages : List Message) → Are read messages → Seen read messages × Holds desk_now)
      → Serving answers desk desk_now left left_now held held_now Are
      → Serving seen_answers (seen desk) (seen desk_now) left left_now held held_now Seen
  seen_serving desk desk_now left left_now held held_now Are Seen to s =
      let are = to s.read s.messages s.are in
      record {
        read = s.read;
        consumed = s.consumed;
        needed = s.needed;
        messages = s.messages;
        are = are.0;
        replies = s.replies;
        ran = (seen_run desk desk_now s.messages s.replies are.1 s.ran).0;
        written = s.written;
      }

  -- where it ends with the desk as it is at last
  seen_all : (desk desk_now : D) (left left_now held held_now : Option (List ℕ)) (Are : List ℕ → List Message → Type 0) → Holds desk_now
      → Serving answers desk desk_now left left_now held held_now Are
      → Serving seen_answers (seen desk) (seen desk_now) left left_now held held_now Are
  seen_all desk desk_now left left_now held held_now Are holds s =
      seen_serving desk desk_now left left_now held held_now Are Are (λ read messages are. (are, holds)) s

  -- what is behind the messages may speak of the desk
  seen_behind : (desk desk_mid : D) (left left_now held held_now : Option (List ℕ)) (Is Seen : ℕ → List ℕ → Type 0)
      → ((before : ℕ) (rest : List ℕ) → Is before rest → Seen before rest × Holds desk_mid)
      → Serving answers desk desk_mid left left_now held held_now (GoesOnBy Is)
      → Serving seen_answers (seen desk) (seen desk_mid) left left_now held held_now (GoesOnBy Seen)
  seen_behind desk desk_mid left left_now held held_now Is Seen to s =
      seen_serving desk desk_mid left left_now held held_now (GoesOnBy Is) (GoesOnBy Seen)
      (λ read messages are. (let is = to _ _ are.3 in ((are.0, are.1, are.2, is.0), is.1))) s

  point_seen : (desk : D) (P : ℕ → Type 0) → Holds desk → P (point desk) → P (seen_point (seen desk))
  point_seen desk P holds it = subst P (same_point desk holds) it

  seen_unwritten : (desk desk_now : D) (held held_now : Option (List ℕ)) (before : ℕ) (rest : List ℕ) → Holds desk_now
      → IsUnwritten answers gives_up point desk desk_now held held_now before rest
      → IsUnwritten seen_answers seen_gives_up seen_point (seen desk) (seen desk_now) held held_now before rest × Holds desk
  seen_unwritten desk desk_now held held_now before rest holds (inl (message, after, reply, is, (answer, taken), part)) =
      let one = shows desk message reply desk_now holds answer in
      (inl (message, after, reply, is, (one.0, taken), part), one.1)
  seen_unwritten desk desk_now held held_now before rest holds (inr (why, refused, same, part)) = (
    inr (why, refused, ap seen same, point_seen desk_now (λ p. AppendsPart held held_now (refusal_response why p)) holds part),
    subst Holds same holds,
  )

  seen_unanswered : (desk desk_now : D) (before : ℕ) (rest : List ℕ) → Holds desk_now
      → IsUnanswered answers gives_up point desk desk_now before rest
      → IsUnanswered seen_answers seen_gives_up seen_point (seen desk) (seen desk_now) before rest × Holds desk
  seen_unanswered desk desk_now before rest holds (message, after, is, gave_up) =
      let one = silent desk message desk_now holds gave_up in
      ((message, after, is, one.0), one.1)

  pub seen_ends : (desk desk_now : D) (left left_now held held_now : Option (List ℕ)) (end : SessionEnd) → Holds desk_now
      → Ends answers gives_up point desk desk_now left left_now held held_now end
      → Ends seen_answers seen_gives_up seen_point (seen desk) (seen desk_now) left left_now held held_now end
  seen_ends desk desk_now left left_now held held_now SessionEnd.Ended holds (inl (s, at_end)) =
      inl (seen_all desk desk_now left left_now held held_now _ holds s, at_end)
  seen_ends desk desk_now left left_now held held_now SessionEnd.Ended holds (inr s) =
      inr (seen_all desk desk_now left left_now held held_now _ holds s)
  seen_ends desk desk_now left left_now held held_now SessionEnd.Cut holds (s, at_end) =
      (seen_all desk desk_now left left_now held held_now _ holds s, at_end)
  seen_ends desk desk_now left left_now held held_now (SessionEnd.Refused status) holds (why, is, held_mid, s, told) = (
    why,
    is,
    held_mid,
    seen_all desk desk_now left left_now held held_mid _ holds s,
    point_seen desk_now (λ p. Appends held_mid held_now (refusal_response why p)) holds told,
  )
  seen_ends desk desk_now left left_now held held_now SessionEnd.Spent holds s = seen_all desk desk_now left left_now held held_now _ holds s
  seen_ends desk desk_now left left_now held held_now SessionEnd.ReadFault holds s = seen_all desk desk_now left left_now held held_now _ holds s
  seen_ends desk desk_now left left_now held held_now SessionEnd.WriteFault holds (mid, held_mid, s) = (
    seen mid,
    held_mid,
    seen_behind desk mid left left_now held held_mid
        (IsUnwritten answers gives_up point mid desk_now held_mid held_now)
        (IsUnwritten seen_answers seen_gives_up seen_point (seen mid) (seen desk_now) held_mid held_now)
        (λ before rest is. seen_unwritten mid desk_now held_mid held_now before rest holds is) s,
  )
  seen_ends desk desk_now left left_now held held_now SessionEnd.NoMemory holds (inl s) =
      inl (seen_all desk desk_now left left_now held held_now _ holds s)
  seen_ends desk desk_now left left_now held held_now SessionEnd.NoMemory holds (inr (mid, s)) = inr (
    seen mid,
    seen_behind desk mid left left_now held held_now
        (IsUnanswered answers gives_up point mid desk_now)
        (IsUnanswered seen_answers seen_gives_up seen_point (seen mid) (seen desk_now))
        (λ before rest is. seen_unanswered mid desk_now before rest holds is) s,
  )

  seen_complete : (desk desk_now : D) (held held_now : Option (List ℕ)) (told : List ℕ) (end : SessionEnd) → Holds desk_now
      → Completes answers point desk desk_now held held_now told end
      → Completes seen_answers seen_point (seen desk) (seen desk_now) held held_now told end
  seen_complete desk desk_now held held_now told end holds completes messages ending cuts whole =
      let all = completes messages ending cuts whole in
      record {
        ends = all.ends;
        replies = all.replies;
        ran = (seen_run desk desk_now (take most messages) all.replies holds all.ran).0;
        written = point_seen desk_now
            (λ p. Appends held held_now
            (responses 0 (take most messages) all.replies ++ (if comes_to_end messages ending then written_at ending p else []))) holds all.written;
      }

  -- where the source told its bytes
  pub seen_told : (desk desk_now : D) (held held_now : Option (List ℕ)) (told : Option (List ℕ)) (end : SessionEnd) → Holds desk_now
      → IfSome told (λ input. Completes answers point desk desk_now held held_now input end)
      → IfSome told (λ input. Completes seen_answers seen_point (seen desk) (seen desk_now) held held_now input end)
  seen_told desk desk_now held held_now None end holds nothing = nothing
  seen_told desk desk_now held held_now (Some input) end holds completes = seen_complete desk desk_now held held_now input end holds completes
