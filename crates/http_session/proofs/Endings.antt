-- How a session ends, by what comes behind its messages.
use Rattle.std.proofs.Common.{◌≡◌, ℕ, ◌<◌, inl, inr, Option, List, [], ◌∷◌, ◌++◌, length, refl, sym, subst, length-append, arith}
use Rattle.std.proofs.KnownBytes.{Consumes-kept}
use Rattle.http_heads.specs.declared.fault.Fault.{Fault}
use Rattle.http_messages.specs.{Cutting.between, Cutting.inside, Cutting.refused, Incoming.Comes, Messages.IsUnfinished, declared.message.Incoming.Incoming, declared.message.Message.Message}
use Rattle.http_responses.specs.declared.body.Reply.{Reply}
use Rattle.http_session.specs.{Replies.most, Sessions.Ends, Sessions.EndsBy, Sessions.GoesOn, Sessions.GoesOnBy, Sessions.IsAsked, Sessions.IsSpent, Sessions.IsUnanswered, Sessions.IsUnwritten, Sessions.Serving, Turns.Refuses, Turns.Serves, declared.end.SessionEnd.SessionEnd, declared.serve.Served.Served}
use Rattle.http_session.proofs.{Behind.Behind, Behind.behind_grown, Behind.behind_none, Behind.behind_taken, Behind.run_snoc, Behind.written_more, Streams.cuts_close, Streams.cuts_end}

module _ {D : Type 0} (answers : D → Message → Reply → D → Type 0) where
  -- what was read and served is such where it goes on by the inbox
  serving : (desk desk_now : D) (left left_now held held_now : Option (List ℕ)) (inbox : List ℕ) (count : ℕ) (Are : List ℕ → List Message → Type 0)
      → Behind answers desk desk_now left left_now held held_now inbox count
      → ((read : List ℕ) (messages : List Message) → GoesOn read messages inbox → length messages ≡ count → Are read messages)
      → Serving answers desk desk_now left left_now held held_now Are
  serving desk desk_now left left_now held held_now inbox count Are b are = record {
    read = b.read;
    consumed = b.consumed;
    needed = b.needed;
    messages = b.messages;
    are = are b.read b.messages b.goes b.counted;
    replies = b.replies;
    ran = b.ran;
    written = b.written;
  }

module _ {D : Type 0} (answers : D → Message → Reply → D → Type 0) (gives_up : D → Message → D → Type 0) (point : D → ℕ) where
  -- there is no memory for an inbox
  pub ends_at_once : (desk : D) (left held : Option (List ℕ)) → Ends answers gives_up point desk desk left left held held SessionEnd.NoMemory
  ends_at_once desk left held =
      inl (serving answers desk desk left left held held [] 0 (GoesOnBy (λ before rest. Unit {0})) (behind_none answers desk left held)
      (λ read messages goes counted. ([], goes, omega (arith, counted), tt)))

  -- as many were answered as may be
  pub ends_spent : (desk desk_now : D) (left left_now held held_now : Option (List ℕ)) (inbox : List ℕ) (count : ℕ)
      → Behind answers desk desk_now left left_now held held_now inbox count → count ≡ most
      → Ends answers gives_up point desk desk_now left left_now held held_now SessionEnd.Spent
  ends_spent desk desk_now left left_now held held_now inbox count b all =
      serving answers desk desk_now left left_now held held_now inbox count IsSpent b (λ read messages goes counted. (inbox, goes, omega (arith, counted, all)))

  -- ---- no message more

  pub ends_between : (desk desk_now : D) (left left_mid left_now held held_now : Option (List ℕ)) (inbox inbox_now : List ℕ) (count : ℕ)
      → Behind answers desk desk_now left left_mid held held_now inbox count → count < most → Comes inbox inbox_now left_mid left_now Incoming.End
      → Ends answers gives_up point desk desk_now left left_now held held_now SessionEnd.Ended
  ends_between desk desk_now left left_mid left_now held held_now inbox inbox_now count b few (none, also, kept, end) =
      inl (
        record {
          read = b.read;
          consumed = Consumes-kept left left_mid left_now b.read b.consumed kept;
          needed = b.needed;
          messages = b.messages;
          are = (cuts_end b.read b.messages inbox between b.goes none, omega (arith, few, b.counted));
          replies = b.replies;
          ran = b.ran;
          written = b.written;
        },
        end,
      )

  pub ends_inside : (desk desk_now : D) (left left_mid left_now held held_now : Option (List ℕ)) (inbox inbox_now : List ℕ) (count : ℕ)
      → Behind answers desk desk_now left left_mid held held_now inbox count → count < most → Comes inbox inbox_now left_mid left_now Incoming.Cut
      → Ends answers gives_up point desk desk_now left left_now held held_now SessionEnd.Cut
  ends_inside desk desk_now left left_mid left_now held held_now inbox inbox_now count b few (grown, end, unfinished, some) = (
    serving answers desk desk_now left left_now held held_now inbox_now count (EndsBy inside)
        (behind_grown answers desk desk_now left left_mid left_now held held_now inbox inbox_now count b grown)
        (λ read messages goes counted. (cuts_end read messages inbox_now inside goes (unfinished, some), omega (arith, few, counted))),
    end,
  )

  pub ends_failed : (desk desk_now : D) (left left_mid left_now held held_now : Option (List ℕ)) (inbox inbox_now : List ℕ) (count : ℕ)
      → Behind answers desk desk_now left left_mid held held_now inbox count → count < most → Comes inbox inbox_now left_mid left_now Incoming.Failed
      → Ends answers gives_up point desk desk_now left left_now held held_now SessionEnd.ReadFault
  ends_failed desk desk_now left left_mid left_now held held_now inbox inbox_now count b few (grown, unfinished) =
      serving answers desk desk_now left left_now held held_now inbox_now count (GoesOnBy (λ before rest. IsUnfinished rest))
      (behind_grown answers desk desk_now left left_mid left_now held held_now inbox inbox_now count b grown)
      (λ read messages goes counted. (inbox_now, goes, omega (arith, few, counted), unfinished))

  -- a message is there, and no memory for a copy
  pub ends_uncopied : (desk desk_now : D) (left left_mid left_now held held_now : Option (List ℕ)) (inbox inbox_now : List ℕ) (count : ℕ)
      → Behind answers desk desk_now left left_mid held held_now inbox count → count < most → Comes inbox inbox_now left_mid left_now Incoming.NoMemory
      → Ends answers gives_up point desk desk_now left left_now held held_now SessionEnd.NoMemory
  ends_uncopied desk desk_now left left_mid left_now held held_now inbox inbox_now count b few (grown, begins) =
      inl (serving answers desk desk_now left left_now held held_now inbox_now count (GoesOnBy (λ before rest. Unit {0}))
      (behind_grown answers desk desk_now left left_mid left_now held held_now inbox inbox_now count b grown)
      (λ read messages goes counted. (inbox_now, goes, omega (arith, few, counted), tt)))

  pub ends_refused : (desk desk_now : D) (left left_mid left_now held held_mid held_now : Option (List ℕ)) (inbox inbox_now : List ℕ) (count : ℕ)
      (why : Fault) (told : ℕ) (end : SessionEnd) → Behind answers desk desk_now left left_mid held held_mid inbox count → count < most
      → Comes inbox inbox_now left_mid left_now (Incoming.Refused why) → told ≡ point desk_now → Refuses why told held_mid held_now end
      → Ends answers gives_up point desk desk_now left left_now held held_now end
  ends_refused desk desk_now left left_mid left_now held held_mid held_now inbox inbox_now count why told end b few (grown, is) at refuses =
      by end (subst (λ (n : ℕ). Refuses why n held_mid held_now end) at refuses)
    where
      now : Behind answers desk desk_now left left_now held held_mid inbox_now count
      now = behind_grown answers desk desk_now left left_mid left_now held held_mid inbox inbox_now count b grown

      by : (e : SessionEnd) → Refuses why (point desk_now) held_mid held_now e → Ends answers gives_up point desk desk_now left left_now held held_now e
      by (SessionEnd.Refused status) (which, wrote) = (
        why,
        which,
        held_mid,
        serving answers desk desk_now left left_now held held_mid inbox_now count (EndsBy (refused why)) now
            (λ read messages goes counted. (cuts_end read messages inbox_now (refused why) goes is, omega (arith, few, counted))),
        wrote,
      )
      by SessionEnd.WriteFault part = (
        desk_now,
        held_mid,
        serving answers desk desk_now left left_now held held_mid inbox_now count (GoesOnBy (IsUnwritten answers gives_up point desk_now desk_now held_mid held_now)) now
            (λ read messages goes counted. (inbox_now, goes, omega (arith, few, counted), inr (why, is, refl, part))),
      )
      by SessionEnd.Ended none = absurd none
      by SessionEnd.Cut none = absurd none
      by SessionEnd.ReadFault none = absurd none
      by SessionEnd.Spent none = absurd none
      by SessionEnd.NoMemory none = absurd none

  -- ---- by one message more

  pub ends_closed : (desk desk_mid desk_now : D) (left left_mid left_now held held_mid held_now : Option (List ℕ)) (inbox inbox_now : List ℕ) (count : ℕ)
      (message : Message) → Behind answers desk desk_mid left left_mid held held_mid inbox count → count < most
      → Comes inbox inbox_now left_mid left_now (Incoming.Message message)
      → Serves answers gives_up count message desk_mid desk_now held_mid held_now Served.Closed
      → Ends answers gives_up point desk desk_now left left_now held held_now SessionEnd.Ended
  ends_closed desk desk_mid desk_now left left_mid left_now held held_mid held_now inbox inbox_now count message b few (taken, takes, is) (reply, answer, wrote, closes) =
      inr (record {
        read = now.read;
        consumed = now.consumed;
        needed = now.needed;
        messages = now.messages ++ message ∷ [];
        are = (
          cuts_close now.read now.messages (inbox ++ taken) message inbox_now now.goes is closes,
          omega (arith, few, now.counted, length-append now.messages (message ∷ [])),
        );
        replies = now.replies ++ reply ∷ [];
        ran = run_snoc answers desk now.messages now.replies desk_mid message reply desk_now now.ran answer;
        written = written_more answers desk desk_mid left left_now held held_mid held_now (inbox ++ taken) count message reply now wrote;
      })
    where
      now : Behind answers desk desk_mid left left_now held held_mid (inbox ++ taken) count
      now = behind_taken answers desk desk_mid left left_mid left_now held held_mid inbox count taken b takes

  pub ends_unwritten : (desk desk_mid desk_now : D) (left left_mid left_now held held_mid held_now : Option (List ℕ)) (inbox inbox_now : List ℕ) (count : ℕ)
      (message : Message) → Behind answers desk desk_mid left left_mid held held_mid inbox count → count < most
      → Comes inbox inbox_now left_mid left_now (Incoming.Message message)
      → Serves answers gives_up count message desk_mid desk_now held_mid held_now Served.Unwritten
      → Ends answers gives_up point desk desk_now left left_now held held_now SessionEnd.WriteFault
  ends_unwritten desk desk_mid desk_now left left_mid left_now held held_mid held_now inbox inbox_now count message b few (taken, takes, is) (reply, answer, part) = (
    desk_mid,
    held_mid,
    serving answers desk desk_mid left left_now held held_mid (inbox ++ taken) count (GoesOnBy (IsUnwritten answers gives_up point desk_mid desk_now held_mid held_now))
        (behind_taken answers desk desk_mid left left_mid left_now held held_mid inbox count taken b takes)
        (λ read messages goes counted. (
          inbox ++ taken,
          goes,
          omega (arith, few, counted),
          subst (λ (n : ℕ). IsUnwritten answers gives_up point desk_mid desk_now held_mid held_now n (inbox ++ taken)) (sym counted)
              (inl (message, inbox_now, reply, is, answer, part)),
        )),
  )

  pub ends_unanswered : (desk desk_mid desk_now : D) (left left_mid left_now held held_mid held_now : Option (List ℕ)) (inbox inbox_now : List ℕ) (count : ℕ)
      (message : Message) → Behind answers desk desk_mid left left_mid held held_mid inbox count → count < most
      → Comes inbox inbox_now left_mid left_now (Incoming.Message message)
      → Serves answers gives_up count message desk_mid desk_now held_mid held_now Served.NoMemory
      → Ends answers gives_up point desk desk_now left left_now held held_now SessionEnd.NoMemory
  ends_unanswered desk desk_mid desk_now left left_mid left_now held held_mid held_now inbox inbox_now count message b few (taken, takes, is) (gave_up, same) =
      inr (
        desk_mid,
        subst (λ (h : Option (List ℕ)). Serving answers desk desk_mid left left_now held h (GoesOnBy (IsUnanswered answers gives_up point desk_mid desk_now))) (sym same)
            (serving answers desk desk_mid left left_now held held_mid (inbox ++ taken) count (GoesOnBy (IsUnanswered answers gives_up point desk_mid desk_now))
            (behind_taken answers desk desk_mid left left_mid left_now held held_mid inbox count taken b takes)
            (λ read messages goes counted. (inbox ++ taken, goes, omega (arith, few, counted), (message, inbox_now, is, gave_up)))),
      )

  -- ---- whatever the end

  pub asked : (desk desk_now : D) (left left_now held held_now : Option (List ℕ)) (end : SessionEnd)
      → Ends answers gives_up point desk desk_now left left_now held held_now end → IsAsked answers gives_up desk desk_now
  asked desk desk_now left left_now held held_now SessionEnd.Ended (inl (s, at_end)) = (s.messages, s.replies, desk_now, s.ran, inl refl)
  asked desk desk_now left left_now held held_now SessionEnd.Ended (inr s) = (s.messages, s.replies, desk_now, s.ran, inl refl)
  asked desk desk_now left left_now held held_now SessionEnd.Cut (s, at_end) = (s.messages, s.replies, desk_now, s.ran, inl refl)
  asked desk desk_now left left_now held held_now (SessionEnd.Refused status) (why, which, held_mid, s, wrote) =
      (s.messages, s.replies, desk_now, s.ran, inl refl)
  asked desk desk_now left left_now held held_now SessionEnd.Spent s = (s.messages, s.replies, desk_now, s.ran, inl refl)
  asked desk desk_now left left_now held held_now SessionEnd.ReadFault s = (s.messages, s.replies, desk_now, s.ran, inl refl)
  asked desk desk_now left left_now held held_now SessionEnd.WriteFault (mid, held_mid, s) = by s.are.3
    where
      by : IsUnwritten answers gives_up point mid desk_now held_mid held_now (length s.messages) s.are.0 → IsAsked answers gives_up desk desk_now
      by (inl (message, after, reply, is, answer, part)) = (
        s.messages ++ message ∷ [],
        s.replies ++ reply ∷ [],
        desk_now,
        run_snoc answers desk s.messages s.replies mid message reply desk_now s.ran answer,
        inl refl,
      )
      by (inr (why, is, same, part)) = (s.messages, s.replies, mid, s.ran, inl same)
  asked desk desk_now left left_now held held_now SessionEnd.NoMemory (inl s) = (s.messages, s.replies, desk_now, s.ran, inl refl)
  asked desk desk_now left left_now held held_now SessionEnd.NoMemory (inr (mid, s)) =
      let last = s.are.3 in
      (s.messages, s.replies, mid, s.ran, inr (last.0, last.3))
