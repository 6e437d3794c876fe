-- What a session has done behind so many messages.
use Rattle.std.proofs.Common.{◌≡◌, ℕ, ◌+◌, inl, Option, false, List, [], ◌∷◌, ◌++◌, length, refl, sym, ap, ◌∙◌, subst, append_assoc, append-nil, length-append, arith}
use Rattle.std.specs.Io.KnownBytes.{Appends, Consumes}
use Rattle.std.proofs.KnownBytes.{Appends-nil, Appends-trans, Consumes-nil, Consumes-trans}
use Rattle.http_messages.specs.{Incoming.Grows, Incoming.Takes, Messages.IsMessage, declared.message.Message.Message}
use Rattle.http_responses.specs.{Responses.response_text, declared.body.Reply.Reply}
use Rattle.http_session.specs.{Replies.is_last, Replies.responses, Sessions.GoesOn, Sessions.IsAllNeeded, Sessions.IsAnswer, Sessions.Run}
use Rattle.http_session.proofs.Streams.{goes_more, goes_snoc, needed_more}

module _ {D : Type 0} (answers : D → Message → Reply → D → Type 0) where
  -- one reply more
  pub run_snoc : (desk : D) (messages : List Message) (replies : List Reply) (mid : D) (message : Message) (reply : Reply) (desk_now : D)
      → Run answers desk messages replies mid → IsAnswer answers mid message reply desk_now
      → Run answers desk (messages ++ message ∷ []) (replies ++ reply ∷ []) desk_now
  run_snoc desk [] [] mid message reply desk_now is answer =
      (desk_now, subst (λ (d : D). IsAnswer answers d message reply desk_now) is answer, refl)
  run_snoc desk [] (r ∷ rs) mid message reply desk_now ran answer = absurd ran
  run_snoc desk (m ∷ ms) [] mid message reply desk_now ran answer = absurd ran
  run_snoc desk (m ∷ ms) (r ∷ rs) mid message reply desk_now (next, first, later) answer =
      (next, first, run_snoc next ms rs mid message reply desk_now later answer)

  -- one response more
  pub responses_snoc : (desk : D) (messages : List Message) (replies : List Reply) (desk_now : D) (message : Message) (reply : Reply) (before count : ℕ)
      → Run answers desk messages replies desk_now → count ≡ before + length messages
      → responses before (messages ++ message ∷ []) (replies ++ reply ∷ []) ≡ responses before messages replies ++ response_text reply (is_last count message)
  responses_snoc desk [] [] desk_now message reply before count ran is =
      let same : before ≡ count = omega (arith, is) in
      append-nil (response_text reply (is_last before message)) ∙ ap (λ (n : ℕ). response_text reply (is_last n message)) same
  responses_snoc desk [] (r ∷ rs) desk_now message reply before count ran is = absurd ran
  responses_snoc desk (m ∷ ms) [] desk_now message reply before count ran is = absurd ran
  responses_snoc desk (m ∷ ms) (r ∷ rs) desk_now message reply before count (next, first, later) is =
      let also : count ≡ before + 1 + length ms = omega (arith, is) in
      ap (λ (l : List ℕ). response_text r (is_last before m) ++ l) (responses_snoc next ms rs desk_now message reply (before + 1) count later also)
      ∙ sym (append_assoc (response_text r (is_last before m)) (responses (before + 1) ms rs) (response_text reply (is_last count message)))

  -- so many messages were answered, and these bytes were read and are in none of them
  pub record Behind (desk desk_now : D) (left left_now held held_now : Option (List ℕ)) (inbox : List ℕ) (count : ℕ) : Type 0 where
    pub read : List ℕ
    pub consumed : Consumes left left_now read
    pub needed : IsAllNeeded read
    pub messages : List Message
    pub goes : GoesOn read messages inbox
    pub counted : length messages ≡ count
    pub replies : List Reply
    pub ran : Run answers desk messages replies desk_now
    pub written : Appends held held_now (responses 0 messages replies)

  pub behind_none : (desk : D) (left held : Option (List ℕ)) → Behind desk desk left left held held [] 0
  behind_none desk left held = record {
    read = [];
    consumed = Consumes-nil left;
    needed = inl refl;
    messages = [];
    goes = refl;
    counted = refl;
    replies = [];
    ran = refl;
    written = Appends-nil held;
  }

  -- more was read
  pub behind_taken : (desk desk_now : D) (left left_mid left_now held held_now : Option (List ℕ)) (inbox : List ℕ) (count : ℕ) (taken : List ℕ)
      → Behind desk desk_now left left_mid held held_now inbox count → Takes inbox left_mid left_now taken
      → Behind desk desk_now left left_now held held_now (inbox ++ taken) count
  behind_taken desk desk_now left left_mid left_now held held_now inbox count taken b takes = record {
    read = b.read ++ taken;
    consumed = Consumes-trans left left_mid left_now b.read taken b.consumed takes.consumed;
    needed = needed_more b.read b.messages inbox taken b.goes b.needed takes.needed;
    messages = b.messages;
    goes = goes_more b.read taken b.messages inbox b.goes;
    counted = b.counted;
    replies = b.replies;
    ran = b.ran;
    written = b.written;
  }

  pub behind_grown : (desk desk_now : D) (left left_mid left_now held held_now : Option (List ℕ)) (inbox inbox_now : List ℕ) (count : ℕ)
      → Behind desk desk_now left left_mid held held_now inbox count → Grows inbox inbox_now left_mid left_now
      → Behind desk desk_now left left_now held held_now inbox_now count
  behind_grown desk desk_now left left_mid left_now held held_now inbox inbox_now count b g =
      subst (λ (l : List ℕ). Behind desk desk_now left left_now held held_now l count) (sym g.grown)
      (behind_taken desk desk_now left left_mid left_now held held_now inbox count g.taken b g.takes)

  -- what is written with one response more
  pub written_more : (desk desk_mid : D) (left left_now held held_mid held_now : Option (List ℕ)) (inbox : List ℕ) (count : ℕ)
      (message : Message) (reply : Reply) (b : Behind desk desk_mid left left_now held held_mid inbox count)
      → Appends held_mid held_now (response_text reply (is_last count message))
      → Appends held held_now (responses 0 (b.messages ++ message ∷ []) (b.replies ++ reply ∷ []))
  written_more desk desk_mid left left_now held held_mid held_now inbox count message reply b next =
      let same : count ≡ 0 + length b.messages = omega (arith, b.counted) in
      subst (λ (l : List ℕ). Appends held held_now l) (sym (responses_snoc desk b.messages b.replies desk_mid message reply 0 count b.ran same))
      (Appends-trans held held_mid held_now (responses 0 b.messages b.replies) (response_text reply (is_last count message)) b.written next)

  -- one message more was answered
  pub behind_more : (desk desk_mid desk_now : D) (left left_now held held_mid held_now : Option (List ℕ)) (whole rest : List ℕ) (count : ℕ)
      (message : Message) (reply : Reply) → Behind desk desk_mid left left_now held held_mid whole count → IsMessage whole message rest
      → IsAnswer answers desk_mid message reply desk_now → Appends held_mid held_now (response_text reply (is_last count message))
      → message.asks_close ≡ false → Behind desk desk_now left left_now held held_now rest (count + 1)
  behind_more desk desk_mid desk_now left left_now held held_mid held_now whole rest count message reply b is answer next stays = record {
    read = b.read;
    consumed = b.consumed;
    needed = b.needed;
    messages = b.messages ++ message ∷ [];
    goes = goes_snoc b.read b.messages whole message rest b.goes is stays;
    counted = omega (arith, b.counted, length-append b.messages (message ∷ []));
    replies = b.replies ++ reply ∷ [];
    ran = run_snoc desk b.messages b.replies desk_mid message reply desk_now b.ran answer;
    written = written_more desk desk_mid left left_now held held_mid held_now whole count message reply b next;
  }
