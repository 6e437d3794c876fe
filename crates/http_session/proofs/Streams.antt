-- The messages of what was read, and of what was read further.
use Rattle.std.proofs.Common.{◌≡◌, ℕ, inl, inr, true, false, List, [], ◌∷◌, ◌++◌, refl, sym, ap, ◌∙◌, subst, append_assoc, append-nil}
use Rattle.http_messages.specs.{Cutting.Cuts, Cutting.Ending, Cutting.Stops, Cutting.closed, Incoming.IsNeeded, Messages.IsMessage, declared.message.Message.Message}
use Rattle.http_messages.proofs.Cuttings.{settled_by_the_front_lem}
use Rattle.http_session.specs.Sessions.{GoesOn, IsAllNeeded}

pub goes_more : (bytes more : List ℕ) (messages : List Message) (rest : List ℕ) → GoesOn bytes messages rest → GoesOn (bytes ++ more) messages (rest ++ more)
goes_more bytes more [] rest is = ap (λ (l : List ℕ). l ++ more) is
goes_more bytes more (m ∷ ms) rest (after, is, stays, later) =
    (after ++ more, settled_by_the_front_lem.message bytes more m after is, stays, goes_more after more ms rest later)

-- one message more
pub goes_snoc : (bytes : List ℕ) (messages : List Message) (rest : List ℕ) (message : Message) (after : List ℕ) → GoesOn bytes messages rest
    → IsMessage rest message after → message.asks_close ≡ false → GoesOn bytes (messages ++ message ∷ []) after
goes_snoc bytes [] rest message after is there stays = (after, subst (λ (l : List ℕ). IsMessage l message after) (sym is) there, stays, refl)
goes_snoc bytes (m ∷ ms) rest message after (mid, is, open_first, later) there stays = (mid, is, open_first, goes_snoc mid ms rest message after later there stays)

-- the end behind the messages is that of the whole
pub cuts_end : (bytes : List ℕ) (messages : List Message) (rest : List ℕ) (ending : Ending) → GoesOn bytes messages rest → Stops rest ending → Cuts bytes messages ending
cuts_end bytes [] rest ending is stops = subst (λ (l : List ℕ). Stops l ending) (sym is) stops
cuts_end bytes (m ∷ ms) rest ending (after, is, stays, later) stops = (after, is, inl (stays, cuts_end after ms rest ending later stops))

-- the message behind them asks for the close
pub cuts_close : (bytes : List ℕ) (messages : List Message) (rest : List ℕ) (message : Message) (after : List ℕ) → GoesOn bytes messages rest
    → IsMessage rest message after → message.asks_close ≡ true → Cuts bytes (messages ++ message ∷ []) closed
cuts_close bytes [] rest message after is there closes =
    (after, subst (λ (l : List ℕ). IsMessage l message after) (sym is) there, inr (closes, refl, refl))
cuts_close bytes (m ∷ ms) rest message after (mid, is, stays, later) there closes = (mid, is, inl (stays, cuts_close mid ms rest message after later there closes))

-- what was needed for the next message was needed
pub needed_more : (read : List ℕ) (messages : List Message) (inbox taken : List ℕ) → GoesOn read messages inbox → IsAllNeeded read → IsNeeded inbox taken
    → IsAllNeeded (read ++ taken)
needed_more read messages inbox taken goes old (inr (before, last, whole, few, unfinished)) =
    inr (
      read ++ before,
      last,
      messages,
      inbox ++ before,
      ap (λ (l : List ℕ). read ++ l) whole ∙ sym (append_assoc read before last),
      few,
      goes_more read before messages inbox goes,
      unfinished,
    )
needed_more read messages inbox taken goes (inl none) (inl no_more) = inl (ap (λ (l : List ℕ). read ++ l) no_more ∙ append-nil read ∙ none)
needed_more read messages inbox taken goes (inr (before, last, earlier, rest, whole, few, was, unfinished)) (inl no_more) =
    inr (before, last, earlier, rest, ap (λ (l : List ℕ). read ++ l) no_more ∙ append-nil read ∙ whole, few, was, unfinished)
