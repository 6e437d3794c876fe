-- The messages of a whole stream, from those of the part that was read.
use Rattle.std.proofs.Common.{◌≡◌, ℕ, ◌≤◌, ◌<◌, ◌⊎◌, inl, inr, Option, None, Some, true, false, List, [], ◌∷◌, ◌++◌, length, refl, sym, ap, ◌∙◌, subst, append-nil, length-append, arith}
use Rattle.std.specs.{Prelude.not, Io.KnownBytes.Consumes, Io.KnownBytes.IsAtEnd}
use Rattle.std.proofs.lemmas.Bool.{le-ltb, lt-ltb}
use Rattle.http_heads.specs.declared.fault.Fault.{Fault}
use Rattle.http_messages.specs.{Cutting.Cuts, Cutting.Ending, Cutting.Stops, Cutting.between, Cutting.closed, Cutting.inside, Cutting.refused, Messages.IsMessage, Messages.IsUnfinished, declared.message.Message.Message}
use Rattle.http_messages.proofs.{Cuttings.settled_by_the_front_lem, Fronts.empty_unfinished, Fronts.message_not_refused, Fronts.message_not_unfinished, Fronts.one_message}
use Rattle.http_session.specs.{Completeness.comes_to_end, Replies.most, Sessions.GoesOn}

-- ---- a source that told its bytes

pub read_front : (told read : List ℕ) (now : Option (List ℕ)) → Consumes (Some told) now read → (more : List ℕ) × (told ≡ read ++ more)
read_front told read None consumed = absurd consumed
read_front told read (Some more) consumed = (more, consumed)

pub read_all : (told read : List ℕ) (now : Option (List ℕ)) → Consumes (Some told) now read → IsAtEnd now → told ≡ read
read_all told read None consumed end = absurd consumed
read_all told read (Some more) consumed end = consumed ∙ ap (λ (l : List ℕ). read ++ l) end ∙ append-nil read

-- ---- more bytes

-- an end that more bytes don't change
cuts_more : (ending : Ending) (more : List ℕ) → ((bytes : List ℕ) → Stops bytes ending → Stops (bytes ++ more) ending)
    → (bytes : List ℕ) (messages : List Message) → Cuts bytes messages ending → Cuts (bytes ++ more) messages ending
cuts_more ending more settled bytes [] stops = settled bytes stops
cuts_more ending more settled bytes (m ∷ ms) (after, is, inl (stays, later)) =
    (after ++ more, settled_by_the_front_lem.message bytes more m after is, inl (stays, cuts_more ending more settled after ms later))
cuts_more ending more settled bytes (m ∷ ms) (after, is, inr last) = (after ++ more, settled_by_the_front_lem.message bytes more m after is, inr last)

pub cuts_more_closed : (bytes more : List ℕ) (messages : List Message) → Cuts bytes messages closed → Cuts (bytes ++ more) messages closed
cuts_more_closed bytes more messages cuts = cuts_more closed more (λ front stops. absurd stops) bytes messages cuts

pub cuts_more_refused : (bytes more : List ℕ) (why : Fault) (messages : List Message) → Cuts bytes messages (refused why) → Cuts (bytes ++ more) messages (refused why)
cuts_more_refused bytes more why messages cuts =
    cuts_more (refused why) more (λ front stops. settled_by_the_front_lem.refusal front more why stops) bytes messages cuts

-- ---- what is behind the messages that were served

stopped : (bytes : List ℕ) (ending : Ending) (m : Message) (rest : List ℕ) → Stops bytes ending → IsMessage bytes m rest → ⊥
stopped bytes closed m rest stops is = stops
stopped bytes between m rest stops is = message_not_unfinished bytes m rest is (subst IsUnfinished (sym stops) empty_unfinished)
stopped bytes inside m rest stops is = message_not_unfinished bytes m rest is stops.0
stopped bytes (refused why) m rest stops is = message_not_refused bytes m rest why is stops

-- they are the first of the whole stream, and the others are those of the rest
pub cuts_behind : (bytes : List ℕ) (served : List Message) (rest : List ℕ) (messages : List Message) (ending : Ending) → GoesOn bytes served rest
    → Cuts bytes messages ending → (others : List Message) × (messages ≡ served ++ others) × Cuts rest others ending
cuts_behind bytes [] rest messages ending is cuts = (messages, refl, subst (λ (l : List ℕ). Cuts l messages ending) is cuts)
cuts_behind bytes (m ∷ ms) rest [] ending (after, is, stays, later) stops = absurd (stopped bytes ending m after stops is)
cuts_behind bytes (m ∷ ms) rest (n ∷ ns) ending (after, is, stays, later) (behind, also, cuts) = by (cuts_behind after ms rest ns ending later) cuts
  where
    same : (m ≡ n) × (after ≡ behind)
    same = one_message bytes m n after behind is also

    by : (Cuts after ns ending → (others : List Message) × (ns ≡ ms ++ others) × Cuts rest others ending)
        → ((n.asks_close ≡ false) × Cuts behind ns ending) ⊎ ((n.asks_close ≡ true) × (ns ≡ []) × (ending ≡ closed))
        → (others : List Message) × (n ∷ ns ≡ m ∷ ms ++ others) × Cuts rest others ending
    by find (inl (open_also, on)) =
        let found = find (subst (λ (l : List ℕ). Cuts l ns ending) (sym same.1) on) in
        (found.0, λ i. sym same.0 i ∷ found.1 i, found.2)
    by find (inr (closes, none, last)) =
        let both : false ≡ true = sym stays ∙ ap (λ (x : Message). x.asks_close) same.0 ∙ closes in absurd (cc)

-- ---- whether they are too many

pub comes_to_close : (messages : List Message) → length messages ≤ most → comes_to_end messages closed ≡ true
comes_to_close messages few = ap not (le-ltb most (length messages) few)

pub comes_between : (messages : List Message) → length messages < most → comes_to_end messages between ≡ true
comes_between messages few = lt-ltb (length messages) most few

pub comes_inside : (messages : List Message) → length messages < most → comes_to_end messages inside ≡ true
comes_inside messages few = lt-ltb (length messages) most few

pub comes_to_refusal : (messages : List Message) (why : Fault) → length messages < most → comes_to_end messages (refused why) ≡ true
comes_to_refusal messages why few = lt-ltb (length messages) most few

-- as many were served as may be, and others are left or at least an end
pub comes_no_further : (served others : List Message) (rest : List ℕ) (ending : Ending) → length served ≡ most → Cuts rest others ending
    → comes_to_end (served ++ others) ending ≡ false
comes_no_further served [] rest closed all stops = absurd stops
comes_no_further served (m ∷ ms) rest closed all cuts =
    ap not (lt-ltb most (length (served ++ m ∷ ms)) (omega (arith, all, length-append served (m ∷ ms))))
comes_no_further served others rest between all cuts = le-ltb (length (served ++ others)) most (omega (arith, all, length-append served others))
comes_no_further served others rest inside all cuts = le-ltb (length (served ++ others)) most (omega (arith, all, length-append served others))
comes_no_further served others rest (refused why) all cuts = le-ltb (length (served ++ others)) most (omega (arith, all, length-append served others))
