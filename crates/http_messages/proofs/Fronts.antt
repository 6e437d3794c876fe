-- A front of bytes is a message, or refused, or unfinished, and only one of these; the first two it stays.
use Rattle.std.proofs.Common.{◌≡◌, ℕ, ◌≤◌, inl, inr, List, [], ◌∷◌, ◌++◌, length, take, drop, refl, sym, ap, ◌∙◌, subst, arith, append_assoc, append-nil, length-append, take-append-drop, true, false}
use Rattle.std.specs.Prelude.{Ok, Err, Result}
use Rattle.std.proofs.lemmas.{List.drop_at, List.take_at, List.take-append-le, List.Elements.All-cons, List.Elements.All-nil}
use Rattle.httparse.specs.{Grammar.NeverHasRequest, Grammar.ReadsRequest, Grammar.RequestHead, Grammar.is_token_byte, Grammar.print_request}
use Rattle.httparse.proofs.{GrammarLemmas.ReadsRequest-append, GrammarLemmas.request_unique, OpenLemmas.letter_is_token}
use Rattle.http_heads.specs.{Headers.asks_close, Headers.headers_of, Headers.judged, Heads.HasHead, Heads.IsHopeless, Heads.IsHopelessAt, Heads.IsOpen, Heads.ends_in_target, declared.fault.Fault.Fault}
use Rattle.http_heads.proofs.Fronts.{front_goes_on, may_be_open, whole}
use Rattle.http_messages.specs.{Messages.IsMessage, Messages.IsRefused, Messages.IsUnfinished, declared.message.Message.Message}

-- ---- heads

abbrev IsSameHead : (head other : RequestHead) (rest behind : List ℕ) → Type 0
IsSameHead head other rest behind = (head ≡ other) × (rest ≡ behind)

one_head : (bytes : List ℕ) (head other : RequestHead) (rest behind : List ℕ) → HasHead bytes head rest → HasHead bytes other behind
    → IsSameHead head other rest behind
one_head bytes head other rest behind a b = request_unique bytes head other rest behind a.0 b.0

not_hopeless : (bytes : List ℕ) (head : RequestHead) (rest : List ℕ) → HasHead bytes head rest → IsHopeless bytes → ⊥
not_hopeless bytes head rest has hopeless =
    front_goes_on bytes [] head rest hopeless.0 (subst (λ (l : List ℕ). ReadsRequest l head rest) (sym (append-nil bytes)) has.0) hopeless.3.0

-- the heads are one, and so are what their headers say
one_judging : (bytes : List ℕ) (head other : RequestHead) (rest behind : List ℕ) → HasHead bytes head rest → HasHead bytes other behind
    → judged (headers_of head) ≡ judged (headers_of other)
one_judging bytes head other rest behind a b =
    ap (λ (h : RequestHead). judged (headers_of h)) (one_head bytes head other rest behind a b).0

abbrev Judging : Type 0
Judging = Result ℕ Fault

abbrev counted : ℕ → Judging
counted count = Ok count

abbrev refusal : Fault → Judging
refusal why = Err why

same_count : (a b : ℕ) → counted a ≡ counted b → a ≡ b
same_count a b e = cc

same_fault : (a b : Fault) → refusal a ≡ refusal b → a ≡ b
same_fault a b e = cc

not_both : (a : ℕ) (b : Fault) → counted a ≡ refusal b → ⊥
not_both a b e = cc

-- ---- only one of the three

front_of : (a b rest behind : List ℕ) → a ++ rest ≡ b ++ behind → length a ≡ length b → (a ≡ b) × (rest ≡ behind)
front_of a b rest behind e size = (
  sym (take_at a rest (length b) size) ∙ ap (take (length b)) e ∙ take_at b behind (length b) refl,
  sym (drop_at a rest (length b) size) ∙ ap (drop (length b)) e ∙ drop_at b behind (length b) refl,
)

pub one_message : (bytes : List ℕ) (m n : Message) (rest behind : List ℕ) → IsMessage bytes m rest → IsMessage bytes n behind
    → (m ≡ n) × (rest ≡ behind)
one_message bytes m n rest behind x y =
    let heads = one_head bytes x.head y.head x.after y.after x.has y.has in
    let sizes = same_count (length m.body) (length n.body)
    (sym x.announced ∙ one_judging bytes x.head y.head x.after y.after x.has y.has ∙ y.announced) in
    let bodies = front_of m.body n.body rest behind (sym x.splits ∙ heads.1 ∙ y.splits) sizes in
    let method : m.method ≡ n.method = x.method ∙ ap (λ (h : RequestHead). h.method) heads.0 ∙ sym y.method in
    let target : m.target ≡ n.target = x.target ∙ ap (λ (h : RequestHead). h.target) heads.0 ∙ sym y.target in
    let close : m.asks_close ≡ n.asks_close = x.asks_close ∙ ap asks_close heads.0 ∙ sym y.asks_close in
    (λ i. record { method = method i; target = target i; body = bodies.0 i; asks_close = close i }, bodies.1)

-- a message isn't refused
pub message_not_refused : (bytes : List ℕ) (m : Message) (rest : List ℕ) (why : Fault) → IsMessage bytes m rest → IsRefused bytes why → ⊥
message_not_refused bytes m rest why x (inl bad) = not_hopeless bytes x.head x.after x.has bad.1
message_not_refused bytes m rest why x (inr (inl long)) = long.1.0 x.head x.after x.has
message_not_refused bytes m rest why x (inr (inr y)) =
    not_both (length m.body) why (sym x.announced ∙ one_judging bytes x.head y.head x.after y.after x.has y.has ∙ y.refused)

-- nor is it unfinished
pub message_not_unfinished : (bytes : List ℕ) (m : Message) (rest : List ℕ) → IsMessage bytes m rest → IsUnfinished bytes → ⊥
message_not_unfinished bytes m rest x (inl open_yet) = open_yet.0.0 x.head x.after x.has
message_not_unfinished bytes m rest x (inr y) =
    let heads = one_head bytes x.head y.head x.after y.after x.has y.has in
    let sizes = same_count (length m.body) y.count (sym x.announced ∙ one_judging bytes x.head y.head x.after y.after x.has y.has ∙ y.announced) in
    omega (arith, y.short, ap length (sym heads.1 ∙ x.splits), length-append m.body rest, sizes)

-- what is refused is refused for one cause
pub one_refusal : (bytes : List ℕ) (why other : Fault) → IsRefused bytes why → IsRefused bytes other → why ≡ other
one_refusal bytes why other (inl a) (inl b) = a.0 ∙ sym b.0
one_refusal bytes why other (inl a) (inr (inl b)) = absurd (b.1.1 a.1)
one_refusal bytes why other (inl a) (inr (inr b)) = absurd (not_hopeless bytes b.head b.after b.has a.1)
one_refusal bytes why other (inr (inl a)) (inl b) = absurd (a.1.1 b.1)
one_refusal bytes why other (inr (inl a)) (inr (inl b)) = a.0 ∙ sym b.0
one_refusal bytes why other (inr (inl a)) (inr (inr b)) = absurd (a.1.0 b.head b.after b.has)
one_refusal bytes why other (inr (inr a)) (inl b) = absurd (not_hopeless bytes a.head a.after a.has b.1)
one_refusal bytes why other (inr (inr a)) (inr (inl b)) = absurd (b.1.0 a.head a.after a.has)
one_refusal bytes why other (inr (inr a)) (inr (inr b)) =
    same_fault why other (sym a.refused ∙ one_judging bytes a.head b.head a.after b.after a.has b.has ∙ b.refused)

-- and it isn't unfinished
pub refused_not_unfinished : (bytes : List ℕ) (why : Fault) → IsRefused bytes why → IsUnfinished bytes → ⊥
refused_not_unfinished bytes why (inl a) (inl b) = b.0.1 a.1
refused_not_unfinished bytes why (inl a) (inr b) = not_hopeless bytes b.head b.after b.has a.1
refused_not_unfinished bytes why (inr (inl a)) (inl b) = omega (arith, a.2, b.1)
refused_not_unfinished bytes why (inr (inl a)) (inr b) = a.1.0 b.head b.after b.has
refused_not_unfinished bytes why (inr (inr a)) (inl b) = b.0.0 a.head a.after a.has
refused_not_unfinished bytes why (inr (inr a)) (inr b) =
    not_both b.count why (sym b.announced ∙ one_judging bytes b.head a.head b.after a.after b.has a.has ∙ a.refused)

-- ---- no bytes at all

head_not_empty : (head : RequestHead) (rest : List ℕ) → HasHead [] head rest → ⊥
head_not_empty head rest has =
    let goes_on = whole [] (65 ∷ []) (omega arith, All-cons (λ (b : ℕ). is_token_byte b ≡ true) 65 [] letter_is_token (All-nil _)) in
    let long = ReadsRequest-append [] head rest ((65 ∷ []) ++ goes_on.0) has.0 in
    let same = request_unique ((65 ∷ []) ++ goes_on.0) goes_on.1 head [] (rest ++ ((65 ∷ []) ++ goes_on.0)) goes_on.2 long in
    omega (arith, ap length same.1, length-append rest ((65 ∷ []) ++ goes_on.0), length-append (65 ∷ []) goes_on.0)

pub empty_unfinished : IsUnfinished []
empty_unfinished = inl ((head_not_empty, λ hopeless. none hopeless.0 hopeless.3), omega arith)
  where
    none : (n : ℕ) → IsHopelessAt [] n → ⊥
    none n hopeless =
        let goes_on = whole [] (65 ∷ []) (omega arith, All-cons (λ (b : ℕ). is_token_byte b ≡ true) 65 [] letter_is_token (All-nil _)) in
        may_be_open [] (inl ((65 ∷ []) ++ goes_on.0, goes_on.1, goes_on.2)) n hopeless

-- ---- when bytes follow

pub head_more : (bytes more : List ℕ) (head : RequestHead) (rest : List ℕ) → HasHead bytes head rest → HasHead (bytes ++ more) head (rest ++ more)
head_more bytes more head rest has = (ReadsRequest-append bytes head rest more has.0, has.1)

pub message_more : (bytes more : List ℕ) (m : Message) (rest : List ℕ) → IsMessage bytes m rest → IsMessage (bytes ++ more) m (rest ++ more)
message_more bytes more m rest x = record {
  head = x.head;
  after = x.after ++ more;
  has = head_more bytes more x.head x.after x.has;
  announced = x.announced;
  splits = ap (λ (l : List ℕ). l ++ more) x.splits ∙ append_assoc m.body rest more;
  method = x.method;
  target = x.target;
  asks_close = x.asks_close;
}

hopeless_more : (bytes more : List ℕ) → IsHopeless bytes → IsHopeless (bytes ++ more)
hopeless_more bytes more (n, few, within, never) =
    let same : take n (bytes ++ more) ≡ take n bytes = take-append-le n bytes more within in (
      n,
      few,
      omega (arith, within, length-append bytes more),
      (subst (λ (l : List ℕ). NeverHasRequest l) (sym same) never.0, subst (λ (l : List ℕ). ends_in_target l ≡ false) (sym same) never.1),
    )

-- with 16,384 bytes and no head, none comes
open_more : (bytes more : List ℕ) → IsOpen bytes → 16384 ≤ length bytes → IsOpen (bytes ++ more)
open_more bytes more undecided full = (
  λ head rest has.
      let size = length (print_request head) in
      let cut : bytes ≡ print_request head ++ drop size bytes =
      sym (take-append-drop size bytes) ∙ ap (λ (l : List ℕ). l ++ drop size bytes)
      (sym (take-append-le size bytes more (omega (arith, has.1))) ∙ ap (take size) has.0.1 ∙ take_at (print_request head) rest size refl) in
      undecided.0 head (drop size bytes) ((has.0.0, cut), has.1),
  λ hopeless.
      let same : take hopeless.0 (bytes ++ more) ≡ take hopeless.0 bytes = take-append-le hopeless.0 bytes more (omega (arith, hopeless.1)) in
      undecided.1 (
        hopeless.0,
        hopeless.1,
        omega (arith, hopeless.1),
        (subst (λ (l : List ℕ). NeverHasRequest l) same hopeless.3.0, subst (λ (l : List ℕ). ends_in_target l ≡ false) same hopeless.3.1),
      ),
)

pub refused_more : (bytes more : List ℕ) (why : Fault) → IsRefused bytes why → IsRefused (bytes ++ more) why
refused_more bytes more why (inl a) = inl (a.0, hopeless_more bytes more a.1)
refused_more bytes more why (inr (inl a)) = inr (inl (a.0, open_more bytes more a.1 a.2, omega (arith, a.2, length-append bytes more)))
refused_more bytes more why (inr (inr a)) =
    inr (inr (record { head = a.head; after = a.after ++ more; has = head_more bytes more a.head a.after a.has; refused = a.refused }))
