-- What a front of some bytes says of them.
use Rattle.std.proofs.Common.{◌≡◌, ℕ, ◌<◌, ◌≤◌, ◌⊎◌, inl, inr, Bool, true, false, List, [], ◌∷◌, ◌++◌, length, take, drop, refl, sym, ap, ◌∙◌, subst, arith, append_assoc, append-nil, length-append, take-append-drop}
use Rattle.std.specs.List.{list_all}
use Rattle.std.proofs.lemmas.{Bool.both_ways, Bool.cases_lt, Bool.ne_eqb, Bool.or_from, Bool.not_from_false, Bool.false≢true, Bool.ltb-true, Bool.and_parts, List.take-append-le, List.take_all, List.Elements.All-head, List.Elements.All-tail, List.Elements.All-cons, List.Elements.All-nil, Str.IsUtf8-from_ascii, Str.Ascii.IsAscii-cons, Str.Ascii.IsAscii-nil}
use Rattle.httparse.specs.{Grammar.AllPass, Grammar.HasNoRequest, Grammar.IsToken, Grammar.LineEnd, Grammar.MayBecomeRequest, Grammar.NeverHasRequest, Grammar.ReadsRequest, Grammar.RequestHead, Grammar.is_token_byte, Grammar.is_uri_byte, Grammar.lf, Grammar.print_blank, Grammar.print_end, Grammar.print_section, Grammar.print_version}
use Rattle.httparse.proofs.GrammarLemmas.{ReadsRequest-append, print_request-append}
use Rattle.http_heads.specs.{Heads.IsHopeless, Heads.IsHopelessAt, Heads.IsOpen, Heads.begins_word, Heads.ends_in_target, Heads.is_word_byte, Looks.IsMethodEnd}
use Rattle.http_heads.proofs.Targets.{TargetParts, target_parts, in_target_front, before_target}

-- ---- fronts that go on to a head

-- a front of bytes that can become a head isn't one that never can
pub front_goes_on : (bytes more : List ℕ) (head : RequestHead) (rest : List ℕ) (n : ℕ) → ReadsRequest (bytes ++ more) head rest
    → NeverHasRequest (take n bytes) → ⊥
front_goes_on bytes more head rest n reads never =
    let same : bytes ++ more ≡ take n bytes ++ (drop n bytes ++ more) =
    ap (λ (l : List ℕ). l ++ more) (sym (take-append-drop n bytes)) ∙ append_assoc (take n bytes) (drop n bytes) more in
    never (drop n bytes ++ more) head rest (subst (λ (l : List ℕ). ReadsRequest l head rest) same reads)

shortest : List LineEnd → List ℕ → RequestHead
shortest ends method = record { blank = ends; method = method; target = 47 ∷ []; minor = 1; line_end = lf; fields = []; last = lf }

abbrev after_method : List ℕ
after_method = 32 ∷ 47 ∷ 32 ∷ (print_version 1 ++ (print_end lf ++ (print_section [] lf ++ [])))

-- empty lines and a method go on to the head of the target /
pub whole : (ends : List LineEnd) (method : List ℕ) → IsToken method
    → (more : List ℕ) × (head : RequestHead) × ReadsRequest ((print_blank ends ++ method) ++ more) head []
unfolding shortest
whole ends method token = (
  after_method,
  shortest ends method,
  (
    record {
      method = token;
      target = (omega arith, All-cons (λ (b : ℕ). is_uri_byte b ≡ true) 47 [] refl (All-nil _));
      target_text = IsUtf8-from_ascii _ (IsAscii-cons 47 [] (omega arith) IsAscii-nil);
      minor = omega arith;
      fields = All-nil _;
    },
    append_assoc (print_blank ends) method after_method ∙ sym (print_request-append (shortest ends method) []),
  ),
)

-- ---- bytes of methods and targets are bytes of words

token_word : (b : ℕ) → is_token_byte b ≡ true → is_word_byte b ≡ true
unfolding is_token_byte
token_word b token =
    let no_space : b ≡ 32 → ⊥ = λ e. false≢true (subst (λ (v : ℕ). is_token_byte v ≡ true) e token) in
    let no_cr : b ≡ 13 → ⊥ = λ e. false≢true (subst (λ (v : ℕ). is_token_byte v ≡ true) e token) in
    let no_lf : b ≡ 10 → ⊥ = λ e. false≢true (subst (λ (v : ℕ). is_token_byte v ≡ true) e token) in
    not_from_false _ (or_from _ _ (ne_eqb b 32 no_space) (or_from _ _ (ne_eqb b 13 no_cr) (ne_eqb b 10 no_lf)))

uri_word : (b : ℕ) → is_uri_byte b ≡ true → is_word_byte b ≡ true
uri_word b uri =
    let above : 32 < b = ltb-true 32 b (and_parts _ _ uri).0 in
    not_from_false _ (or_from _ _ (ne_eqb b 32 (λ e. omega arith)) (or_from _ _ (ne_eqb b 13 (λ e. omega arith)) (ne_eqb b 10 (λ e. omega arith))))

words : (test : ℕ → Bool) → ((b : ℕ) → test b ≡ true → is_word_byte b ≡ true) → (bytes : List ℕ) → AllPass test bytes → list_all is_word_byte bytes ≡ true
words test weaker [] all = refl
words test weaker (b ∷ bytes) all =
    rw (weaker b (All-head (λ (v : ℕ). test v ≡ true) b bytes all), words test weaker bytes (All-tail (λ (v : ℕ). test v ≡ true) b bytes all)) refl

token_begins : (method : List ℕ) → IsToken method → begins_word method ≡ true
token_begins [] token = absurd (omega (arith, token.0))
token_begins (b ∷ method) token = token_word b (All-head (λ (v : ℕ). is_token_byte v ≡ true) b method token.1)

-- ---- no front is hopeless

-- where the method can go on to a head, no front that ends in it or in the target is hopeless
pub open_in_target : (ends : List LineEnd) (word target : List ℕ) (more : List ℕ) (head : RequestHead) (rest : List ℕ) (n : ℕ)
    → begins_word word ≡ true → list_all is_word_byte word ≡ true → list_all is_word_byte target ≡ true
    → ReadsRequest ((print_blank ends ++ word) ++ more) head rest
    → IsHopelessAt ((print_blank ends ++ word) ++ 32 ∷ target) n → ⊥
open_in_target ends word target more head rest n begins all target_all reads hopeless = by (cases_lt (length front) n)
  where
    front : List ℕ
    front = print_blank ends ++ word

    by : (length front < n) ⊎ (n ≤ length front) → ⊥
    by (inl past) = both_ways _ hopeless.1 (in_target_front ends word target n begins all target_all past)
    by (inr within) =
        front_goes_on front more head rest n reads
        (subst (λ (l : List ℕ). NeverHasRequest l) (take-append-le n front (32 ∷ target) within) hopeless.0)

-- bytes that more bytes make a head, or that end inside a good target, have no hopeless front
pub may_be_open : (bytes : List ℕ) → MayBecomeRequest bytes → (n : ℕ) → IsHopelessAt bytes n → ⊥
may_be_open bytes (inl (more, head, reads)) n hopeless = front_goes_on bytes more head [] n reads hopeless.0
may_be_open bytes (inr (blank, method, target, token, uri, is)) n hopeless =
    let goes_on = whole blank method token in
    let same : bytes ≡ (print_blank blank ++ method) ++ 32 ∷ target = is in
    open_in_target blank method target goes_on.0 goes_on.1 [] n (token_begins method token) (words is_token_byte token_word method token.1)
    (words is_uri_byte uri_word target uri) goes_on.2 (subst (λ (l : List ℕ). IsHopelessAt l n) same hopeless)

-- ---- what each answer of the parser says

pub open_when_partial : (bytes : List ℕ) → HasNoRequest bytes → MayBecomeRequest bytes → IsOpen bytes
open_when_partial bytes none may = (λ head rest has. none head rest has.0, λ hopeless. may_be_open bytes may hopeless.0 hopeless.3)

-- bytes that never become a head and don't end inside the target
pub hopeless_outside : (bytes : List ℕ) → length bytes ≤ 16384 → NeverHasRequest bytes → ends_in_target bytes ≡ false → IsHopeless bytes
hopeless_outside bytes short never outside =
    let all : take (length bytes) bytes ≡ bytes = take_all (length bytes) bytes (omega arith) in (
      length bytes,
      short,
      omega arith,
      (
        subst (λ (l : List ℕ). NeverHasRequest l) (sym all) never,
        subst (λ (l : List ℕ). ends_in_target l ≡ false) (sym all) outside,
      ),
    )

-- the front up to the end of the method
method_front : (bytes : List ℕ) (end : ℕ) → (parts : TargetParts bytes) → end ≡ length (print_blank parts.ends ++ parts.word)
    → take end bytes ≡ print_blank parts.ends ++ parts.word
method_front bytes end parts at =
    let front = print_blank parts.ends ++ parts.word in
    ap (take end) parts.whole ∙ ap (λ (k : ℕ). take k (front ++ 32 ∷ parts.target)) at
    ∙ take-append-le (length front) front (32 ∷ parts.target) (omega arith) ∙ take_all (length front) front (omega arith)

-- a method that never goes on to a head
pub hopeless_method : (bytes : List ℕ) (end : ℕ) → length bytes ≤ 16384 → IsMethodEnd bytes end → NeverHasRequest (take end bytes) → IsHopeless bytes
hopeless_method bytes end short is never =
    let parts = target_parts bytes is.inside in
    let at : end ≡ length (print_blank parts.ends ++ parts.word) = is.at ∙ sym parts.at in
    let within : end ≤ 16384 = omega (arith, is.within) in (
      end,
      within,
      is.within,
      (
        never,
        subst (λ (l : List ℕ). ends_in_target l ≡ false) (sym (method_front bytes end parts at)) (before_target parts.ends parts.word parts.begins parts.word_all),
      ),
    )

-- a method that can go on to a head, in bytes that never do
pub open_method : (bytes : List ℕ) (end : ℕ) → NeverHasRequest bytes → IsMethodEnd bytes end → MayBecomeRequest (take end bytes) → IsOpen bytes
open_method bytes end never is may = (
  λ head rest has. never [] head rest (subst (λ (l : List ℕ). ReadsRequest l head rest) (sym (append-nil bytes)) has.0),
  λ hopeless. by may hopeless.0 hopeless.3,
)
  where
    parts : TargetParts bytes
    parts = target_parts bytes is.inside

    front : List ℕ
    front = print_blank parts.ends ++ parts.word

    cut : take end bytes ≡ front
    cut = method_front bytes end parts (is.at ∙ sym parts.at)

    by : MayBecomeRequest (take end bytes) → (n : ℕ) → IsHopelessAt bytes n → ⊥
    by (inl (more, head, reads)) n hopeless =
        open_in_target parts.ends parts.word parts.target more head [] n parts.begins parts.word_all parts.target_all
        (subst (λ (l : List ℕ). ReadsRequest (l ++ more) head []) cut reads)
        (subst (λ (l : List ℕ). IsHopelessAt l n) parts.whole hopeless)
    by (inr (blank, method, target, token, uri, eq)) n hopeless =
        let goes_on = whole blank method token in
        let inside = in_target_front blank method target (length (take end bytes)) (token_begins method token) (words is_token_byte token_word method token.1)
        (words is_uri_byte uri_word target uri) (omega (arith, ap length eq, length-append (print_blank blank ++ method) (32 ∷ target))) in
        let all : take (length (take end bytes)) ((print_blank blank ++ method) ++ 32 ∷ target) ≡ take end bytes =
        ap (take (length (take end bytes))) (sym eq) ∙ take_all (length (take end bytes)) (take end bytes) (omega arith) in
        absurd (both_ways _ (subst (λ (l : List ℕ). ends_in_target l ≡ false) (sym cut) (before_target parts.ends parts.word parts.begins parts.word_all))
        (subst (λ (l : List ℕ). ends_in_target l ≡ true) all inside))

-- the front of bytes that never begin with a head is none
pub no_head : (bytes : List ℕ) (end : ℕ) (head : RequestHead) (rest : List ℕ) → NeverHasRequest bytes → ReadsRequest (take end bytes) head rest → ⊥
no_head bytes end head rest never reads =
    let longer = ReadsRequest-append (take end bytes) head rest (drop end bytes) reads in
    never [] head (rest ++ drop end bytes)
    (subst (λ (l : List ℕ). ReadsRequest l head (rest ++ drop end bytes)) (take-append-drop end bytes ∙ sym (append-nil bytes)) longer)
