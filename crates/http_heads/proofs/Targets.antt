-- Bytes that end inside the target, by their parts.
use Rattle.std.proofs.Common.{◌≡◌, ℕ, ◌-◌, ◌<◌, ◌≤◌, ◌==◌, ◌&&◌, ◌||◌, Bool, true, false, if◌then◌else◌, List, [], ◌∷◌, ◌++◌, length, take, zero, suc, refl, sym, ap, ◌∙◌, subst, arith, append_assoc, append-nil, length-append}
use Rattle.std.specs.List.{list_all}
use Rattle.std.proofs.lemmas.{Bool.and_from, Bool.and_parts, Bool.eqb-true, Bool.not-true, Bool.or_parts, Bool.true≢false}
use Rattle.httparse.specs.Grammar.{LineEnd, crlf, lf, print_blank}
use Rattle.http_heads.specs.Heads.{is_word_byte, after_empty_lines, after_word, begins_word, is_target_begun, ends_in_target}

-- ---- empty lines

lf_first : (bytes : List ℕ) → after_empty_lines (10 ∷ bytes) ≡ after_empty_lines bytes
unfolding after_empty_lines
lf_first [] = refl
lf_first (b ∷ bytes) = refl

pub past_blank : (ends : List LineEnd) (rest : List ℕ) → after_empty_lines rest ≡ rest → after_empty_lines (print_blank ends ++ rest) ≡ rest
unfolding after_empty_lines
past_blank [] rest stays = stays
past_blank (crlf ∷ ends) rest stays = past_blank ends rest stays
past_blank (lf ∷ ends) rest stays = lf_first (print_blank ends ++ rest) ∙ past_blank ends rest stays

-- a byte of a word ends no line
word_byte_parts : (b : ℕ) → is_word_byte b ≡ true → ((b == 13) ≡ false) × ((b == 10) ≡ false)
word_byte_parts b word = or_parts (b == 13) (b == 10) (or_parts (b == 32) ((b == 13) || (b == 10)) (not-true _ word)).1

-- no empty line is at the front where a word is
pub stays : (bytes : List ℕ) → begins_word bytes ≡ true → after_empty_lines bytes ≡ bytes
unfolding after_empty_lines
stays [] begins = refl
stays (b ∷ []) begins = rw ((word_byte_parts b begins).1) refl
stays (b ∷ c ∷ bytes) begins = rw ((word_byte_parts b begins).1, (word_byte_parts b begins).0) refl

-- what stands in front of the rest are empty lines
pub blank_parts : (bytes : List ℕ) → (ends : List LineEnd) × (bytes ≡ print_blank ends ++ after_empty_lines bytes)
unfolding after_empty_lines
blank_parts [] = ([], refl)
blank_parts (b ∷ []) = one (b == 10) refl
  where
    one : (t : Bool) → (b == 10) ≡ t → (ends : List LineEnd) × (b ∷ [] ≡ print_blank ends ++ (if t then [] else b ∷ []))
    one true is = (lf ∷ [], ap (λ (x : ℕ). x ∷ []) (eqb-true b 10 is))
    one false is = ([], refl)
blank_parts (b ∷ c ∷ bytes) = two (b == 10) refl (b == 13 && c == 10) refl (blank_parts (c ∷ bytes)) (blank_parts bytes)
  where
    two : (t : Bool) → (b == 10) ≡ t → (u : Bool) → (b == 13 && c == 10) ≡ u
        → (ends : List LineEnd) × (c ∷ bytes ≡ print_blank ends ++ after_empty_lines (c ∷ bytes))
        → (ends : List LineEnd) × (bytes ≡ print_blank ends ++ after_empty_lines bytes)
        → (ends : List LineEnd) × (b ∷ c ∷ bytes ≡ print_blank ends ++ (if t then after_empty_lines (c ∷ bytes) else (if u then after_empty_lines bytes else b ∷ c ∷ bytes)))
    two true is u also one more = (lf ∷ one.0, ap (λ (x : ℕ). x ∷ c ∷ bytes) (eqb-true b 10 is) ∙ ap (λ (l : List ℕ). 10 ∷ l) one.1)
    two false is true also one more =
        let both = and_parts (b == 13) (c == 10) also in
        (crlf ∷ more.0, ap (λ (x : ℕ). x ∷ c ∷ bytes) (eqb-true b 13 both.0) ∙ ap (λ (x : ℕ). 13 ∷ x ∷ bytes) (eqb-true c 10 both.1) ∙ ap (λ (l : List ℕ). 13 ∷ 10 ∷ l) more.1)
    two false is false also one more = ([], refl)

-- ---- words

pub past_word : (word rest : List ℕ) → list_all is_word_byte word ≡ true → begins_word rest ≡ false → after_word (word ++ rest) ≡ rest
unfolding after_word
past_word [] [] all ends = refl
past_word [] (b ∷ rest) all ends = rw ends refl
past_word (b ∷ word) rest all ends =
    let both = and_parts (is_word_byte b) (list_all is_word_byte word) all in
    rw (both.0) (past_word word rest both.1 ends)

-- what stands in front of the rest is a word
pub record WordParts (bytes : List ℕ) : Type 0 where
  pub word : List ℕ
  pub whole : bytes ≡ word ++ after_word bytes
  pub all : list_all is_word_byte word ≡ true
  pub begins : begins_word word ≡ begins_word bytes

pub word_parts : (bytes : List ℕ) → WordParts bytes
unfolding after_word
word_parts [] = record { word = []; whole = refl; all = refl; begins = refl }
word_parts (b ∷ bytes) = step (is_word_byte b) refl (word_parts bytes)
  where
    step : (t : Bool) → is_word_byte b ≡ t → WordParts bytes → WordParts (b ∷ bytes)
    step true is parts = record {
      word = b ∷ parts.word;
      whole = rw is (ap (λ (l : List ℕ). b ∷ l) parts.whole);
      all = and_from _ _ is parts.all;
      begins = refl;
    }
    step false is parts = record { word = []; whole = rw is refl; all = refl; begins = sym is }

-- ---- fronts that end inside the target

-- the word's first byte comes before what follows it
word_first : (word rest : List ℕ) → begins_word word ≡ true → begins_word (word ++ rest) ≡ true
word_first [] rest begins = absurd (true≢false (sym begins))
word_first (b ∷ word) rest begins = begins

pub in_target : (ends : List LineEnd) (word target : List ℕ) → begins_word word ≡ true → list_all is_word_byte word ≡ true
    → list_all is_word_byte target ≡ true → ends_in_target (print_blank ends ++ (word ++ 32 ∷ target)) ≡ true
in_target ends word target begins all rest =
    let first = word_first word (32 ∷ target) begins in
    rw (past_blank ends (word ++ 32 ∷ target) (stays (word ++ 32 ∷ target) first), first, past_word word (32 ∷ target) all refl) rest

-- a word alone has no target behind it
pub before_target : (ends : List LineEnd) (word : List ℕ) → begins_word word ≡ true → list_all is_word_byte word ≡ true
    → ends_in_target (print_blank ends ++ word) ≡ false
before_target ends word begins all =
    let none : after_word word ≡ [] = subst (λ (l : List ℕ). after_word l ≡ []) (append-nil word) (past_word word [] all refl) in
    rw (past_blank ends word (stays word begins), begins, none) refl

list_all-take : (n : ℕ) (bytes : List ℕ) → list_all is_word_byte bytes ≡ true → list_all is_word_byte (take n bytes) ≡ true
list_all-take zero bytes all = refl
list_all-take (suc n) [] all = refl
list_all-take (suc n) (b ∷ bytes) all =
    let both = and_parts (is_word_byte b) (list_all is_word_byte bytes) all in
    and_from _ _ both.0 (list_all-take n bytes both.1)

-- so many bytes of the front and of what follows it
pub take_past : (front rest : List ℕ) (n : ℕ) → length front ≤ n → take n (front ++ rest) ≡ front ++ take (n - length front) rest
take_past [] rest n le = ap (λ (k : ℕ). take k rest) (omega arith)
take_past (x ∷ front) rest zero le = absurd (omega arith)
take_past (x ∷ front) rest (suc n) le =
    let same : suc n - suc (length front) ≡ n - length front = omega arith in
    let le' : length front ≤ n = omega arith in
    rw same (ap (λ (l : List ℕ). x ∷ l) (take_past front rest n le'))

-- a front that reaches past the method ends inside the target too
pub in_target_front : (ends : List LineEnd) (word target : List ℕ) (n : ℕ) → begins_word word ≡ true → list_all is_word_byte word ≡ true
    → list_all is_word_byte target ≡ true → length (print_blank ends ++ word) < n
    → ends_in_target (take n ((print_blank ends ++ word) ++ 32 ∷ target)) ≡ true
in_target_front ends word target n begins all rest past =
    let front = print_blank ends ++ word in
    let k : ℕ = n - length front - 1 in
    let more : n - length front ≡ suc k = omega arith in
    let cut : take n (front ++ 32 ∷ target) ≡ print_blank ends ++ (word ++ 32 ∷ take k target) =
    take_past front (32 ∷ target) n (omega arith) ∙ ap (λ (m : ℕ). front ++ take m (32 ∷ target)) more ∙ append_assoc (print_blank ends) word (32 ∷ take k target) in
    subst (λ (l : List ℕ). ends_in_target l ≡ true) (sym cut) (in_target ends word (take k target) begins all (list_all-take k target rest))

-- ---- and back

pub record TargetParts (bytes : List ℕ) : Type 0 where
  pub ends : List LineEnd
  pub word : List ℕ
  pub target : List ℕ
  pub whole : bytes ≡ (print_blank ends ++ word) ++ 32 ∷ target
  pub begins : begins_word word ≡ true
  pub word_all : list_all is_word_byte word ≡ true
  pub target_all : list_all is_word_byte target ≡ true
  pub at : length (print_blank ends ++ word) ≡ length bytes - length (after_word (after_empty_lines bytes))

target_of : (bytes : List ℕ) → is_target_begun bytes ≡ true → (target : List ℕ) × (bytes ≡ 32 ∷ target) × (list_all is_word_byte target ≡ true)
target_of [] begun = absurd (true≢false (sym begun))
target_of (b ∷ bytes) begun =
    let both = and_parts (b == 32) (list_all is_word_byte bytes) begun in
    (bytes, ap (λ (x : ℕ). x ∷ bytes) (eqb-true b 32 both.0), both.1)

pub target_parts : (bytes : List ℕ) → ends_in_target bytes ≡ true → TargetParts bytes
target_parts bytes inside =
    let line = after_empty_lines bytes in
    let rest = after_word line in
    let both = and_parts (begins_word line) (is_target_begun rest) inside in
    let blank = blank_parts bytes in
    let word = word_parts line in
    let target = target_of rest both.1 in
    let whole : bytes ≡ (print_blank blank.0 ++ word.word) ++ rest =
    blank.1 ∙ ap (λ (l : List ℕ). print_blank blank.0 ++ l) word.whole ∙ sym (append_assoc (print_blank blank.0) word.word rest) in
    let sizes = ap length whole ∙ length-append (print_blank blank.0 ++ word.word) rest in
    record {
      ends = blank.0;
      word = word.word;
      target = target.0;
      whole = whole ∙ ap (λ (l : List ℕ). (print_blank blank.0 ++ word.word) ++ l) target.1;
      begins = word.begins ∙ both.0;
      word_all = word.all;
      target_all = target.2;
      at = omega (arith, sizes);
    }
