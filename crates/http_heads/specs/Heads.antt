-- Which bytes begin with the head of a request, which never will, and which still may.
use Rattle.std.specs.Prelude.{◌≡◌, ℕ, ◌≤◌, ◌&&◌, ◌||◌, ◌==◌, not, Bool, false, if◌then◌else◌, List, [], ◌∷◌, length, take}
use Rattle.std.specs.List.{list_all}
use Rattle.httparse.specs.Grammar.{RequestHead, ReadsRequest, NeverHasRequest, print_request}

-- no space, and no part of a line's end
abbrev pub is_word_byte : ℕ → Bool
is_word_byte b = not (b == 32 || (b == 13 || b == 10))

-- the bytes behind the empty lines at their front
unfoldable pub after_empty_lines : List ℕ → List ℕ
after_empty_lines [] = []
after_empty_lines (b ∷ []) = if b == 10 then [] else b ∷ []
after_empty_lines (b ∷ c ∷ bytes) =
    if b == 10 then after_empty_lines (c ∷ bytes)
    else (if b == 13 && c == 10 then after_empty_lines bytes else b ∷ c ∷ bytes)

-- the bytes behind the word at their front
unfoldable pub after_word : List ℕ → List ℕ
after_word [] = []
after_word (b ∷ bytes) = if is_word_byte b then after_word bytes else b ∷ bytes

-- the first byte is one of a word
abbrev pub begins_word : List ℕ → Bool
begins_word [] = false
begins_word (b ∷ bytes) = is_word_byte b

-- a space, and a word that may be empty
abbrev pub is_target_begun : List ℕ → Bool
is_target_begun [] = false
is_target_begun (b ∷ bytes) = b == 32 && list_all is_word_byte bytes

-- the bytes end inside the target: after empty lines they are a word, a space and a word that may be empty
abbrev pub ends_in_target : List ℕ → Bool
ends_in_target bytes = begins_word (after_empty_lines bytes) && is_target_begun (after_word (after_empty_lines bytes))

-- the bytes are that head, of at most 16,384 bytes, and then the rest
abbrev pub HasHead : List ℕ → RequestHead → List ℕ → Type 0
HasHead bytes head rest = ReadsRequest bytes head rest × (length (print_request head) ≤ 16384)

-- the first n bytes don't end inside the target, and nothing that follows them makes a head
abbrev pub IsHopelessAt : List ℕ → ℕ → Type 0
IsHopelessAt bytes n = NeverHasRequest (take n bytes) × (ends_in_target (take n bytes) ≡ false)

-- some front of at most 16,384 bytes never becomes a head
abbrev pub IsHopeless : List ℕ → Type 0
IsHopeless bytes = (n : ℕ) × (n ≤ 16384) × (n ≤ length bytes) × IsHopelessAt bytes n

-- there is neither a head nor a front that never becomes one
abbrev pub IsOpen : List ℕ → Type 0
IsOpen bytes = ((head : RequestHead) (rest : List ℕ) → ¬ (HasHead bytes head rest)) × ¬ (IsHopeless bytes)
