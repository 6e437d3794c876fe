-- One more word looked at.
use Rattle.std.proofs.Common.{◌≡◌, ◌<◌, ◌||◌, ℕ, zero, suc, List, [], ◌∷◌, drop, map, get_or, length, sym, ap, arith}
use Rattle.std.specs.List.{list_any}
use Rattle.std.specs.Prelude.{String, string_bytes}
use Rattle.std.specs.declared.alloc.Global.{Global}
use Rattle.command_words.specs.Words.{begins_with_hyphen}

abbrev pub texts_of : List (String Global) → List (List ℕ)
texts_of = map string_bytes

pub one_more : (words : List (String Global)) (at : ℕ) (word : String Global) → at < length words → word ≡ get_or words at word
    → list_any begins_with_hyphen (drop at (texts_of words)) ≡ (begins_with_hyphen (string_bytes word) || list_any begins_with_hyphen (drop (suc at) (texts_of words)))
one_more [] at word inside is = absurd (omega arith)
one_more (x ∷ xs) zero word inside is = ap (λ (w : String Global). begins_with_hyphen (string_bytes w) || list_any begins_with_hyphen (texts_of xs)) (sym is)
one_more (x ∷ xs) (suc at) word inside is = one_more xs at word (omega arith) is
