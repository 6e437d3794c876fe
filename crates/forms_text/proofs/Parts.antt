-- A text that grew by its parts, one after another.
use Rattle.std.proofs.Common.{◌≡◌, ◌∙◌, ◌++◌, ℕ, List, ap, append_assoc}

more : (old done part before after : List ℕ) → before ≡ old ++ done → after ≡ before ++ part → after ≡ old ++ (done ++ part)
more old done part before after e f = f ∙ ap (λ text. text ++ part) e ∙ append_assoc old done part

pub three : (old a b c t u v : List ℕ) → t ≡ old ++ a → u ≡ t ++ b → v ≡ u ++ c → v ≡ old ++ (a ++ b ++ c)
three old a b c t u v p q r = more old (a ++ b) c u v (more old a b t u p q) r

pub six : (old a b c d e f t u v w x y : List ℕ)
    → t ≡ old ++ a → u ≡ t ++ b → v ≡ u ++ c → w ≡ v ++ d → x ≡ w ++ e → y ≡ x ++ f
    → y ≡ old ++ (a ++ b ++ c ++ d ++ e ++ f)
six old a b c d e f t u v w x y p q r s k m =
    more old (a ++ b ++ c ++ d ++ e) f x y (more old (a ++ b ++ c ++ d) e w x (more old (a ++ b ++ c) d v w (three old a b c t u v p q r) s) k) m
