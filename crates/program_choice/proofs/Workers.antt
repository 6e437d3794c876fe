-- How many workers the words of a server may ask for.
use Rattle.std.proofs.Common.{◌≡◌, ◌≤◌, ◌&&◌, ℕ, Bool, cond, true, false, leb, List, [], ◌∷◌, Option, None, Some, bytes_eq, codes, refl, sym, subst}
use Rattle.std.proofs.lemmas.Bool.{leb-true, true≢false}
use Rattle.std.proofs.lemmas.Option.{cond_some, none-some, same_Some}
use Rattle.days_core.specs.DayText.{◌>>=◌}
use Rattle.numerals.specs.Numerals.{begins_with_zero, if_between, is_numeral, number_between, number_of, plain_number_between}
use Rattle.command_words.specs.{declared.serving.Serve.Serve, Words.number_up_to, Words.serve_in}

both : (a b : Bool) → (a && b) ≡ true → (a ≡ true) × (b ≡ true)
both true b e = (refl, e)
both false b e = absurd (true≢false (sym e))

some_then : {A : Type 0} (b : Bool) (o : Option A) (x : A) → cond b o None ≡ Some x → o ≡ Some x
some_then true o x e = e
some_then false o x e = absurd (none-some x e)

some_else : {A : Type 0} (b : Bool) (o : Option A) (x : A) → cond b None o ≡ Some x → o ≡ Some x
some_else true o x e = absurd (none-some x e)
some_else false o x e = e

some_of : {A B : Type 0} (o : Option A) (f : A → Option B) (y : B) → (o >>= f) ≡ Some y → (x : A) × (o ≡ Some x) × (f x ≡ Some y)
some_of None f y e = absurd (none-some y e)
some_of (Some x) f y e = (x, refl, e)

between : (least most number found : ℕ) → if_between least most number ≡ Some found → (least ≤ found) × (found ≤ most)
between least most number found is =
    let p = cond_some (leb least number && leb number most) number found is in
    let q = both (leb least number) (leb number most) p.0 in
    subst (λ (n : ℕ). (least ≤ n) × (n ≤ most)) p.1 (leb-true least number q.0, leb-true number most q.1)

-- a number that is read of a range is in it
pub number_within : (least most : ℕ) (text : List ℕ) (found : ℕ) → plain_number_between least most text ≡ Some found → (least ≤ found) × (found ≤ most)
unfolding plain_number_between number_between
number_within least most text found is =
    between least most (number_of text) found
    (some_then (is_numeral text) (if_between least most (number_of text)) found (some_else (begins_with_zero text) (number_between least most text) found is))

pub workers_within : (words : List (List ℕ)) (serve : Serve) → serve_in words ≡ Some serve → (1 ≤ serve.workers) × (serve.workers ≤ 32)
workers_within (name ∷ port ∷ workers ∷ connections ∷ []) serve is =
    let by_port = some_of (number_up_to 65535 port) _ serve (some_then (bytes_eq name (codes "serve")) _ serve is) in
    let by_workers = some_of (number_up_to 32 workers) _ serve by_port.2 in
    let by_connections = some_of (number_up_to 1000000 connections) _ serve by_workers.2 in
    subst (λ (s : Serve). (1 ≤ s.workers) × (s.workers ≤ 32)) (same_Some _ serve by_connections.2) (number_within 1 32 workers by_workers.0 by_workers.1)
workers_within [] serve is = absurd (none-some serve is)
workers_within (a ∷ []) serve is = absurd (none-some serve is)
workers_within (a ∷ b ∷ []) serve is = absurd (none-some serve is)
workers_within (a ∷ b ∷ c ∷ []) serve is = absurd (none-some serve is)
workers_within (a ∷ b ∷ c ∷ d ∷ e ∷ others) serve is = absurd (none-some serve is)
