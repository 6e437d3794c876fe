-- Loops over headers.
use Rattle.std.proofs.Common.{◌≡◌, ℕ, zero, suc, ◌+◌, ◌<◌, Bool, true, false, if◌then◌else◌, List, [], ◌∷◌, ◌++◌, length, get_or, map, take, drop, arith, ap, ◌∙◌, sym, refl, Bor}
use Rattle.std.specs.{List.list_any, Prelude.Err, Prelude.MatchOption, Prelude.None, Prelude.Option, Prelude.Some, Prelude.codes}
use Rattle.std.proofs.lemmas.{Bool.or_left, Bool.or_right, List.drop_more, List.map-append, List.take_more, List.take-append-drop}
use Rattle.httparse.specs.declared.spans.HeaderSpan.{HeaderSpan}
use Rattle.http_heads.specs.{Headers.Header, Headers.is_in_any_case, Headers.length_of, Headers.values_of, declared.fault.Fault.Fault}

-- what stands in for a header past the last
abbrev pub no_header : HeaderSpan
no_header = record { name = record { start = 0; end = 0 }; value = record { start = 0; end = 0 } }

pub any_here : {X Y : Type 0} (test : Y → Bool) (f : X → Y) (xs : List X) (i : ℕ) (d : X) → i < length xs
    → test (f (get_or xs i d)) ≡ true → list_any test (map f xs) ≡ true
any_here test f [] i d below here = absurd (omega arith)
any_here test f (x ∷ xs) zero d below here = or_left _ _ here
any_here test f (x ∷ xs) (suc i) d below here =
    let lower : i < length xs = omega arith in
    or_right _ _ (any_here test f xs i d lower here)

-- ---- the values of a header

abbrev is_length : Header → Bool
is_length header = is_in_any_case (codes "content-length") header.0

values_append : (xs ys : List Header) → values_of (xs ++ ys) ≡ values_of xs ++ values_of ys
values_append [] ys = refl
values_append (x ∷ xs) ys = by (is_length x) (values_append xs ys)
  where
    by : (t : Bool) → values_of (xs ++ ys) ≡ values_of xs ++ values_of ys
        → (if t then x.1 ∷ values_of (xs ++ ys) else values_of (xs ++ ys)) ≡ (if t then x.1 ∷ values_of xs else values_of xs) ++ values_of ys
    by true same = ap (λ (l : List (List ℕ)). x.1 ∷ l) same
    by false same = same

module _ (f : HeaderSpan → Header) (headers : List HeaderSpan) (i : ℕ) (below : i < length headers) where
  abbrev here : Header
  here = f (get_or headers i no_header)

  more : values_of (map f (take (i + 1) headers)) ≡ values_of (map f (take i headers)) ++ values_of (here ∷ [])
  more =
      ap (λ (l : List HeaderSpan). values_of (map f l)) (take_more headers i no_header below)
      ∙ ap values_of (map-append f (take i headers) (get_or headers i no_header ∷ []))
      ∙ values_append (map f (take i headers)) (here ∷ [])

  -- another header
  pub values_skip : (values : List (List ℕ)) → is_length here ≡ false → values_of (map f (take i headers)) ≡ values
      → values_of (map f (take (i + 1) headers)) ≡ values ++ []
  values_skip values other is =
      more ∙ ap (λ (l : List (List ℕ)). l ++ values_of (here ∷ [])) is ∙ ap (λ (t : Bool). values ++ (if t then here.1 ∷ [] else [])) other

  -- the first such header
  pub values_first : is_length here ≡ true → values_of (map f (take i headers)) ≡ [] → values_of (map f (take (i + 1) headers)) ≡ here.1 ∷ []
  values_first is none =
      more ∙ ap (λ (l : List (List ℕ)). l ++ values_of (here ∷ [])) none ∙ ap (λ (t : Bool). if t then here.1 ∷ [] else []) is

  -- the second
  pub values_second : (first : List ℕ) → is_length here ≡ true → values_of (map f (take i headers)) ≡ first ∷ []
      → Err Fault.BadLength ≡ length_of (values_of (map f headers))
  values_second first is one =
      let rest = drop (i + 1) headers in
      let parts : headers ≡ take i headers ++ (get_or headers i no_header ∷ rest) =
      sym (take-append-drop i headers) ∙ ap (λ (l : List HeaderSpan). take i headers ++ l) (drop_more headers i no_header below) in
      let all : values_of (map f headers) ≡ first ∷ here.1 ∷ values_of (map f rest) =
      ap (λ (l : List HeaderSpan). values_of (map f l)) parts ∙ ap values_of (map-append f (take i headers) (get_or headers i no_header ∷ rest))
      ∙ values_append (map f (take i headers)) (here ∷ map f rest) ∙ ap (λ (l : List (List ℕ)). l ++ values_of (here ∷ map f rest)) one
      ∙ ap (λ (t : Bool). first ∷ (if t then here.1 ∷ values_of (map f rest) else values_of (map f rest))) is in
      sym (ap length_of all)

  -- what was found stays found
  pub kept_values : (found : Option (Bor (List ℕ))) → is_length here ≡ false
      → MatchOption found (values_of (map f (take i headers)) ≡ []) (λ value. values_of (map f (take i headers)) ≡ value.now ∷ [])
      → MatchOption found (values_of (map f (take (i + 1) headers)) ≡ []) (λ value. values_of (map f (take (i + 1) headers)) ≡ value.now ∷ [])
  kept_values None other is = values_skip [] other is
  kept_values (Some value) other is = values_skip (value.now ∷ []) other is
