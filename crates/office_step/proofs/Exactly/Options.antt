-- What it takes that a test refuses.
use Rattle.std.proofs.Common.{◌≡◌, ◌≢◌, ◌∙◌, sym, ap, refl, ℕ, ◌<◌, arith, Bool, true, false, List, [], ◌∷◌, Option, Some, None, get_or, inl, inr, ◌⊎◌}
use Rattle.std.specs.Prelude.{◌↔◌, All, AllPairs, Contains, is_some, option_and_then, nat_eq}
use Rattle.std.specs.{Option.option_eq, Option.option_map, List.list_any}
use Rattle.std.proofs.lemmas.{Option.same_Some, Bool.false≢true, Bool.eqb-false, Bool.ne_eqb, Bool.false_from_ne_true, List.Folds.list_any_at, List.get_or_default, Bool.cases_lt}
use Rattle.std.proofs.lemmas.List.Elements.{All-contains, Contains-get_or, Contains-append_right}
use Rattle.office_step.specs.{declared.refusal.Refusal.Refusal, Refusals.refused_if, Refusals.refused_unless, Refusals.first_of}

-- ---- one test

-- it refuses if the test passes, and so tells this refusal
pub refused_if-some : (test : Bool) (why refusal : Refusal) → refused_if test why ≡ Some refusal → (test ≡ true) × (refusal ≡ why)
refused_if-some true why refusal is = (refl, sym (same_Some why refusal is))
refused_if-some false why refusal is = absurd (cc)

pub refused_unless-some : (test : Bool) (why refusal : Refusal) → refused_unless test why ≡ Some refusal → (test ≡ false) × (refusal ≡ why)
refused_unless-some false why refusal is = (refl, sym (same_Some why refusal is))
refused_unless-some true why refusal is = absurd (cc)

-- where the option has a value and what follows of it refuses
pub and_then-some : {A B : Type 0} (f : A → Option B) (o : Option A) (y : B) → option_and_then f o ≡ Some y → (x : A) × (o ≡ Some x) × (f x ≡ Some y)
and_then-some f None y is = absurd (cc)
and_then-some f (Some x) y is = (x, refl, is)

pub map-some : {A B : Type 0} (f : A → B) (o : Option A) (y : B) → option_map f o ≡ Some y → (x : A) × (o ≡ Some x) × (y ≡ f x)
map-some f None y is = absurd (cc)
map-some f (Some x) y is = (x, refl, sym (same_Some (f x) y is))

pub is_some-false : {A : Type 0} (o : Option A) → is_some o ≡ false → o ≡ None
is_some-false None is = refl
is_some-false (Some x) is = absurd (cc)

-- it is another number, or none
pub another : (o : Option ℕ) (n : ℕ) → option_eq nat_eq o (Some n) ≡ false → o ≢ Some n
another None n is same = absurd (cc)
another (Some m) n is same = eqb-false m n is (same_Some m n same)

pub no_other : (o : Option ℕ) (n : ℕ) → o ≢ Some n → option_eq nat_eq o (Some n) ≡ false
no_other None n other = refl
no_other (Some m) n other = ne_eqb m n (λ same. other (ap Some same))

-- the other way round
pub refused_if-from : (test : Bool) (why refusal : Refusal) → test ≡ true → refusal ≡ why → refused_if test why ≡ Some refusal
refused_if-from test why refusal passes told = ap (λ (b : Bool). refused_if b why) passes ∙ ap Some (sym told)

pub refused_unless-from : (test : Bool) (why refusal : Refusal) → test ≡ false → refusal ≡ why → refused_unless test why ≡ Some refusal
refused_unless-from test why refusal fails told = ap (λ (b : Bool). refused_unless b why) fails ∙ ap Some (sym told)

pub and_then-from : {A B : Type 0} (f : A → Option B) (o : Option A) (x : A) (y : B) → o ≡ Some x → f x ≡ Some y → option_and_then f o ≡ Some y
and_then-from f o x y is gives = ap (option_and_then f) is ∙ gives

pub map-from : {A B : Type 0} (f : A → B) (o : Option A) (x : A) (y : B) → o ≡ Some x → y ≡ f x → option_map f o ≡ Some y
map-from f o x y is gives = ap (option_map f) is ∙ ap Some (sym gives)

-- ---- the first of some tests

pub first_two : (test : Option Refusal) (rest : List (Option Refusal)) (refusal : Refusal) → first_of (test ∷ rest) ≡ Some refusal →
    (test ≡ Some refusal) ⊎ ((test ≡ None) × (first_of rest ≡ Some refusal))
first_two (Some why) rest refusal is = inl is
first_two None rest refusal is = inr (refl, is)

pub first_here : (test : Option Refusal) (rest : List (Option Refusal)) (refusal : Refusal) → test ≡ Some refusal → first_of (test ∷ rest) ≡ Some refusal
first_here (Some why) rest refusal is = is
first_here None rest refusal is = absurd (cc)

pub first_later : (test : Option Refusal) (rest : List (Option Refusal)) (refusal : Refusal) → test ≡ None → first_of rest ≡ Some refusal →
    first_of (test ∷ rest) ≡ Some refusal
first_later None rest refusal none is = is
first_later (Some why) rest refusal none is = absurd (cc)

-- where the test doesn't refuse, none of its causes is there, and the other way round
module _ (test : Option Refusal) (Stands : Refusal → Type 0) (plain : (refusal : Refusal) → (test ≡ Some refusal) ↔ Stands refusal) where
  pub none_stands : test ≡ None → (other : Refusal) → ¬ Stands other
  none_stands none other stands = let refuses : test ≡ Some other = (plain other).1 stands in absurd (cc)

  pub stands_none : ((other : Refusal) → ¬ Stands other) → test ≡ None
  stands_none never = by_test test refl
    where
      by_test : (o : Option Refusal) → test ≡ o → test ≡ None
      by_test None is = is
      by_test (Some why) is = absurd (never why ((plain why).0 is))

-- ---- lists

-- what holds of all elements holds of each
pub each : {X : Type 0} (P : X → Type 0) (xs : List X) → All P xs → (x : X) → Contains xs x → P x
each P xs all x held = All-contains P xs x all held

pub of_each : {X : Type 0} (P : X → Type 0) (xs : List X) → ((x : X) → Contains xs x → P x) → All P xs
of_each P xs has = λ k d within. has (get_or xs k d) (Contains-get_or xs k d within)

-- an element passes
pub any-some : {X : Type 0} (p : X → Bool) (xs : List X) → list_any p xs ≡ true → (x : X) × Contains xs x × (p x ≡ true)
any-some p [] is = absurd (false≢true is)
any-some {X} p (x ∷ xs) is = by_test (p x) refl (λ fails. any-some p xs (rw fails at is))
  where
    by_test : (b : Bool) → p x ≡ b → (p x ≡ false → (y : X) × Contains xs y × (p y ≡ true)) → (y : X) × Contains (x ∷ xs) y × (p y ≡ true)
    by_test true passes later = (x, (0, omega arith, refl), passes)
    by_test false fails later = let rest = later fails in (rest.0, Contains-append_right (x ∷ []) xs rest.0 rest.1, rest.2)

pub any-from : {X : Type 0} (p : X → Bool) (xs : List X) (x : X) → Contains xs x → p x ≡ true → list_any p xs ≡ true
any-from p xs x (k, within, is) passes = list_any_at p xs k x within (ap p is ∙ passes)

pub none-any : {X : Type 0} (p : X → Bool) (xs : List X) → list_any p xs ≡ false → (x : X) → Contains xs x → p x ≡ false
none-any p xs is x held = false_from_ne_true (p x) (λ passes. false≢true (sym is ∙ any-from p xs x held passes))

-- where the keys of a list rise, those of one key are one
pub risen_key : {X : Type 0} (key : X → ℕ) (xs : List X) → AllPairs (λ x y. key x < key y) xs → (x y : X) → Contains xs x → Contains xs y → key x ≡ key y → x ≡ y
risen_key key xs rise x y (k, within, is) (j, there, that) same =
    elim (cases_lt k j) [
      | inl less ↦ absurd (omega (arith, rise k j x less there, ap key is, same, ap key (get_or_default xs j x y there ∙ that)))
      | inr le ↦ elim (cases_lt j k) [
        | inl less ↦ absurd (omega (arith, rise j k y less within, ap key that, same, ap key (get_or_default xs k y x within ∙ is)))
        | inr ge ↦ let place : k ≡ j = omega arith in sym is ∙ get_or_default xs k x y within ∙ ap (λ (n : ℕ). get_or xs n y) place ∙ that
      ]
    ]
