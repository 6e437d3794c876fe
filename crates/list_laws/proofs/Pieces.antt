-- What is put together of pieces, one for each number from one on.
use Rattle.std.proofs.Common.{◌≡◌, ◌⊎◌, inl, inr, refl, ℕ, zero, suc, ◌+◌, ◌<◌, ◌≤◌, arith, List, [], ◌∷◌, Option, filter_map, option_to_list, All, AllPairs}
use Rattle.std.specs.Prelude.{Contains}
use Rattle.std.specs.List.{flat_map, range_with_len}
use Rattle.std.proofs.lemmas.Bool.{cases_lt}
use Rattle.std.proofs.lemmas.Grind.{common_steps}
use Rattle.std.proofs.lemmas.List.Elements.{All-nil, All-append, Contains-append_left, Contains-append_right}
use Rattle.list_laws.proofs.Elements.{AllPairs-append}

-- what is true of each piece is true of all
pub all_pieces : {X : Type 0} (P : X → Type 0) (f : ℕ → List X) (a n : ℕ) → ((k : ℕ) → a ≤ k → k < a + n → All P (f k)) → All P (flat_map f (range_with_len a n))
all_pieces P f a zero each = All-nil P
all_pieces P f a (suc n) each =
    All-append P (f a) (flat_map f (range_with_len (a + 1) n)) (each a (omega arith) (omega arith))
    (all_pieces P f (a + 1) n (λ k low high. each k (omega (arith, low)) (omega (arith, high))))

-- what is in one piece is among all
pub Contains-pieces : {X : Type 0} (f : ℕ → List X) (a n k : ℕ) (x : X) → a ≤ k → k < a + n → Contains (f k) x → Contains (flat_map f (range_with_len a n)) x
Contains-pieces f a zero k x low high there = absurd (omega arith)
Contains-pieces f a (suc n) k x low high there = by_place (cases_lt a k) (λ past. Contains-pieces f (a + 1) n k x past (omega arith) there)
  where
    by_place : (a < k) ⊎ (k ≤ a) → (a + 1 ≤ k → Contains (flat_map f (range_with_len (a + 1) n)) x) → Contains (flat_map f (range_with_len a (suc n))) x
    by_place (inl later) rest = Contains-append_right (f a) _ x (rest (omega arith))
    by_place (inr here) rest = let same : k ≡ a = omega arith in Contains-append_left (f a) _ x (rw same at there)

-- pieces in the order of their numbers, each in order, are in order
module _ {X : Type 0} (number : X → ℕ) (P : X → Type 0) (R : X → X → Type 0) (f : ℕ → List X) (own : (k : ℕ) → All (λ x. (number x ≡ k) × P x) (f k))
    (order : (x y : X) → P x → P y → number x < number y → R x y) (each : (k : ℕ) → AllPairs R (f k))
  where
    later : (a n : ℕ) → All (λ x. (a ≤ number x) × P x) (flat_map f (range_with_len a n))
    later a n =
        all_pieces (λ (x : X). (a ≤ number x) × P x) f a n
        (λ k low high i d within. (omega (arith, low, (own k i d within).0), (own k i d within).1))

    pub AllPairs-pieces : (a n : ℕ) → AllPairs R (flat_map f (range_with_len a n))
    AllPairs-pieces a zero = λ i j d before within. absurd (omega arith)
    AllPairs-pieces a (suc n) =
        AllPairs-append R (f a) (flat_map f (range_with_len (a + 1) n)) (each a) (AllPairs-pieces (a + 1) n)
        (λ k l d first second. order _ _ (own a k d first).1 (later (a + 1) n l d second).1 (omega (arith, (own a k d first).0, (later (a + 1) n l d second).0)))

-- what is given of some elements is put together of what is given of each
pub filter_map-pieces : {X Y : Type 0} (h : X → Option Y) (xs : List X) → filter_map h xs ≡ flat_map (λ x. option_to_list (h x)) xs
filter_map-pieces h [] = refl
filter_map-pieces h (x ∷ xs) = grind (arith, common_steps, filter_map-pieces h xs)
