-- Lists of which nothing is left out, and of which nothing passes a test.
use Rattle.office_register.proofs.Words.{◌≡◌, append-nil, ◌≤◌, length, refl, ap, ℕ, ◌+◌, ◌-◌, List, [], ◌∷◌, ◌++◌, None, true, false, arith, filter, ◌==◌, nat_lt, nat_tests, room_of, with_place, common_steps}
use Prim.Native.Nat.{min}
use Rattle.std.specs.List.{filter_map}
use Rattle.wait_list.specs.Rank.{rank_of}
use Rattle.record_history.proofs.Kept.{is_household}
use Rattle.list_laws.proofs.Options.{option_or-none}

pub filter_whole : {A : Type 0} (xs : List A) → filter (λ x. true) xs ≡ xs
filter_whole [] = refl
filter_whole (x ∷ xs) = ap (λ rest. x ∷ rest) (filter_whole xs)

-- a list to which nothing is added, a list of which nothing is left out, and a value that is not set again
pub ruleset unchanged = (append-nil, filter_whole, option_or-none)

-- no preference is ranked where there are no ranks
unranked_at : (code : ℕ) → rank_of [] code ≡ None
unranked_at code = grind (arith, common_steps)

pub unranked : (codes : List ℕ) → filter_map (rank_of []) codes ≡ []
unranked [] = refl
unranked (code ∷ codes) = rw (unranked_at code) (unranked codes)

pub same_number : (number other : ℕ) → (number == other) ≡ (other == number)
same_number number other = grind (arith, nat_tests)

-- ---- lists of lists

-- the list of a household that is there
pub place_there : {T : Type 0} (lists : List (List T)) (room : List ℕ) (household : ℕ) → 1 ≤ room_of room household → household ≤ length lists →
    with_place lists (household - 1) ≡ lists
place_there lists room household has there =
    let is : 1 ≤ household = is_household room household has in
    let within : nat_lt (household - 1) (length lists) ≡ true = grind (arith, nat_tests) in
    rw within refl

-- a list for the household that comes next
pub place_next : {T : Type 0} (lists : List (List T)) (household : ℕ) → household ≡ length lists + 1 → with_place lists (household - 1) ≡ lists ++ [] ∷ []
place_next lists household next =
    let past : nat_lt (household - 1) (length lists) ≡ false = grind (arith, nat_tests) in
    rw past refl

-- the least of nine numbers doesn't fall if none of them does
pub least_kept : (a b c d e f g h i a2 b2 c2 d2 e2 f2 g2 h2 i2 : ℕ) → a ≤ a2 → b ≤ b2 → c ≤ c2 → d ≤ d2 → e ≤ e2 → f ≤ f2 → g ≤ g2 → h ≤ h2 → i ≤ i2 →
    min a (min (min b (min c d)) (min e (min f (min g (min h i))))) ≤ min a2 (min (min b2 (min c2 d2)) (min e2 (min f2 (min g2 (min h2 i2)))))
least_kept a b c d e f g h i a2 b2 c2 d2 e2 f2 g2 h2 i2 ka kb kc kd ke kf kg kh ki =
    both ka (both (both kb (both kc kd)) (both ke (both kf (both kg (both kh ki)))))
  where
    both : {m n p q : ℕ} → m ≤ p → n ≤ q → min m n ≤ min p q
    both first second = omega (arith, first, second)
