-- Lines that are gathered one after another.
use Rattle.voucher_core.proofs.Words.{◌≡◌, ℕ, zero, suc, ◌+◌, ◌-◌, ◌<◌, ◌≤◌, List, [], ◌∷◌, ◌++◌, length, map, take, drop, get_or, set, Option, Some, None, pos, ◌-ℤ◌, max, false, refl, ap, sym, ◌∙◌, subst, arith, append_assoc, to_z, of_z, w32, SomeIff, ◌==◌, ne_eqb, Record, range_with_len, flat_map, ints, to_z-of_z, to_z_pos, flat_map_more, map_push, take_more, drop_more, append-nil, length-take-le, Closing, Line, known_as_of, lines_for, adjustment_lines, placed, range-more}
use Rattle.std.proofs.Math.Seq.{set-append_seam, get_or-append_seam}
use Rattle.days_core.specs.RentBounds.{most_gross_rent}

-- the value that is there
pub unwrapped : {T : Type 0} (o : Option T) (P : Type 0) (v x : T) → SomeIff o P v → o ≡ Some x → x ≡ v
unwrapped o P v x h e = (subst (λ (q : Option _). SomeIff q P v) e h).1

-- and where none is, it can't be
pub nothing_there : {T : Type 0} (o : Option T) (P : Type 0) (v : T) → SomeIff o P v → o ≡ None → ¬ P
nothing_there o P v h e = subst (λ (q : Option _). SomeIff q P v) e h

-- one piece more
pub pieces-more : (f : ℕ → List Line) (a k : ℕ) (start lines new : List Line) → a ≤ k → lines ≡ start ++ flat_map f (range_with_len a (k - a)) →
    new ≡ lines ++ f k → new ≡ start ++ flat_map f (range_with_len a (k + 1 - a))
pieces-more f a k start lines new low so_far more =
    let at : k ≡ a + (k - a) = omega arith in
    let count : suc (k - a) ≡ k + 1 - a = omega arith in
    more ∙ ap (λ (ls : List Line). ls ++ f k) so_far ∙ ap (λ (n : ℕ). (start ++ flat_map f (range_with_len a (k - a))) ++ f n) at
    ∙ flat_map_more f start (range_with_len a (k - a)) (a + (k - a)) ∙ ap (λ (ks : List ℕ). start ++ flat_map f ks) (sym (range-more a (k - a)))
    ∙ ap (λ (n : ℕ). start ++ flat_map f (range_with_len a n)) count

-- one more of some items
pub some-more : {T : Type 0} (f : ℕ → List Line) (of : T → ℕ) (xs : List T) (i : ℕ) (d : T) (start lines new : List Line) → i < length xs →
    lines ≡ start ++ flat_map f (map of (take i xs)) → new ≡ lines ++ f (of (get_or xs i d)) → new ≡ start ++ flat_map f (map of (take (i + 1) xs))
some-more f of xs i d start lines new within so_far more =
    more ∙ ap (λ (ls : List Line). ls ++ f (of (get_or xs i d))) so_far ∙ flat_map_more f start (map of (take i xs)) (of (get_or xs i d))
    ∙ ap (λ (ks : List ℕ). start ++ flat_map f ks) (sym (ap (map of) (take_more xs i d within) ∙ map_push of (take i xs) (get_or xs i d)))

-- and one that adds nothing
pub none-more : (lines new none : List Line) → new ≡ lines → none ≡ [] → new ≡ lines ++ none
none-more lines new none same is = same ∙ sym (append-nil lines) ∙ ap (λ (ls : List Line). lines ++ ls) (sym is)

-- no piece yet, where each so far adds nothing
pub pieces-none : (f : ℕ → List Line) (a k : ℕ) (start : List Line) → a ≤ k → ((n : ℕ) → a ≤ n → n < k → f n ≡ []) →
    start ≡ start ++ flat_map f (range_with_len a (k - a))
pieces-none f a k start low none =
    sym (append-nil start) ∙ ap (λ (ls : List Line). start ++ ls) (sym (all_none a (k - a) (λ n from to. none n from (omega (arith, to)))))
  where
    all_none : (first count : ℕ) → ((n : ℕ) → first ≤ n → n < first + count → f n ≡ []) → flat_map f (range_with_len first count) ≡ []
    all_none first zero each = refl
    all_none first (suc count) each =
        rw (each first (omega arith) (omega arith)) (all_none (first + 1) count (λ n from to. each n (omega (arith, from)) (omega (arith, to))))

-- all adjustments
pub adjustments-all : (own : ℕ → List Record) (count : ℕ) (closing : Closing) (month : ℕ) (start lines : List Line) → (closing.last_close ≡ 0 → ⊥) →
    closing.first_month ≤ month → closing.closed ≤ month → month ≤ max closing.first_month closing.closed →
    lines ≡ start ++ flat_map (lines_for (known_as_of own closing.last_close) (known_as_of own closing.act) count closing) (range_with_len closing.first_month (month - closing.first_month)) →
    lines ≡ start ++ adjustment_lines own count closing
adjustments-all own count closing month start lines some low after within so_far =
    let test : (closing.last_close == 0) ≡ false = ne_eqb closing.last_close 0 some in
    let count' : month - closing.first_month ≡ closing.closed - closing.first_month = omega arith in
    rw test (so_far ∙ ap (λ (n : ℕ). start ++ flat_map (lines_for (known_as_of own closing.last_close) (known_as_of own closing.act) count closing) (range_with_len closing.first_month n)) count')

-- the amount of a line
pub amount_is : (a b : ℕ) → a ≤ most_gross_rent → b ≤ most_gross_rent → to_z w32 (of_z w32 (to_z w32 a -ℤ to_z w32 b)) ≡ pos a -ℤ pos b
amount_is a b low high = grind (arith, ints, to_z-of_z, to_z_pos)

-- Places ----

-- one line more has the next place
placed-push : (place : ℕ) (lines : List Line) (l : Line) → placed place (lines ++ l ∷ []) ≡ placed place lines ++ record l { place = place + length lines } ∷ []
placed-push place [] l = let same : place ≡ place + 0 = omega arith in ap (λ (n : ℕ). record l { place = n } ∷ []) same
placed-push place (k ∷ lines) l =
    let same : place + 1 + length lines ≡ place + length (k ∷ lines) = omega arith in
    ap (λ (ls : List Line). record k { place = place } ∷ ls)
    (placed-push (place + 1) lines l ∙ ap (λ (n : ℕ). placed (place + 1) lines ++ record l { place = n } ∷ []) same)

pub length-placed : (place : ℕ) (lines : List Line) → length (placed place lines) ≡ length lines
length-placed place [] = refl
length-placed place (l ∷ lines) = ap suc (length-placed (place + 1) lines)

-- the next line gets its place
pub place_next : (lines whole : List Line) (at : ℕ) (l : Line) → at < length whole → lines ≡ placed 1 (take at whole) ++ drop at whole → l ≡ get_or lines at l →
    set lines at (record l { place = at + 1 }) ≡ placed 1 (take (at + 1) whole) ++ drop (at + 1) whole
place_next lines whole at l within is there =
    let long : length (take at whole) ≡ at = length-take-le at whole (let order : at ≤ length whole = omega arith in order) in
    let placed_long : at ≡ length (placed 1 (take at whole)) = sym (length-placed 1 (take at whole) ∙ long) in
    let split : lines ≡ placed 1 (take at whole) ++ get_or whole at l ∷ drop (at + 1) whole =
    is ∙ ap (λ (ls : List Line). placed 1 (take at whole) ++ ls) (drop_more whole at l within) in
    let found : l ≡ get_or whole at l =
    there ∙ ap (λ (ls : List Line). get_or ls at l) split
    ∙ ap (λ (k : ℕ). get_or (placed 1 (take at whole) ++ get_or whole at l ∷ drop (at + 1) whole) k l) placed_long
    ∙ get_or-append_seam (placed 1 (take at whole)) (get_or whole at l) (drop (at + 1) whole) l in
    let next : at + 1 ≡ 1 + length (take at whole) = omega arith in
    ap (λ (ls : List Line). set ls at (record l { place = at + 1 })) split
    ∙ ap (λ (k : ℕ). set (placed 1 (take at whole) ++ get_or whole at l ∷ drop (at + 1) whole) k (record l { place = at + 1 })) placed_long
    ∙ set-append_seam (placed 1 (take at whole)) (get_or whole at l) (drop (at + 1) whole) (record l { place = at + 1 })
    ∙ sym (append_assoc (placed 1 (take at whole)) (record l { place = at + 1 } ∷ []) (drop (at + 1) whole))
    ∙ ap (λ (ls : List Line). ls ++ drop (at + 1) whole)
    (ap (λ (k : Line). placed 1 (take at whole) ++ record k { place = at + 1 } ∷ []) found
    ∙ ap (λ (n : ℕ). placed 1 (take at whole) ++ record (get_or whole at l) { place = n } ∷ []) next
    ∙ sym (placed-push 1 (take at whole) (get_or whole at l)) ∙ ap (placed 1) (sym (take_more whole at l within)))
