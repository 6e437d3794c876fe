-- What it comes to that no record is out of order.
use Rattle.tenancy_rules.proofs.Words.{◌≡◌, ◌≢◌, refl, ℕ, true, false, List, get_or, Option, Some, None, arith, filter, All, Contains, IfSome, IsSomeAnd, false≢true, and_parts, not-false, false_from_ne_true, nat_tests, All-contains, latest-is, pairs_order, pairs_order-turned, pair_comes_before, Record, comes_before, NumbersRise, is_move_out, may_follow, has_its_unit, record_before, is_in_order, comes_after, earliest, is_out_of_order, first_out_of_order, get_or_default, Kind}

-- each record stands where it may
pub in_order : (records : List Record) → first_out_of_order records ≡ None → All (λ r. is_in_order (record_before records r) r ≡ true) records
unfolding is_out_of_order
in_order records none k d within =
    let law = latest-is comes_after (is_out_of_order records) records (pairs_order-turned (λ r. r.from) (λ r. r.number)) in
    not-false _ (false_from_ne_true (is_out_of_order records (get_or records k d)) (λ out. rw none at (law.last k d within out)))

-- a kind that something may follow is no move-out
pub followed : (earlier next : Kind) → may_follow earlier next ≡ true → is_move_out earlier ≡ false
followed Kind.MO next is = absurd (false≢true is)
followed _ next is = refl

-- of two records with one number both are the same
pub same_record : (records : List Record) (first second : Record) → NumbersRise records → Contains records first → Contains records second →
    first.number ≡ second.number → first ≡ second
same_record records first second rise (k, within, is) (k', within', is') same =
    grind (arith, rise k k' first, rise k' k first, get_or_default records k' first second within')

-- two records of which neither comes before the other have one number
pub neither : (from number other_from other_number : ℕ) → pair_comes_before from number other_from other_number ≡ false →
    pair_comes_before other_from other_number from number ≡ false → number ≡ other_number
neither from number other_from other_number e f = grind (arith, nat_tests)

-- nothing comes after a move-out
pub nothing_follows_move_out : (records : List Record) → NumbersRise records → first_out_of_order records ≡ None → (earlier r : Record) →
    Contains records earlier → Contains records r → comes_before earlier r ≡ true → is_move_out earlier.kind ≡ false
nothing_follows_move_out records rise none earlier r has_earlier has_r before =
    let law = latest-is comes_after (comes_before earlier) records (pairs_order-turned (λ q. q.from) (λ q. q.number)) in
    by_next (earliest (filter (comes_before earlier) records)) law.among law.last
  where
    by_previous : (next : Record) → Contains records next → All (λ q. comes_before earlier q ≡ true → comes_before q next ≡ false) records →
        (previous : Option Record) → IfSome previous (λ p. Contains records p × (comes_before p next ≡ true)) →
        IsSomeAnd previous (λ p. comes_before p earlier ≡ false) → is_in_order previous next ≡ true → is_move_out earlier.kind ≡ false
    by_previous next has_next last None among behind stands = absurd behind
    by_previous next has_next last (Some p) (has_p, p_before) behind stands =
        let none_between = All-contains (λ q. comes_before earlier q ≡ true → comes_before q next ≡ false) records p last has_p in
        let not_after : comes_before earlier p ≡ false = false_from_ne_true (comes_before earlier p) (λ is. (let not_before = none_between is in cc)) in
        let same : p ≡ earlier = same_record records p earlier rise has_p has_earlier (neither p.from p.number earlier.from earlier.number behind not_after) in
        rw (← same) (followed p.kind next.kind (and_parts (may_follow p.kind next.kind) (has_its_unit p next) stands).0)

    by_next : (next : Option Record) → IfSome next (λ q. Contains records q × (comes_before earlier q ≡ true)) →
        All (λ q. comes_before earlier q ≡ true → IsSomeAnd next (λ best. comes_after best q ≡ false)) records → is_move_out earlier.kind ≡ false
    by_next None among last =
        absurd (All-contains (λ q. comes_before earlier q ≡ true → IsSomeAnd {T = Record} None (λ best. comes_after best q ≡ false)) records r last has_r before)
    by_next (Some next) (has_next, next_after) last =
        let law = latest-is comes_before (λ q. comes_before q next) records (pairs_order (λ q. q.from) (λ q. q.number)) in
        by_previous next has_next last (record_before records next) law.among
        (All-contains (λ q. comes_before q next ≡ true → IsSomeAnd (record_before records next) (λ best. comes_before best q ≡ false)) records earlier law.last has_earlier next_after)
        (All-contains (λ q. is_in_order (record_before records q) q ≡ true) records next (in_order records none) has_next)
