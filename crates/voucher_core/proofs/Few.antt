-- How many lines a closing has at most.
use Rattle.days_core.specs.OfficeDays.{first_office_month, last_office_month}
use Rattle.voucher_core.proofs.Words.{ℕ, ◌+◌, ◌-◌, ◌*◌, ◌<◌, ◌≤◌, List, length, pos, arith, length-append, map, not, ◌==◌, range_with_len, flat_map, int_eq, length-map, sum_by-le, days_in_bounds, first_of, last_of, first_of-suc, Record, as_of, Closing, Line, change_on, changes, line_of, month_lines, known_as_of, lines_for, adjustment_lines, closing_lines, filter_few, cond_both, length-flat_map, length-range_with_len, cover_few}
use Rattle.voucher_core.proofs.{Covered.month_covered, Settled.nothing}

-- pieces of at most so many lines
few_pieces : (f : ℕ → List Line) (a n most : ℕ) → ((k : ℕ) → length (f k) ≤ most) → length (flat_map f (range_with_len a n)) ≤ n * most
few_pieces f a n most each =
    rw length-flat_map (rw length-range_with_len at (sum_by-le (λ (k : ℕ). length (f k)) most (range_with_len a n) (λ k d within. each _)))

few_of_month : (closing : Closing) (household month : ℕ) (old new : List Record) → length (month_lines closing household month old new) ≤ 31
few_of_month closing household month old new =
    let passing = filter_few (λ (l : Line). not (int_eq l.amount (pos 0))) (map (line_of closing household month old new) (changes old new month)) in
    let few = cover_few (change_on old new) (first_of month) (last_of month + 1) (changes old new month) (month_covered old new month) in
    omega (arith, length-map (changes old new month) (line_of closing household month old new), first_of-suc month, (days_in_bounds month).1)

few_for : (own : ℕ → List Record) (count : ℕ) (closing : Closing) (before : ℕ → List Record) (month : ℕ) → count ≤ 100000 →
    length (lines_for before (known_as_of own closing.act) count closing month) ≤ 3100000
few_for own count closing before month low =
    let each = λ (h : ℕ). few_of_month closing h month (before h) (as_of closing.act (own h)) in
    let all = few_pieces (λ (h : ℕ). month_lines closing h month (before h) (as_of closing.act (own h))) 1 count 31 each in
    omega arith

few_adjustments : (own : ℕ → List Record) (count : ℕ) (closing : Closing) → count ≤ 100000 → first_office_month ≤ closing.first_month → closing.closed ≤ last_office_month →
    length (adjustment_lines own count closing) ≤ 3716900000
few_adjustments own count closing low first last =
    let each = λ (month : ℕ). few_for own count closing (known_as_of own closing.last_close) month low in
    let all = few_pieces (lines_for (known_as_of own closing.last_close) (known_as_of own closing.act) count closing) closing.first_month (closing.closed - closing.first_month) 3100000 each in
    cond_both (closing.last_close == 0) _ _ (λ lines. length lines ≤ 3716900000) (λ _. omega arith) (λ _. omega arith)

pub few : (own : ℕ → List Record) (count : ℕ) (closing : Closing) → count ≤ 100000 → first_office_month ≤ closing.first_month → closing.closed ≤ last_office_month →
    length (closing_lines own count closing) < 4294967296
few own count closing low first last =
    let before = few_adjustments own count closing low first last in
    let now = few_for own count closing nothing closing.closed low in
    omega (arith, length-append (adjustment_lines own count closing) (lines_for nothing (known_as_of own closing.act) count closing closing.closed))
