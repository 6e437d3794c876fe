-- Lines in the order of their closings, and which of them are passed over.
use Rattle.std.proofs.Common.{◌≡◌, ◌∙◌, sym, ap, refl, inl, inr, ℕ, zero, suc, ◌+◌, ◌-◌, ◌<◌, ◌≤◌, ◌⊎◌, arith, Bool, true, false, List, [], ◌∷◌, ◌++◌, length, get_or, take, drop, append-nil}
use Rattle.std.specs.Prelude.{◌==◌, ◌&&◌, ◌||◌, nat_lt, nat_le, filter}
use Rattle.std.specs.List.Sorted.{IsPartitionPoint, IsPartitionedBy}
use Rattle.std.proofs.lemmas.{Bool.cases_lt, Bool.and_parts, Bool.eqb-true, Bool.Decides.nat_tests, List.Elements.filter_more}
use Rattle.book_search.proofs.Stretch.{filter_stretch}
use Rattle.voucher_core.specs.{declared.line.Line.Line, Lines.is_for}
use Rattle.office_answers.specs.Vouchers.{lines_of_closing}
use Rattle.office_answers.specs.InTurn.{turn_of, line_turn, ComesNoLater, StandInTurn, is_before}

-- ---- what comes before a turn of a closing

before_earlier : (m n own other closed turn : ℕ) → m < n → (nat_lt n closed || (n == closed && nat_lt other turn)) ≡ true →
    (nat_lt m closed || (m == closed && nat_lt own turn)) ≡ true
before_earlier m n own other closed turn less passes = grind (arith, nat_tests)

before_same : (m n own other closed turn : ℕ) → m ≡ n → own ≤ other → (nat_lt n closed || (n == closed && nat_lt other turn)) ≡ true →
    (nat_lt m closed || (m == closed && nat_lt own turn)) ≡ true
before_same m n own other closed turn same order passes = grind (arith, nat_tests)

before_too : (a b : Line) (closed turn : ℕ) → ComesNoLater a b → is_before closed turn b ≡ true → is_before closed turn a ≡ true
before_too a b closed turn (inl less) passes = before_earlier a.month b.month (line_turn a) (line_turn b) closed turn less passes
before_too a b closed turn (inr (same, order)) passes = before_same a.month b.month (line_turn a) (line_turn b) closed turn same order passes

pub turns_parted : (lines : List Line) (closed turn : ℕ) → StandInTurn lines → IsPartitionedBy (λ l. is_before closed turn l) lines
turns_parted lines closed turn in_turn i j d le within passed = by_place (cases_lt i j)
  where
    by_place : (i < j) ⊎ (j ≤ i) → is_before closed turn (get_or lines i d) ≡ true
    by_place (inl before) = before_too (get_or lines i d) (get_or lines j d) closed turn (in_turn i j d before within) passed
    by_place (inr from) = (let same : i ≡ j = omega arith in rw same passed)

-- ---- the lines of a closing

before_month : (m closed own : ℕ) → (nat_lt m closed || (m == closed && nat_lt own 0)) ≡ nat_lt m closed
before_month m closed own = grind (arith, nat_tests)

before_next : (m closed own : ℕ) → (nat_lt m (closed + 1) || (m == closed + 1 && nat_lt own 0)) ≡ nat_le m closed
before_next m closed own = grind (arith, nat_tests)

pub one_closing : (lines : List Line) (month i j : ℕ) → i ≤ length lines → j ≤ length (drop i lines) →
    IsPartitionPoint (λ l. is_before month 0 l ≡ true) (λ l. is_before month 0 l ≡ false) lines i →
    IsPartitionPoint (λ l. is_before (month + 1) 0 l ≡ true) (λ l. is_before (month + 1) 0 l ≡ false) (drop i lines) j →
    take j (drop i lines) ≡ lines_of_closing month lines
one_closing lines month i j le up first last =
    filter_stretch (λ (l : Line). l.month) lines month i j le up (
      λ k d low high. sym (before_month (get_or lines k d).month month (line_turn (get_or lines k d))) ∙ first.0 k d low high,
      λ k d low high. sym (before_month (get_or lines k d).month month (line_turn (get_or lines k d))) ∙ first.1 k d low high,
    ) (
      λ k d low high. sym (before_next (get_or (drop i lines) k d).month month (line_turn (get_or (drop i lines) k d))) ∙ last.0 k d low high,
      λ k d low high. sym (before_next (get_or (drop i lines) k d).month month (line_turn (get_or (drop i lines) k d))) ∙ last.1 k d low high,
    )

-- ---- the lines between two that are for a household and month

-- the closing from whose turn on the next can stand behind a line
pub record GoesOnAt (line : Line) (wanted closing : ℕ) : Type 0 where
  pub same : line_turn line ≤ wanted → closing ≡ line.month
  pub next : wanted < line_turn line → closing ≡ line.month + 1

before_own : (n closing turn : ℕ) → (nat_lt n closing || (n == closing && nat_lt turn turn)) ≡ true → n < closing
before_own n closing turn passes = grind (arith, nat_tests)

impossible : (line other : Line) (wanted closing : ℕ) → GoesOnAt line wanted closing → ComesNoLater line other → other.month < closing → line_turn other ≡ wanted → ⊥
impossible line other wanted closing goes_on (inl less) low is = by_turn (cases_lt wanted (line_turn line))
  where
    by_turn : (wanted < line_turn line) ⊎ (line_turn line ≤ wanted) → ⊥
    by_turn (inl later) = (let at = goes_on.next later in omega (arith, less, low))
    by_turn (inr sooner) = (let at = goes_on.same sooner in omega (arith, less, low))
impossible line other wanted closing goes_on (inr (same, order)) low is = (let at = goes_on.same (rw is at order) in omega (arith, same, low))

-- so none before it is for them
pub passed_over : (line other : Line) (household month closing : ℕ) → GoesOnAt line (turn_of month household) closing → ComesNoLater line other →
    is_before closing (turn_of month household) other ≡ true → is_for household month other ≡ false
passed_over line other household month closing goes_on follows passes = by_test (is_for household month other) refl
  where
    by_test : (test : Bool) → is_for household month other ≡ test → is_for household month other ≡ false
    by_test false is = is
    by_test true is =
        let both = and_parts (other.household == household) (other.for_month == month) is in
        let own_household : other.household ≡ household = eqb-true _ _ both.0 in
        let own_month : other.for_month ≡ month = eqb-true _ _ both.1 in
        let turn : line_turn other ≡ turn_of month household = cc (own_household, own_month) in
        let low : other.month < closing = before_own other.month closing (turn_of month household) (rw turn at passes) in
        absurd (impossible line other (turn_of month household) closing goes_on follows low turn)

-- ---- those that a walk keeps

module _ (p : Line → Bool) (lines : List Line) where
  -- where none passes behind a place, no more are kept
  none_kept : (at n : ℕ) (d : Line) → at + n ≤ length lines → ((k : ℕ) → at ≤ k → k < at + n → p (get_or lines k d) ≡ false) →
      filter p (take (at + n) lines) ≡ filter p (take at lines)
  none_kept at zero d le fails = let same : at + 0 ≡ at = omega arith in ap (λ (m : ℕ). filter p (take m lines)) same
  none_kept at (suc n) d le fails =
      let next : at + suc n ≡ (at + n) + 1 = omega arith in
      let fail : p (get_or lines (at + n) d) ≡ false = fails (at + n) (omega arith) (omega arith) in
      ap (λ (m : ℕ). filter p (take m lines)) next
      ∙ filter_more p lines (at + n) d (omega (arith, le))
      ∙ rw fail (append-nil (filter p (take (at + n) lines)))
      ∙ none_kept at n d (omega (arith, le)) (λ k low high. fails k low (omega (arith, high)))

  module _ (at next : ℕ) (line : Line) (kept more : List Line) (within : at < length lines) (is : get_or lines at line ≡ line) (after : at < next) (by : next ≤ length lines)
      (passed : (k : ℕ) (d : Line) → at < k → k < next → p (get_or lines k d) ≡ false) (so_far : kept ≡ filter p (take at lines))
    where
      to_next : filter p (take next lines) ≡ filter p (take (at + 1) lines)
      to_next =
          let count : next ≡ (at + 1) + (next - (at + 1)) = omega arith in
          ap (λ (m : ℕ). filter p (take m lines)) count
          ∙ none_kept (at + 1) (next - (at + 1)) line (omega arith) (λ k low high. passed k line (omega (arith, low)) (omega (arith, high)))

      pub kept_more : p line ≡ true → more ≡ kept ++ line ∷ [] → more ≡ filter p (take next lines)
      kept_more passes pushed =
          pushed ∙ ap (λ (ls : List Line). ls ++ line ∷ []) so_far ∙ sym (filter_more p lines at line within ∙ rw (is, passes) refl) ∙ sym to_next

      pub kept_same : p line ≡ false → more ≡ kept → more ≡ filter p (take next lines)
      kept_same fails same =
          same ∙ so_far ∙ sym (filter_more p lines at line within ∙ rw (is, fails) (append-nil (filter p (take at lines)))) ∙ sym to_next
