-- What it comes to that a double use is found, or none.
use Rattle.tenancy_rules.proofs.Words.{◌≡◌, ℕ, ◌<◌, ◌≤◌, Bool, true, false, length, Option, Some, None, arith, ◌==◌, not, is_some, and_parts, eqb-false, not-true, IsFirst, first-is, live_records, records_of, changed_records, occupied_unit_on, is_one_unit, have_one_unit_on, is_rival_on, first_rival_on, first_rivalry, use_on, NoUnitHasTwo, DoubleUseHasTwo, nat_tests, common_steps}
use Rattle.tenancy_rules.proofs.Rivals.{first_before-is, rivalry}

module _ (is_rival : ℕ → ℕ → Bool) (count end : ℕ) where
  module _ (rival_on : ℕ → Option ℕ) (found : Option ℕ) (rivals : (day : ℕ) → IsFirst (λ other. is_rival other day) 1 count (rival_on day))
      (first : IsFirst (λ day. is_some (rival_on day)) 0 end found) where
    none_among : rivalry rival_on found ≡ None → (other day : ℕ) → 1 ≤ other → other ≤ count → day < end → is_rival other day ≡ false
    none_among none other day one most before = grind (arith, common_steps, rivals day)

    found_among : (other day : ℕ) → rivalry rival_on found ≡ Some (use_on day other) → (day < end) × (is_rival other day ≡ true)
    found_among other day some = grind (arith, common_steps, rivals day)

  -- where no rivalry is found there is none
  pub none_found : first_rivalry is_rival count end ≡ None → (other day : ℕ) → 1 ≤ other → other ≤ count → day < end → is_rival other day ≡ false
  none_found = none_among (first_rival_on is_rival count) _ (λ day. first-is (λ other. is_rival other day) 1 count) (first_before-is end _)

  -- the rivalry that is found is one
  pub rival_found : (other day : ℕ) → first_rivalry is_rival count end ≡ Some (use_on day other) → (day < end) × (is_rival other day ≡ true)
  rival_found = found_among (first_rival_on is_rival count) _ (λ day. first-is (λ other. is_rival other day) 1 count) (first_before-is end _)

-- two that have one unit
pub both_have : (own other : Option ℕ) → is_one_unit own other ≡ true → (unit : ℕ) × (own ≡ Some unit) × (other ≡ Some unit)
both_have own other is = grind (arith, nat_tests, common_steps)

pub no_unit_has_two : NoUnitHasTwo
unfolding is_rival_on
no_unit_has_two households household change none other day unit one most another by own_has other_has =
    let fails = none_found (is_rival_on households household change) (length households) 80354 none other day one most (omega (arith, by)) in
    let now = rw (own_has, other_has) at fails in
    grind (arith, nat_tests)

pub double_use_has_two : DoubleUseHasTwo
unfolding is_rival_on
double_use_has_two households household change double some =
    let found = rival_found (is_rival_on households household change) (length households) 80354 double.household double.day some in
    let parts = and_parts (not (double.household == household)) (have_one_unit_on (changed_records (records_of households household) change) (live_records (records_of households double.household)) double.day) found.1 in
    let shared = both_have (occupied_unit_on (changed_records (records_of households household) change) double.day) (occupied_unit_on (live_records (records_of households double.household)) double.day) parts.1 in
    (eqb-false double.household household (not-true (double.household == household) parts.0), omega (arith, found.0), shared.0, shared.1, shared.2)
