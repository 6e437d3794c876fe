-- The stretches of days are the longest runs.
use Rattle.record_history.proofs.Words.{◌≡◌, ◌⊎◌, inl, inr, ℕ, ◌+◌, ◌-◌, ◌<◌, ◌≤◌, List, [], ◌∷◌, ◌++◌, length, get_or, take, map, max, refl, sym, ap, ◌∙◌, arith, nat_eq, cases_lt, All, All-nil, All-weaker, map_push, take_more, Stretch, stretches, stretch_of, CoverLongest, IsBy, Decides-eqb, Run}
use Rattle.record_history.proofs.EachDay.{IsOfItsDays, of_their_days, stretches_cover}

module _ (key_on : ℕ → ℕ) where
  -- before the first day there is none
  pub none_yet : (first next : ℕ) → next ≤ first → stretches nat_eq key_on first next ≡ []
  none_yet first next order = let none : next - first ≡ 0 = omega (arith, order) in rw none refl

  pub all_days : (first day last : ℕ) → last + 1 ≤ day → day ≤ max first (last + 1) → stretches nat_eq key_on first day ≡ stretches nat_eq key_on first (last + 1)
  all_days first day last from to = by_order (cases_lt (last + 1) first)
    where
      by_order : (last + 1 < first) ⊎ (first ≤ last + 1) → stretches nat_eq key_on first day ≡ stretches nat_eq key_on first (last + 1)
      by_order (inl past) = none_yet first day (omega (arith, past, to)) ∙ sym (none_yet first (last + 1) (omega (arith, past)))
      by_order (inr low) = let same : day ≡ last + 1 = omega (arith, from, to, low) in rw same refl

  pub covered : (first next : ℕ) → first ≤ next → CoverLongest key_on first next (stretches nat_eq key_on first next)
  covered first next order = stretches_cover key_on nat_eq Decides-eqb next first order

  pub stretches_by : (first next day : ℕ) → next ≤ day + 1 → All (IsBy day) (stretches nat_eq key_on first next)
  stretches_by first next day by = by_order (cases_lt next first)
    where
      by_order : (next < first) ⊎ (first ≤ next) → All (IsBy day) (stretches nat_eq key_on first next)
      by_order (inl past) = rw (none_yet first next (omega (arith, past))) (All-nil (IsBy day))
      by_order (inr low) =
          All-weaker (IsOfItsDays key_on first next) (IsBy day)
          (λ s of_days. (let order = of_days.in_order in let to = of_days.to in record { first = omega (arith, order, to, by); last = omega (arith, to, by) }))
          (stretches nat_eq key_on first next) (of_their_days key_on first next _ (covered first next low))

-- a run more
pub run_more : (days : List (Stretch ℕ)) (i : ℕ) (runs : List Run) (run : Run) (s : Stretch ℕ) → i < length days → s ≡ get_or days i s → stretch_of run ≡ s →
    map stretch_of runs ≡ take i days → map stretch_of (runs ++ run ∷ []) ≡ take (i + 1) days
run_more days i runs run s within at is so_far =
    map_push stretch_of runs run ∙ ap (λ (xs : List (Stretch ℕ)). xs ++ stretch_of run ∷ []) so_far
    ∙ ap (λ (t : Stretch ℕ). take i days ++ t ∷ []) (is ∙ at) ∙ sym (take_more days i s within)
