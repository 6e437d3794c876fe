-- The first rivalry among some households, when one household more is looked at.
use Rattle.tenancy_rules.proofs.Words.{◌≡◌, ◌∙◌, ap, ℕ, suc, ◌+◌, Bool, [], ◌∷◌, Option, Some, None, arith, add-one, find, is_some, option_and_then, if◌then◌else◌, option_map, option_map_or, option_or, range_with_len, find-append, IsFirst, first-is, first_rival_on, first_day_before, first_rivalry, DoubleUse, use_on, sooner_rivalry, common_steps, range_more}

pub first_before-is : (end : ℕ) (passes : ℕ → Bool) → IsFirst passes 0 end (first_day_before end passes)
unfolding first_day_before
first_before-is end passes = first-is passes 0 end

-- the day with its rival
abbrev pub rivalry : (ℕ → Option ℕ) → Option ℕ → Option DoubleUse
rivalry rival_on found = option_and_then (λ day. option_map (use_on day) (rival_on day)) found

-- the first of the households so far, or else the one more
rival-more : (is_rival : ℕ → ℕ → Bool) (count day : ℕ) →
    first_rival_on is_rival (count + 1) day ≡ option_or (first_rival_on is_rival count day) (if is_rival (count + 1) day then Some (count + 1) else None)
rival-more is_rival count day =
    ap (find (λ other. is_rival other day)) (rw add-one (range_more 1 count (suc count) (omega arith)))
    ∙ find-append (λ other. is_rival other day) (range_with_len 1 count) ((count + 1) ∷ [])

module _ (rival next_rival : ℕ → Option ℕ) (is_more : ℕ → Bool) (more end : ℕ)
    (one_more : (day : ℕ) → next_rival day ≡ option_or (rival day) (if is_more day then Some more else None)) where
  abbrev bound : Option ℕ → ℕ
  bound found = option_map_or (λ (found : DoubleUse). found.day) (rivalry rival found) end

  -- the first day with a rival is that of the one more, where that comes before that of the households so far
  step : (found sooner next : Option ℕ) → IsFirst (λ day. is_some (rival day)) 0 end found → IsFirst is_more 0 (bound found) sooner →
      IsFirst (λ day. is_some (next_rival day)) 0 end next → rivalry next_rival next ≡ option_map_or (λ day. Some (use_on day more)) sooner (rivalry rival found)
  step found sooner next first first_more first_next =
      let first_of_both : next ≡ option_or sooner found = grind (arith, common_steps, one_more) in
      rw first_of_both (grind (arith, common_steps, one_more))

-- the first rivalry among one household more
pub first_rivalry-more : (is_rival : ℕ → ℕ → Bool) (count end : ℕ) →
    first_rivalry is_rival (count + 1) end ≡ sooner_rivalry is_rival end (first_rivalry is_rival count end) (count + 1)
first_rivalry-more is_rival count end =
    step (first_rival_on is_rival count) (first_rival_on is_rival (count + 1)) (is_rival (count + 1)) (count + 1) end (rival-more is_rival count) _ _ _
    (first_before-is end _) (first_before-is _ (is_rival (count + 1))) (first_before-is end _)
