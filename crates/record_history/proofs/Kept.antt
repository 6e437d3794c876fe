-- What is kept of the records of each household.
use Rattle.record_history.proofs.Words.{◌≡◌, ◌⊎◌, ℕ, ◌+◌, ◌-◌, ◌<◌, ◌≤◌, List, [], ◌∷◌, ◌++◌, length, get_or, refl, arith, All, All-nil, All-push, nat_tests, Record, newest_number, newest_act, All-cons, fold, max, all_pairs_push, IsWithin, AreNumbered, ActsRise, AreKept, Follows, records_of, room_of, places_push, get_or_past, common_steps}

pub kept_none : AreKept []
kept_none = record {
  within = All-nil IsWithin;
  numbered = record { number = λ place d within. absurd (omega arith); newest = refl };
  acts = λ i j d before within. absurd (omega (arith, before, within));
  earlier = All-nil (λ (r : Record). r.corrects < r.number);
}

-- no act is later than the newest
pub acts_by : (most : ℕ) (records : List Record) → (most ≤ fold (λ most r. max most r.act) most records) ×
    All (λ r. r.act ≤ fold (λ most r. max most r.act) most records) records
acts_by most [] = (omega arith, All-nil (λ (r : Record). r.act ≤ most))
acts_by most (r ∷ rs) =
    let rest = acts_by (max most r.act) rs in
    (omega (arith, rest.0), All-cons (λ (q : Record). q.act ≤ fold (λ most r. max most r.act) (max most r.act) rs) r rs (omega (arith, rest.0)) rest.1)

acts_push : (records : List Record) (held : Record) → ActsRise records → newest_act records < held.act → ActsRise (records ++ held ∷ [])
acts_push records held rise later =
    all_pairs_push (λ (r next : Record). r.act < next.act) records held rise (λ k d within. omega (arith, later, (acts_by 0 records).1 k d within))

pub numbered_push : (records : List Record) (held : Record) → AreNumbered records → held.number ≡ newest_number records + 1 → AreNumbered (records ++ held ∷ [])
numbered_push records held numbered next = record {
  number = places_push (λ place (r : Record). r.number ≡ place + 1) records held numbered.number (omega (arith, next, numbered.newest));
  newest = grind (arith, common_steps, next, numbered.newest);
}

-- a record more is kept
pub kept_push : (records : List Record) (held : Record) → AreKept records → Follows records held → AreKept (records ++ held ∷ [])
kept_push records held kept follows = record {
  within = All-push IsWithin records held kept.within follows.within;
  numbered = numbered_push records held kept.numbered follows.number;
  acts = acts_push records held kept.acts follows.act;
  earlier = All-push (λ (r : Record). r.corrects < r.number) records held kept.earlier follows.earlier;
}

-- a household is there where there is room for it
pub is_household : (room : List ℕ) (household : ℕ) → 1 ≤ room_of room household → 1 ≤ household
is_household room household has = grind (arith, nat_tests)

pub records_at : (households : List (List Record)) (household : ℕ) → 1 ≤ household → records_of households household ≡ get_or households (household - 1) []
records_at households household has = grind (arith, nat_tests)

-- a household has no records, or is one of those that are there
pub records_cases : (households : List (List Record)) (household : ℕ) →
    (records_of households household ≡ []) ⊎ ((1 ≤ household) × (household ≤ length households))
records_cases households household = grind (arith, nat_tests, get_or_past)

pub records_past : (households : List (List Record)) (household : ℕ) → length households < household → records_of households household ≡ []
records_past households household past = grind (arith, nat_tests, get_or_past)
