-- 6 and 7: what the clerk saw of the household.
use Rattle.std.proofs.Common.{◌≡◌, ◌∙◌, sym, ap, refl, ℕ, ◌≤◌, inl, inr, arith, List, [], ◌∷◌, max, fold, ◌⊎◌}
use Rattle.std.specs.Prelude.{Contains, nat_lt, All}
use Rattle.std.proofs.lemmas.{Bool.ltb-true, Bool.lt-ltb, Bool.cases_lt}
use Rattle.std.proofs.lemmas.List.Elements.{All-nil, All-cons, All-contains, Contains-append_right}
use Rattle.record_history.specs.{declared.records.Record.Record, Records.newest_number}
use Rattle.office_step.specs.{declared.refusal.Refusal.Refusal, Matter.own, Refusals.refused_if}
use Rattle.office_step.proofs.Exactly.Options.{refused_if-some, and_then-some}
use Rattle.office_step.specs.plain.Seen.{IsNewest, StaleIsPlain, UnseenIsPlain}

-- the greatest of a number and those of the records
greatest : ℕ → List Record → ℕ
greatest most records = fold (λ most r. max most r.number) most records

newest-from : (most : ℕ) (records : List Record) → (most ≤ greatest most records) × All (λ r. r.number ≤ greatest most records) records
    × (((r : Record) × Contains records r × (r.number ≡ greatest most records)) ⊎ (greatest most records ≡ most))
unfolding greatest
newest-from most [] = (omega arith, All-nil (λ (r : Record). r.number ≤ most), inr refl)
newest-from most (r ∷ rs) =
    let rest = newest-from (max most r.number) rs in (
      omega (arith, rest.0),
      All-cons (λ (q : Record). q.number ≤ fold (λ most r. max most r.number) (max most r.number) rs) r rs (omega (arith, rest.0)) rest.1,
      elim rest.2 [
        | inl later ↦ inl (later.0, Contains-append_right (r ∷ []) rs later.0 later.1, later.2)
        | inr same ↦ elim (cases_lt most r.number) [
          | inl less ↦ inl (r, (0, omega arith, refl), omega (arith, same, less))
          | inr more ↦ inr (omega (arith, same, more))
        ]
      ],
    )

is_newest : (records : List Record) → IsNewest records (newest_number records)
unfolding greatest
is_newest records =
    let from = newest-from 0 records in record {
      greatest = λ r held. All-contains (λ (q : Record). q.number ≤ newest_number records) records r from.1 held;
      one_of = by_records records from.2;
    }
  where
    by_records : (records : List Record) → (((r : Record) × Contains records r × (r.number ≡ newest_number records)) ⊎ (newest_number records ≡ 0)) →
        ((r : Record) × Contains records r × (r.number ≡ newest_number records)) ⊎ ((records ≡ []) × (newest_number records ≡ 0))
    by_records [] of = inr (refl, refl)
    by_records (r ∷ rs) (inl of) = inl of
    by_records (r ∷ rs) (inr none) = inl (r, (0, omega arith, refl), omega (arith, none, (newest-from 0 (r ∷ rs)).1 0 r (omega arith)))

-- there is one greatest number
same_newest : (records : List Record) (newest : ℕ) → IsNewest records newest → newest_number records ≡ newest
same_newest records newest is = by_cases (is_newest records) is.one_of (is_newest records).one_of
  where
    by_cases : IsNewest records (newest_number records) → (((r : Record) × Contains records r × (r.number ≡ newest)) ⊎ ((records ≡ []) × (newest ≡ 0))) →
        (((r : Record) × Contains records r × (r.number ≡ newest_number records)) ⊎ ((records ≡ []) × (newest_number records ≡ 0))) →
        newest_number records ≡ newest
    by_cases its (inl of) (inl other) = omega (arith, its.greatest of.0 of.1, of.2, is.greatest other.0 other.1, other.2)
    by_cases its (inr none) _ = ap newest_number none.0 ∙ sym none.1
    by_cases its (inl of) (inr none) = omega (arith, its.greatest of.0 of.1, of.2, is.greatest of.0 of.1, none.1)

pub stale_is_plain : StaleIsPlain
stale_is_plain about refusal = (
  λ is. (let seen = and_then-some (λ seen. refused_if (nat_lt seen (newest_number (own about))) (Refusal.Stale (newest_number (own about)))) about.seen refusal is in
      let has = refused_if-some (nat_lt seen.0 (newest_number (own about))) (Refusal.Stale (newest_number (own about))) refusal seen.2 in
      record { seen = seen.0; newest = newest_number (own about); told = has.1; saw = seen.1; its = is_newest (own about); below = ltb-true seen.0 (newest_number (own about)) has.0 }),
  λ stands. rw (stands.saw, same_newest (own about) stands.newest stands.its, lt-ltb stands.seen stands.newest stands.below, stands.told) refl,
)

pub unseen_is_plain : UnseenIsPlain
unseen_is_plain about refusal = (
  λ is. (let seen = and_then-some (λ seen. refused_if (nat_lt (newest_number (own about)) seen) (Refusal.Unseen (newest_number (own about)))) about.seen refusal is in
      let has = refused_if-some (nat_lt (newest_number (own about)) seen.0) (Refusal.Unseen (newest_number (own about))) refusal seen.2 in
      record { seen = seen.0; newest = newest_number (own about); told = has.1; saw = seen.1; its = is_newest (own about); above = ltb-true (newest_number (own about)) seen.0 has.0 }),
  λ stands. rw (stands.saw, same_newest (own about) stands.newest stands.its, lt-ltb stands.newest stands.seen stands.above, stands.told) refl,
)
