-- The numbers of the changed records rise.
use Rattle.tenancy_rules.proofs.Words.{◌≡◌, ℕ, ◌+◌, ◌<◌, List, ◌++◌, Option, Some, None, arith, append-nil, All, IfSome, All-filter, Record, live_records, newest_number, AreNumbered, Change, without, listed, changed_records, AddsNext, NumbersRise, AllPairs-filter, all_pairs_push}

pub rise : (records : List Record) → AreNumbered records → NumbersRise records
rise records numbered = λ i j d before within. omega (arith, numbered.number i d (omega (arith, before, within)), numbered.number j d within)

pub none_above : (records : List Record) → AreNumbered records → All (λ r. r.number < newest_number records + 1) records
none_above records numbered = λ k d within. omega (arith, numbered.number k d within, numbered.newest)

-- the records that stay
kept-rise : (records : List Record) (number : ℕ) → AreNumbered records → NumbersRise (without number (live_records records))
kept-rise records number numbered = search (AllPairs-filter, rise)

pub changed-rise : (records : List Record) (household : ℕ) (change : Change) → AreNumbered records → AddsNext records household change →
    NumbersRise (changed_records records change)
changed-rise records household change numbered next = by_added change.add next
  where
    kept : List Record
    kept = without change.«drop» (live_records records)

    by_added : (add : Option Record) → IfSome add (λ r. (r.household ≡ household) × (r.number ≡ newest_number records + 1)) → NumbersRise (kept ++ listed add)
    by_added None none = rw append-nil (kept-rise records change.«drop» numbered)
    by_added (Some r) is =
        let below : All (λ held. held.number < newest_number records + 1) kept = search (All-filter, none_above records numbered) in
        all_pairs_push (λ (held next : Record). held.number < next.number) kept r (kept-rise records change.«drop» numbered) (λ k d within. omega (arith, below k d within, is.1))
