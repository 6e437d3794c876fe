-- On which days what is in force can change.
use Rattle.voucher_core.proofs.Words.{◌≡◌, ◌∙◌, sym, refl, ℕ, ◌<◌, ◌≤◌, ◌⊎◌, inl, inr, Bool, true, false, List, length, get_or, arith, nat_tests, All, Any, Contains, Option, Some, None, ◌+◌, take, IfSome, find, nat_le, nat_lt, not, ◌==◌, list_any, cases_lt, eqb-true, All-weaker, Contains-get_or, Record, AreNumbered, as_of, is_live, is_withdrawal, live_records, made_after, BeginsNotWithin, CorrectsNotWithin}
use Rattle.std.specs.List.Sorted.{IsPartitionPoint}
use Rattle.std.proofs.lemmas.{Bool.false≢true, Bool.and_parts, List.Folds.Any-from_list_any, List.Elements.All-contains, List.Elements.All-more}
use Rattle.list_laws.proofs.Filters.{Contains-filter, filter-contains}
use Rattle.record_history.specs.Ordered.{StandInOrder, AreInOrder}
use Rattle.record_history.proofs.ForceLemmas.{some_passes}
use Rattle.voucher_core.proofs.Named.{lead_back}

-- what doesn't begin before a day doesn't before an earlier one
pub not_sooner : (day next sooner : ℕ) → sooner ≤ next → (r : Record) → BeginsNotWithin day next r → BeginsNotWithin day sooner r
not_sooner day next sooner order r apart = record { outside = λ after. (let from = apart.outside after in omega arith) }

pub none_sooner : (day next sooner : ℕ) (records : List Record) → sooner ≤ next → All (BeginsNotWithin day next) records → All (BeginsNotWithin day sooner) records
none_sooner day next sooner records order all = All-weaker (BeginsNotWithin day next) (BeginsNotWithin day sooner) (not_sooner day next sooner order) records all

if_sooner : (day next sooner : ℕ) (found : Option Record) → sooner ≤ next → IfSome found (BeginsNotWithin day next) → IfSome found (BeginsNotWithin day sooner)
if_sooner day next sooner None order apart = tt
if_sooner day next sooner (Some r) order apart = not_sooner day next sooner order r apart

corrected_sooner : (records : List Record) (day next sooner : ℕ) → sooner ≤ next → (r : Record) → CorrectsNotWithin records day next r → CorrectsNotWithin records day sooner r
corrected_sooner records day next sooner order r apart = record {
  corrected = if_sooner day next sooner (find (λ (c : Record). c.number == r.corrects) records) order apart.corrected;
}

-- one record more is looked at
pub corrected_more : (records newer : List Record) (day next sooner i : ℕ) (r : Record) → i < length newer → get_or newer i r ≡ r → sooner ≤ next →
    All (CorrectsNotWithin records day next) (take i newer) → CorrectsNotWithin records day sooner r → All (CorrectsNotWithin records day sooner) (take (i + 1) newer)
corrected_more records newer day next sooner i r within at order so_far apart =
    All-more (CorrectsNotWithin records day sooner) newer i r within
    (All-weaker (CorrectsNotWithin records day next) (CorrectsNotWithin records day sooner) (corrected_sooner records day next sooner order) (take i newer) so_far)
    (rw at apart)

-- what holds of those that stand in order holds of the same ones in any order
pub all_in_order : (P : Record → Type 0) (records ordered : List Record) → AreInOrder records ordered → All P ordered → All P records
all_in_order P records ordered same all =
    All-weaker (Contains ordered) P (λ r has. All-contains P ordered r all has) records same.all

-- the first that hasn't begun begins before those behind it
pub first_behind : (live : List Record) (day next k : ℕ) → StandInOrder live →
    IsPartitionPoint (λ r. nat_le r.from day ≡ true) (λ r. nat_le r.from day ≡ false) live k →
    ((d : Record) → k < length live → next ≤ (get_or live k d).from) → All (BeginsNotWithin day next) live
first_behind live day next k in_order point ends i d within = record { outside = λ after. by_place after (cases_lt i k) (cases_lt k i) }
  where
    by_place : day < (get_or live i d).from → (i < k) ⊎ (k ≤ i) → (k < i) ⊎ (i ≤ k) → next ≤ (get_or live i d).from
    by_place after (inl begun) _ = (let has = point.0 i d (omega arith) begun in absurd (grind (arith, nat_tests)))
    by_place after (inr _) (inl behind) =
        (let first = ends d (omega arith) in let ordered = in_order k i d behind within in grind (arith, nat_tests))
    by_place after (inr from) (inr to) = (let same : k ≡ i = omega arith in rw same at (ends d (omega arith)))

module _ (records : List Record) (numbered : AreNumbered records) (act day next : ℕ)
    (counting : All (BeginsNotWithin day next) (live_records records)) (newer : All (CorrectsNotWithin records day next) (made_after act records)) where
  abbrev known : List Record
  known = as_of act records

  -- a record that counted as of the act counts still, or a later act corrects it
  counted : (r : Record) → Contains records r → is_live known r ≡ true → BeginsNotWithin day next r
  counted r has was = by_now (is_live records r) refl
    where
      corrects : Record → Bool
      corrects other = other.corrects == r.number

      parts : (is_withdrawal r.kind ≡ false) × (list_any corrects known ≡ false)
      parts = (let both = and_parts (not (is_withdrawal r.kind)) (not (list_any corrects known)) was in grind (arith, nat_tests))

      by_later : (other : Record) → Contains records other → corrects other ≡ true → (later : Bool) → nat_lt act other.act ≡ later → BeginsNotWithin day next r
      by_later other there passes false is =
          let early : nat_le other.act act ≡ true = grind (arith, nat_tests) in
          absurd (false≢true (sym parts.1 ∙ some_passes corrects known other (Contains-filter (λ (q : Record). nat_le q.act act) records other there early) passes))
      by_later other there passes true is =
          let apart = All-contains (CorrectsNotWithin records day next) (made_after act records) other newer
          (Contains-filter (λ (q : Record). nat_lt act q.act) records other there is) in
          let number : other.corrects ≡ r.number = eqb-true other.corrects r.number passes in
          let found : find (λ (c : Record). c.number == r.number) records ≡ Some r =
          All-contains (λ (q : Record). find (λ c. c.number == q.number) records ≡ Some q) records r (lead_back records numbered) has in
          rw (number, found) at apart.corrected

      by_corrected : Any (λ other. corrects other ≡ true) records → BeginsNotWithin day next r
      by_corrected (place, other, low, at, passes) = by_later other (place, low, at) passes (nat_lt act other.act) refl

      by_now : (now : Bool) → is_live records r ≡ now → BeginsNotWithin day next r
      by_now true is = All-contains (BeginsNotWithin day next) (live_records records) r counting (Contains-filter (is_live records) records r has is)
      by_now false is =
          let some : list_any corrects records ≡ true = grind (arith, nat_tests, parts.0) in
          by_corrected (Any-from_list_any corrects records some)

  pub counted_apart : All (BeginsNotWithin day next) (live_records (as_of act records))
  counted_apart k d within =
      let kept = filter-contains (is_live known) known _ (Contains-get_or (live_records known) k d within) in
      let early = filter-contains (λ (q : Record). nat_le q.act act) records _ kept.0 in
      counted _ early.0 kept.1
