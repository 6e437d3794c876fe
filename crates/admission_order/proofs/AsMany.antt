-- As many pass among the live records in order as among them as they came.
use Rattle.std.proofs.Common.{◌≡◌, ◌≢◌, sym, refl, ◌+◌, ◌≤◌, suc, ◌==◌, Bool, true, false, not, List, [], ◌∷◌, length, get_or, arith, eq-eqb}
use Rattle.std.specs.Prelude.{All, AllPairs, Contains, filter}
use Rattle.std.proofs.lemmas.Bool.{ne_eqb}
use Rattle.std.proofs.lemmas.List.{Filters.length-filter_both, Kept.AllPairs-filter}
use Rattle.std.proofs.lemmas.List.Elements.{All-filter, filter_passes}
use Rattle.list_laws.proofs.Filters.{Contains-filter}
use Rattle.record_history.specs.{declared.records.Record.Record, Held.AreNumbered, Ordered.AreInOrder, Records.is_live, Records.live_records}
use Rattle.tenancy_rules.specs.Changed.{without}
use Rattle.tenancy_rules.proofs.Ordered.{own_live}

abbrev Apart : List Record → Type 0
Apart records = AllPairs (λ r other. r.number ≢ other.number) records

-- one goes at least
one_gone : (x : Record) (ys : List Record) → Contains ys x → length (without x.number ys) + 1 ≤ length ys
one_gone x ys there = counted (Contains-filter (λ (r : Record). r.number == x.number) ys x there (eq-eqb x.number x.number refl))
  where
    other : (same : Bool) → same ≡ not (not same)
    other true = refl
    other false = refl

    counted : Contains (filter (λ (r : Record). r.number == x.number) ys) x → length (without x.number ys) + 1 ≤ length ys
    counted (place, within, is) =
        omega (arith, within, length-filter_both (λ (r : Record). not (r.number == x.number)) (λ (r : Record). r.number == x.number) (λ r. other (r.number == x.number)) ys)

no_more : (xs ys : List Record) → Apart xs → All (Contains ys) xs → length xs ≤ length ys
no_more [] ys apart there = omega arith
no_more (x ∷ xs) ys apart there =
    omega (
      arith,
      one_gone x ys (there 0 x (omega arith)),
      no_more xs (without x.number ys) (λ i j d before within. apart (suc i) (suc j) d (omega (arith, before)) (omega (arith, within)))
          (λ k d within. Contains-filter (λ (r : Record). not (r.number == x.number)) ys (get_or xs k d) (there (suc k) d (omega (arith, within)))
          (rw (ne_eqb (get_or xs k d).number x.number (λ same. apart 0 (suc k) d (omega arith) (omega (arith, within)) (sym same))) refl)),
    )

-- where those that pass are among others, they pass there
passing : (p : Record → Bool) (xs ys : List Record) → All (Contains ys) xs → All (Contains (filter p ys)) (filter p xs)
passing p xs ys there k d within =
    Contains-filter p ys (get_or (filter p xs) k d) (All-filter p (Contains ys) xs there k d within) (filter_passes p xs k d within)

module _ (records live : List Record) (numbered : AreNumbered records) (in_order : AreInOrder (live_records records) live) where
  apart : Apart records
  apart i j d before within same = omega (arith, before, within, same, numbered.number i d (omega (arith, before, within)), numbered.number j d within)

  pub as_many : (p : Record → Bool) → length (filter p live) ≡ length (filter p (live_records records))
  as_many p =
      omega (
        arith,
        no_more (filter p live) (filter p (live_records records)) (AllPairs-filter (λ (r other : Record). r.number ≢ other.number) p live (own_live records live numbered in_order))
            (passing p live (live_records records) in_order.only),
        no_more (filter p (live_records records)) (filter p live)
            (AllPairs-filter (λ (r other : Record). r.number ≢ other.number) p (live_records records) (AllPairs-filter (λ (r other : Record). r.number ≢ other.number) (is_live records) records apart))
            (passing p (live_records records) live in_order.all),
      )
