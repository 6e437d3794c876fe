-- The live records of a household with a record more that corrects none.
use Rattle.office_laws.proofs.Words.{nat_tests, ◌≡◌, arith, refl, ◌<◌, ◌==◌, false, true, not, List, [], ◌∷◌, ◌++◌, Some, AllPairs, All-filter, AllPairs-filter, Record, is_withdrawal, is_live, live_records, without, Command, Known, own_in, record_of, IsInOrder, Passed, filter_all, rise, ℕ}
use Rattle.office_laws.proofs.InOrder.{live_changed}

module _ (known : Known) (most today : ℕ) (asked : Command) (r : Record) (free : Passed known most today asked)
    (is : record_of known asked ≡ Some r) (own : IsInOrder (own_in known r.household)) where
  abbrev pub lived : List Record
  lived = live_records (own_in known r.household)

  -- records are numbered from 1
  nothing_dropped : without 0 lived ≡ lived
  nothing_dropped =
      filter_all (λ (held : Record). not (held.number == 0)) lived
      (All-filter (is_live (own_in known r.household)) (λ held. not (held.number == 0) ≡ true) (own_in known r.household)
      (λ k d within. grind (arith, nat_tests, own.numbered.number k d within)))

  pub lives_more : is_withdrawal r.kind ≡ false → r.corrects ≡ 0 → live_records (own_in known r.household ++ r ∷ []) ≡ lived ++ r ∷ []
  lives_more kind zero = rw (live_changed known most today asked r free is own, kind, zero, nothing_dropped) refl

  pub rises : AllPairs (λ (held next : Record). held.number < next.number) lived
  rises =
      AllPairs-filter (λ (held next : Record). held.number < next.number) (is_live (own_in known r.household)) (own_in known r.household)
      (rise (own_in known r.household) own.numbered)
