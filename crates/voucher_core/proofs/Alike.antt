-- Where no record begins between two days, the same is in force on both.
use Rattle.voucher_core.proofs.Words.{◌≡◌, ℕ, ◌<◌, ◌≤◌, List, Option, ap, arith, All, nat_le, nat_tests, option_map_or, filter_alike, Record, live_records, latest, in_force, number_on, change_on, BeginsNotWithin}

-- where no record that counts begins between two days, the same is in force on both
same_on : (records : List Record) (day next other : ℕ) → All (BeginsNotWithin day next) (live_records records) → day ≤ other → other < next →
    in_force records other ≡ in_force records day
same_on records day next other apart from to =
    ap latest (filter_alike (λ (r : Record). nat_le r.from other) (λ r. nat_le r.from day) (live_records records) begun_alike)
  where
    -- each has begun on both days or on neither
    begun_alike : All (λ r. nat_le r.from other ≡ nat_le r.from day) (live_records records)
    begun_alike k d within = let outside = (apart k d within).outside in grind (arith, nat_tests)

same_number : (records : List Record) (day next other : ℕ) → All (BeginsNotWithin day next) (live_records records) → day ≤ other → other < next →
    number_on records other ≡ number_on records day
same_number records day next other apart from to = ap (λ (o : Option Record). option_map_or (λ r. r.number) o 0) (same_on records day next other apart from to)

pub change_alike : (before now : List Record) (day next other : ℕ) → All (BeginsNotWithin day next) (live_records before) →
    All (BeginsNotWithin day next) (live_records now) → day ≤ other → other < next → change_on before now other ≡ change_on before now day
change_alike before now day next other old new from to = cc (same_number before day next other old from to, same_number now day next other new from to)
