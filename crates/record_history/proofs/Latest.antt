-- What is true of the record in force.
use Rattle.record_history.proofs.Words.{◌≡◌, ℕ, ◌-◌, ◌≤◌, List, [], get_or, None, ap, All, filter, IfSome, nat_le, ◌==◌, le-leb, All-filter, latest-among, Record, AreKept, as_of, is_live, live_records, comes_before, latest, in_force, in_force_as_of, records_of, All-place, cond_both, filter_all, filter_alike}
use Rattle.record_history.proofs.Kept.{kept_none}

-- the records of a household are as those of each are
pub records_are : (P : List Record → Type 0) (households : List (List Record)) (household : ℕ) → All P households → P [] → P (records_of households household)
records_are P households household all none =
    cond_both (household == 0) [] (get_or households (household - 1) []) P (λ _. none) (λ _. All-place P households (household - 1) [] all none)

pub own_kept : (households : List (List Record)) (household : ℕ) → All AreKept households → AreKept (records_of households household)
own_kept households household all = records_are AreKept households household all kept_none

-- and so is the one in force, where all are
pub in_force_is : (P : Record → Type 0) (records : List Record) (act day : ℕ) → All P records → IfSome (in_force_as_of act records day) P
in_force_is P records act day all =
    latest-among comes_before P None (filter (λ r. nat_le r.from day) (live_records (as_of act records))) tt (search (All-filter, all))

pub in_force_among : (P : Record → Type 0) (records : List Record) (day : ℕ) → All P records → IfSome (in_force records day) P
in_force_among P records day all =
    latest-among comes_before P None (filter (λ r. nat_le r.from day) (live_records records)) tt (search (All-filter, all))

-- where no act is later, the record in force as of that act is in force
pub in_force_known : (act : ℕ) (records : List Record) (day : ℕ) → All (λ r. r.act ≤ act) records → in_force_as_of act records day ≡ in_force records day
in_force_known act records day all =
    ap (λ (known : List Record). in_force known day)
    (filter_all (λ (r : Record). nat_le r.act act) records (λ k d within. le-leb (get_or records k d).act act (all k d within)))

-- where no record begins between two days the same is in force on both
pub in_force_alike : (records : List Record) (day next : ℕ) → All (λ r. nat_le r.from day ≡ nat_le r.from next) records →
    in_force records day ≡ in_force records next
in_force_alike records day next alike =
    ap latest (filter_alike (λ (r : Record). nat_le r.from day) (λ r. nat_le r.from next) (live_records records)
    (All-filter (is_live records) (λ (r : Record). nat_le r.from day ≡ nat_le r.from next) records alike))
