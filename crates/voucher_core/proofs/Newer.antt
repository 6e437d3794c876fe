-- The newest records, and from which day on they touch a household.
use Rattle.voucher_core.proofs.Words.{◌≡◌, ℕ, zero, suc, ◌<◌, ◌≤◌, List, [], ◌∷◌, Bool, true, false, length, get_or, drop, refl, sym, arith, nat_tests, All, nat_le, nat_lt, ◌==◌, ◌&&◌, eqb-true, filter_all, All-passing, last_of, first_of-suc, days_in_bounds, Record, AreNumbered, ActsRise, made_after, earlier_start, is_newly_corrected, is_touched, TouchesFrom}
use Rattle.std.specs.List.Sorted.{IsPartitionPoint, IsPartitionedBy}
use Rattle.std.specs.Prelude.{min}
use Rattle.std.proofs.lemmas.{Bool.and_parts, List.Folds.Any-from_list_any, List.Sorted.IsPartitionedBy-leb}
use Rattle.days_core.specs.Calendar.{last_month, month_of}
use Rattle.days_core.proofs.Bridge.{first_of_mono, first_of-end, month_up_to_begins}
use Rattle.voucher_core.proofs.Named.{lead_back}

-- The newest records ----

-- where each is of a later act than those before it, those up to an act stand first
pub known_first : (records : List Record) (act : ℕ) → ActsRise records → IsPartitionedBy (λ r. nat_le r.act act) records
known_first records act rise = IsPartitionedBy-leb (λ (r : Record). r.act) records act (λ i j d le within. grind (arith, rise i j d))

is_later : (act last : ℕ) → nat_le act last ≡ false → nat_lt last act ≡ true
is_later act last is = grind (arith, nat_tests)

is_known : (act last : ℕ) → nat_le act last ≡ true → nat_lt last act ≡ false
is_known act last is = grind (arith, nat_tests)

-- and the others are the rest
pub rest_later : (records : List Record) (last k : ℕ) → k ≤ length records →
    IsPartitionPoint (λ r. nat_le r.act last ≡ true) (λ r. nat_le r.act last ≡ false) records k → drop k records ≡ made_after last records
rest_later [] last zero le point = refl
rest_later [] last (suc k) le point = absurd (omega (arith, le))
rest_later (r ∷ rs) last zero le point =
    sym (filter_all (λ (q : Record). nat_lt last q.act) (r ∷ rs) (λ k d within. is_later _ last (point.1 k d (omega arith) within)))
rest_later (r ∷ rs) last (suc k) le point =
    rw (is_known r.act last (point.0 0 r (omega arith) (omega arith)))
    (rest_later rs last k (omega (arith, le))
    (λ i d low high. point.0 (suc i) d (omega arith) (omega (arith, high)), λ i d low high. point.1 (suc i) d (omega (arith, low)) (omega (arith, high))))

-- What they touch ----

module _ (records : List Record) (numbered : AreNumbered records) (last day : ℕ)
    (each : All (λ r. day ≤ earlier_start records r) (made_after last records))
  where
    newer : All (λ r. nat_lt last r.act ≡ true → day ≤ earlier_start records r) records
    newer = All-passing (λ (r : Record). nat_lt last r.act) (λ r. day ≤ earlier_start records r) records each

    corrected : All (λ r. is_newly_corrected last records r.number ≡ true → day ≤ r.from) records
    corrected k d within is =
        let number = (get_or records k d).number in
        let (place, other, low, at, passes) = Any-from_list_any (λ (o : Record). nat_lt last o.act && o.corrects == number) records is in
        let both = and_parts (nat_lt last other.act) (other.corrects == number) passes in
        let start : day ≤ earlier_start records other = rw at at (newer place other low (rw at both.0)) in
        let at_both : day ≤ min other.from (get_or records k d).from = rw (eqb-true other.corrects number both.1, lead_back records numbered k d within) at start in
        omega (arith, at_both)

    -- a record is touched by itself or by one that corrects it
    pub touches : TouchesFrom last records day
    touches = record { from = λ k d within touched. by_either k d within touched (nat_lt last (get_or records k d).act) refl }
      where
        by_either : (k : ℕ) (d : Record) → k < length records → is_touched last records (get_or records k d) ≡ true → (own : Bool) → nat_lt last (get_or records k d).act ≡ own →
            day ≤ (get_or records k d).from
        by_either k d within touched true is = omega (arith, newer k d within is)
        by_either k d within touched false is = corrected k d within (rw is at touched)

-- Months before a day ----

-- a month before that of a day ends before the day
pub ends_before : (month day : ℕ) → month < month_of day → last_of month < day
ends_before month day before =
    omega (arith, first_of_mono (suc month) (month_of day) (omega arith), month_up_to_begins last_month day, first_of-suc month, days_in_bounds month)

-- and each month before those that the calendar doesn't have
pub ends_by_last : (month day : ℕ) → month ≤ 3839 → 116877 < day → last_of month < day
ends_by_last month day within past = omega (arith, first_of_mono (suc month) 3840 (omega arith), first_of-end)
