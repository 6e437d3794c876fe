-- Whether two households have one unit changes only as their records begin.
use Rattle.tenancy_rules.proofs.Words.{◌≡◌, ◌∙◌, sym, ap, ℕ, Bool, true, List, ◌++◌, Option, Some, None, arith, ◌&&◌, ◌==◌, not, nat_le, map, filter, fold, option_and_then, All, Contains, IfSome, false≢true, and_parts, nat_tests, All-append, All-contains, All-contains_itself, All-filter, All-weaker, filter_passes, ChangesAtBeginnings, latest-among, Record, live_records, comes_before, latest, records_of, Change, listed, changed_records, unit_kept, occupied_unit_on, is_one_unit, have_one_unit_on, is_rival_on, first_day_before, sooner_beginning, filter_alike, fold-append, All-both, All-left, All-right, All-unmap, Contains-map}
use Rattle.tenancy_rules.proofs.Beginning.{first_beginning-is}

-- what holds of each record holds of each that is among them
among_all : (P : Record → Type 0) (records some : List Record) → All (Contains records) some → All P records → All P some
among_all P records some among all = All-weaker (Contains records) P (λ r contains. All-contains P records r all contains) some among

-- where no record begins between two days the household has one unit on both
occupied-alike : (records : List Record) (day next : ℕ) → All (λ r. nat_le r.from day ≡ nat_le r.from next) records →
    occupied_unit_on records day ≡ occupied_unit_on records next
occupied-alike records day next alike =
    ap (λ (begun : List Record). option_and_then unit_kept (latest begun)) (filter_alike (λ (r : Record). nat_le r.from day) (λ r. nat_le r.from next) records alike)

module _ (records others beginning : List Record) (among : All (Contains beginning) records) (others_among : All (Contains beginning) others) where
  -- so whether two have one unit changes only as a record of either begins
  one_unit-changes : ChangesAtBeginnings (have_one_unit_on records others) (map (λ r. r.from) beginning)
  one_unit-changes day next le nothing =
      let alike : Record → Type 0 = λ r. nat_le r.from day ≡ nat_le r.from next in
      let all = All-unmap (λ (b : ℕ). nat_le b day ≡ nat_le b next) (λ (r : Record). r.from) beginning nothing in
      ap (λ (unit : Option ℕ). is_one_unit unit (occupied_unit_on others day)) (occupied-alike records day next (among_all alike beginning records among all))
      ∙ ap (is_one_unit (occupied_unit_on records next)) (occupied-alike others day next (among_all alike beginning others others_among all))

  -- and on the first day of all they have only where one begins then
  one_unit-on_first : have_one_unit_on records others 0 ≡ true → Contains (map (λ r. r.from) beginning) 0
  one_unit-on_first have =
      let begun : List Record = filter (λ r. nat_le r.from 0) records in
      by_force (latest begun)
      (latest-among comes_before (λ r. Contains beginning r × (nat_le r.from 0 ≡ true)) None begun tt
      (All-both (Contains beginning) (λ r. nat_le r.from 0 ≡ true) begun
      (All-filter (λ r. nat_le r.from 0) (Contains beginning) records among)
      (filter_passes (λ r. nat_le r.from 0) records)))
      have
    where
      by_force : (force : Option Record) → IfSome force (λ r. Contains beginning r × (nat_le r.from 0 ≡ true)) →
          is_one_unit (option_and_then unit_kept force) (occupied_unit_on others 0) ≡ true → Contains (map (λ r. r.from) beginning) 0
      by_force None has is = absurd (false≢true is)
      by_force (Some r) (contains, by) is =
          let first : r.from ≡ 0 = grind (arith, nat_tests) in
          rw first at (Contains-map (λ (q : Record). q.from) beginning r contains)

-- the days on which records of either household begin that count show the first on which they have one unit
pub first_shared-is : (households : List (List Record)) (household : ℕ) (change : Change) (other end : ℕ) (own others : List Record) →
    All (Contains own) (live_records (records_of households household)) → All (Contains others) (live_records (records_of households other)) →
    let step = sooner_beginning (is_rival_on households household change other) end in
    fold step (fold step (fold step None own) others) (listed change.add) ≡ first_day_before end (is_rival_on households household change other)
unfolding is_rival_on
first_shared-is households household change other end own others own_there others_there =
    let step = sooner_beginning (is_rival_on households household change other) end in
    let own_live : List Record = live_records (records_of households household) in
    let others_live : List Record = live_records (records_of households other) in
    let added : List Record = listed change.add in
    let beginning : List Record = (own ++ others) ++ added in
    let all : All (Contains beginning) beginning = All-contains_itself beginning in
    let own_among = among_all (Contains beginning) own own_live own_there (All-left (Contains beginning) own others (All-left (Contains beginning) (own ++ others) added all)) in
    let live_among = among_all (Contains beginning) others others_live others_there (All-right (Contains beginning) own others (All-left (Contains beginning) (own ++ others) added all)) in
    let changed_among : All (Contains beginning) (changed_records (records_of households household) change) =
    All-append (Contains beginning) _ added (search (All-filter, own_among)) (All-right (Contains beginning) (own ++ others) added all) in
    ap (λ (first : Option ℕ). fold step first added) (sym (fold-append step None own others))
    ∙ sym (fold-append step None (own ++ others) added)
    ∙ first_beginning-is (is_rival_on households household change other) end beginning
    (λ day next le nothing. ap (λ (one : Bool). not (other == household) && one)
    (one_unit-changes (changed_records (records_of households household) change) others_live beginning changed_among live_among day next le nothing))
    (λ rival. one_unit-on_first (changed_records (records_of households household) change) others_live beginning changed_among live_among
    (and_parts (not (other == household)) (have_one_unit_on (changed_records (records_of households household) change) others_live 0) rival).1)

-- two searches one after the other, and the step for the added record, are the search through all
module _ (step : Option ℕ → Record → Option ℕ) (own others : List Record) (change : Change) (by_own by_both found : Option ℕ) where
  pub searched-added : (added : Record) (last : Option ℕ) → by_own ≡ fold step None own →
      by_both ≡ fold step by_own others → change.add ≡ Some added → last ≡ step by_both added →
      fold step (fold step (fold step None own) others) (listed change.add) ≡ found → last ≡ found
  searched-added added last own_by both_by add_is last_is all = cc

  pub searched-none : by_own ≡ fold step None own → by_both ≡ fold step by_own others → change.add ≡ None →
      fold step (fold step (fold step None own) others) (listed change.add) ≡ found → by_both ≡ found
  searched-none own_by both_by add_is all = cc
