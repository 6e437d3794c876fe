-- No unit has two households where their records name none in common.
use Rattle.std.proofs.Common.{◌≡◌, ◌≢◌, ◌∙◌, ap, refl, subst, ℕ, ◌-◌, ◌<◌, ◌≤◌, arith, Bool, true, false, not, ◌==◌, ◌||◌, List, Option, Some, None, option_and_then, filter, nat_le, Contains, IfSome, length, get_or, if◌then◌else◌}
use Rattle.std.specs.List.{list_all, range_with_len}
use Rattle.std.specs.Option.{option_map}
use Rattle.std.proofs.lemmas.{Bool.ne_eqb, Bool.Decides.nat_tests, Grind.common_steps, List.Sums.AllPass-from_list_all}
use Rattle.std.proofs.lemmas.List.Elements.{All-filter, All-contains_itself, All-contains}
use Rattle.std.proofs.lemmas.List.FromFn.{length-range_with_len, get_or-range_with_len}
use Rattle.row_choice.proofs.LatestLemmas.{latest-among}
use Rattle.record_history.specs.{declared.records.Record.Record, Records.live_records, Records.latest, Records.comes_before, Held.records_of}
use Rattle.tenancy_rules.specs.{declared.change.Change.Change, declared.occupancy.DoubleUse.DoubleUse, Changed.changed_records, Occupancy.occupied_unit_on, Occupancy.unit_kept, Occupancy.first_double_use}
use Rattle.tenancy_rules.proofs.FirstUse.{no_double_use}
use Rattle.office_step.specs.{declared.refusal.Refusal.Refusal, Matter.Matter, Households.change_by, Against.may_collide}
use Rattle.manual_acts.proofs.Tests.{taken_by}

-- none of the records names a unit that one of the others names
abbrev have_own_units : List Record → List Record → Bool
have_own_units records others = list_all (λ r. list_all (λ other. not (r.unit == other.unit)) others) records

-- after the change no other household's live records name a unit that this one's name
abbrev stays_apart : List (List Record) → ℕ → Change → ℕ → Bool
stays_apart households household change other =
    other == household || have_own_units (changed_records (records_of households household) change) (live_records (records_of households other))

abbrev pub all_apart : List (List Record) → ℕ → Change → Bool
all_apart households household change = list_all (stays_apart households household change) (range_with_len 1 (length households))

-- who has a unit has a record in it
occupied_by : (records : List Record) (day unit : ℕ) → occupied_unit_on records day ≡ Some unit → (r : Record) × Contains records r × (r.unit ≡ unit)
occupied_by records day unit is =
    by_force (latest (filter (λ (r : Record). nat_le r.from day) records))
    (latest-among comes_before (Contains records) None (filter (λ (r : Record). nat_le r.from day) records) tt
    (All-filter (λ (r : Record). nat_le r.from day) (Contains records) records (All-contains_itself records))) is
  where
    by_force : (force : Option Record) → IfSome force (Contains records) → option_and_then unit_kept force ≡ Some unit → (r : Record) × Contains records r × (r.unit ≡ unit)
    by_force None among is = absurd (cc)
    by_force (Some r) among is = (r, among, grind (arith, common_steps, is))

clash : (records others : List Record) (day unit : ℕ) → have_own_units records others ≡ true → occupied_unit_on records day ≡ Some unit →
    occupied_unit_on others day ≢ Some unit
clash records others day unit own has other_has =
    let by = occupied_by records day unit has in
    let other = occupied_by others day unit other_has in
    let r : Record = by.0 in
    let q : Record = other.0 in
    let first : list_all (λ (o : Record). not (r.unit == o.unit)) others ≡ true =
    All-contains (λ (s : Record). list_all (λ (o : Record). not (s.unit == o.unit)) others ≡ true) records r
    (AllPass-from_list_all (λ (s : Record). list_all (λ (o : Record). not (s.unit == o.unit)) others) records own) by.1 in
    let second : not (r.unit == q.unit) ≡ true =
    All-contains (λ (o : Record). not (r.unit == o.unit) ≡ true) others q (AllPass-from_list_all (λ (o : Record). not (r.unit == o.unit)) others first) other.1 in
    let same : r.unit ≡ unit = by.2 in
    let other_same : q.unit ≡ unit = other.2 in
    apart r.unit q.unit second (omega arith)
  where
    apart : (a b : ℕ) → not (a == b) ≡ true → a ≢ b
    apart a b is same = grind (arith, nat_tests)

at_household : (test : ℕ → Bool) (count household : ℕ) → list_all test (range_with_len 1 count) ≡ true → 1 ≤ household → household ≤ count →
    test household ≡ true
at_household test count household all least most =
    let within : household - 1 < length (range_with_len 1 count) = omega (arith, length-range_with_len 1 count) in
    let it : get_or (range_with_len 1 count) (household - 1) 0 ≡ household = omega (arith, get_or-range_with_len 1 count (household - 1) 0 (omega arith)) in
    subst (λ (h : ℕ). test h ≡ true) it (AllPass-from_list_all test (range_with_len 1 count) all (household - 1) 0 within)

pub apart : (households : List (List Record)) (household : ℕ) (change : Change) → all_apart households household change ≡ true →
    first_double_use households household change ≡ None
apart households household change all =
    (no_double_use households household change).1 (λ any double.
    let passes : stays_apart households household change any.household ≡ true =
    at_household (stays_apart households household change) (length households) any.household all double.least double.most in
    let other : (any.household == household) ≡ false = ne_eqb any.household household double.another in
    clash (changed_records (records_of households household) change) (live_records (records_of households any.household)) any.day double.unit
    (rw other at passes) double.own double.others)

-- so the unit isn't taken
pub not_taken : (about : Matter) (made : Record) → all_apart about.known.households made.household (change_by made) ≡ true → taken_by about (Some made) ≡ None
not_taken about made all =
    ap (λ (found : Option DoubleUse). if may_collide about then option_map (λ (f : DoubleUse). Refusal.UnitTaken f.household f.day) found else None)
    (apart about.known.households made.household (change_by made) all)
    ∙ neither (may_collide about)
  where
    neither : (test : Bool) → ◌≡◌ {A = Option Refusal} (if test then None else None) None
    neither true = refl
    neither false = refl
