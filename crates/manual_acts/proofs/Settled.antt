-- What it comes to that neither old rents nor a missing annual stands against a closing.
use Rattle.std.proofs.Common.{◌≡◌, ◌∙◌, ap, refl, ℕ, ◌+◌, ◌<◌, ◌≤◌, arith, Bool, true, false, not, ◌&&◌, ◌||◌, nat_le, List, [], ◌∷◌, Option, Some, None, option_and_then, filter, map, IfSome, length, if◌then◌else◌}
use Rattle.std.specs.{List.list_all, List.range_with_len, Option.option_map, Option.option_map_or}
use Rattle.std.proofs.lemmas.{Bool.and_parts, Bool.leb-true, Bool.lt-leb, List.Sums.AllPass-from_list_all}
use Rattle.std.proofs.lemmas.List.Elements.{All-filter}
use Rattle.days_core.specs.{Calendar.last_of, Calendar.month_of, OfficeDays.last_office_day}
use Rattle.days_core.proofs.Bridge.{month_of_mono}
use Rattle.row_choice.proofs.LatestLemmas.{latest-among}
use Rattle.record_history.specs.{declared.records.Record.Record, Records.is_live, Records.live_records, Records.in_force, Records.comes_before}
use Rattle.rent_table.specs.{declared.rows.Unit.Unit as UnitRow, declared.rows.RentRow.RentRow, Table.unit_at, Table.rents_on, Table.rent_row_on, Table.rents_before, Table.rents_begin_by}
use Rattle.tenancy_rules.specs.Order.{earliest}
use Rattle.due_dates.specs.Stale.{ends_assistance, are_other_rents, has_stale_rents, is_rent_stale_on}
use Rattle.due_dates.proofs.LeastLemmas.{least_that-is}
use Rattle.office_step.specs.{declared.refusal.Refusal.Refusal, Known.Known, Known.own_in, Households.begins_year}
use Rattle.office_step.specs.Refusals.{first_of, household_rent_due, household_overdue, overdue_day, base, is_unpaid}
use Rattle.office_step.specs.Against.{rents_due, all_overdue, plan_day}
use Rattle.manual_acts.proofs.Days.{month_52595}

-- none of the households that pass is refused
none_refused : (refused : ℕ → Option Refusal) (passes : ℕ → Bool) → ((household : ℕ) → passes household ≡ true → refused household ≡ None) →
    (households : List ℕ) → list_all passes households ≡ true → first_of (map refused households) ≡ None
none_refused refused passes none [] all = refl
none_refused refused passes none (household ∷ households) all =
    let both = and_parts (passes household) (list_all passes households) all in
    rw (none household both.0) (none_refused refused passes none households both.1)

neither : (test : Bool) → ◌≡◌ {A = Option Refusal} (if test then None else None) None
neither true = refl
neither false = refl

-- ---- rents

-- it ends assistance, or no row sets other rents than its own
abbrev has_rents_of_all : List RentRow → Record → Bool
has_rents_of_all rows r = ends_assistance r.kind || list_all (λ row. not (are_other_rents r.rents row.rents)) rows

abbrev SetsNoOther : Record → RentRow → Type 0
SetsNoOther r row = not (are_other_rents r.rents row.rents) ≡ true

not_other : (rows : List RentRow) (r : Record) (group day : ℕ) → list_all (λ row. not (are_other_rents r.rents row.rents)) rows ≡ true →
    option_map_or (are_other_rents r.rents) (rents_on rows group day) false ≡ false
not_other rows r group day all =
    by_row (rent_row_on rows group day) (latest-among rents_before (SetsNoOther r) None (filter (rents_begin_by group day) rows) tt
    (All-filter (rents_begin_by group day) (SetsNoOther r) rows (AllPass-from_list_all (λ (row : RentRow). not (are_other_rents r.rents row.rents)) rows all)))
  where
    off : (test : Bool) → not test ≡ true → test ≡ false
    off true is = absurd (cc)
    off false is = refl

    by_row : (row : Option RentRow) → IfSome row (SetsNoOther r) → option_map_or (are_other_rents r.rents) (option_map (λ row. row.rents) row) false ≡ false
    by_row None same = refl
    by_row (Some row) same = off (are_other_rents r.rents row.rents) same

module _ (records : List Record) (units : List UnitRow) (rows : List RentRow) (all : list_all (has_rents_of_all rows) records ≡ true) (day : ℕ) where
  abbrev Fine : Record → Type 0
  Fine r = has_rents_of_all rows r ≡ true

  by_test : (ends same stale : Bool) → (ends || same) ≡ true → (same ≡ true → stale ≡ false) → (not ends && stale) ≡ false
  by_test true same stale is none = refl
  by_test false same stale is none = none is

  by_unit : (r : Record) → list_all (λ row. not (are_other_rents r.rents row.rents)) rows ≡ true → (unit : Option UnitRow) →
      option_map_or (are_other_rents r.rents) (option_and_then (λ unit. rents_on rows unit.group day) unit) false ≡ false
  by_unit r same None = refl
  by_unit r same (Some unit) = not_other rows r unit.group day same

  by_force : (force : Option Record) → IfSome force Fine →
      option_map_or (λ r. not (ends_assistance r.kind) && has_stale_rents units rows day r) force false ≡ false
  by_force None fine = refl
  by_force (Some r) fine =
      by_test (ends_assistance r.kind) (list_all (λ row. not (are_other_rents r.rents row.rents)) rows) (has_stale_rents units rows day r) fine
      (λ same. by_unit r same (unit_at units r.unit))

  never_stale : is_rent_stale_on records units rows day ≡ false
  never_stale =
      by_force (in_force records day) (latest-among comes_before Fine None (filter (λ (r : Record). nat_le r.from day) (live_records records)) tt
      (All-filter (λ (r : Record). nat_le r.from day) Fine (live_records records)
      (All-filter (is_live records) Fine records (AllPass-from_list_all (has_rents_of_all rows) records all))))

abbrev pub all_settled : Known → Bool
all_settled known = list_all (λ household. list_all (has_rents_of_all known.rents) (own_in known household)) (range_with_len 1 (length known.households))

pub settled : (known : Known) (month : ℕ) → all_settled known ≡ true → rents_due known month ≡ None
settled known month all =
    none_refused (λ household. household_rent_due (own_in known household) known.units known.rents (plan_day known) (last_of month) household)
    (λ household. list_all (has_rents_of_all known.rents) (own_in known household))
    (λ household fine. ap (option_and_then (λ day. option_map (λ (r : Record). Refusal.RentDue household r.number day) (in_force (own_in known household) day)))
    (least_that-is (is_rent_stale_on (own_in known household) known.units known.rents) (plan_day known) (last_of month) None
    (λ n from to. never_stale (own_in known household) known.units known.rents fine n)))
    (range_with_len 1 (length known.households)) all

-- ---- annuals

-- it begins on 2024-01-01 or later
abbrev is_recent : Record → Bool
is_recent r = nat_le 52595 r.from && nat_le r.from last_office_day

too_new : (from month : ℕ) → month < 1743 → (nat_le 52595 from && nat_le from last_office_day) ≡ true → nat_le (month_of from + 15) month ≡ false
too_new from month early is =
    let both = and_parts (nat_le 52595 from) (nat_le from last_office_day) is in
    let late : from ≤ 80353 = leb-true from last_office_day both.1 in
    let later = month_of_mono 52595 from (leb-true 52595 from both.0) (omega arith) in
    lt-leb (month_of from + 15) month (omega (arith, month_52595))

abbrev Recent : Record → Type 0
Recent r = is_recent r ≡ true

-- those that count and have begun by the month's end
abbrev begun_by : List Record → ℕ → List Record
begun_by own month = filter (λ r. nat_le r.from (last_of month)) (live_records own)

not_overdue : (own : List Record) (month household : ℕ) → month < 1743 → list_all is_recent own ≡ true → household_overdue own month household ≡ None
not_overdue own month household early all =
    ap (λ (day : Option ℕ). if is_unpaid own month then None else option_map (λ anniversary. Refusal.Overdue household anniversary) day)
    (by_base (earliest (live_records own)) (base (begun_by own month))
    (latest-among comes_before Recent None (filter (λ (r : Record). begins_year r.kind) (begun_by own month)) tt
    (All-filter (λ (r : Record). begins_year r.kind) Recent (begun_by own month)
    (All-filter (λ (r : Record). nat_le r.from (last_of month)) Recent (live_records own)
    (All-filter (is_live own) Recent own (AllPass-from_list_all is_recent own all))))))
    ∙ neither (is_unpaid own month)
  where
    by_base : (opening last : Option Record) → IfSome last Recent → overdue_day month opening last ≡ None
    by_base None last fine = refl
    by_base (Some r) None fine = refl
    by_base (Some r) (Some last) fine = rw (too_new last.from month early fine) refl

abbrev pub all_recent : Known → Bool
all_recent known = list_all (λ household. list_all is_recent (own_in known household)) (range_with_len 1 (length known.households))

pub recent : (known : Known) (month : ℕ) → month < 1743 → all_recent known ≡ true → all_overdue known month ≡ None
recent known month early all =
    none_refused (λ household. household_overdue (own_in known household) month household) (λ household. list_all is_recent (own_in known household))
    (λ household fine. not_overdue (own_in known household) month household early fine) (range_with_len 1 (length known.households)) all
