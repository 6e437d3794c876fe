-- Rents become stale only where a record or a row of rents begins.
use Rattle.due_dates.proofs.Words.{◌≡◌, refl, ℕ, ◌<◌, arith, nat_tests, common_steps, List, [], ◌∷◌, ◌++◌, false, ap, map, All, nat_le, not, ◌&&◌, latest, ChangesAtBeginnings, ends_assistance, unit_rents_on, are_other_rents, is_rent_stale_on}
use Rattle.std.specs.Option.{option_map, option_map_or, option_and_then}
use Rattle.std.proofs.Common.{get_or, append-nil}
use Rattle.std.proofs.lemmas.List.Elements.{All-contains, filter-append}
use Rattle.record_history.specs.{declared.records.Record.Record, Ordered.AreInOrder, Records.in_force, Records.latest as latest_record, Records.live_records}
use Rattle.rent_table.specs.declared.rows.{Unit.Unit as UnitRow, RentRow.RentRow}
use Rattle.rent_table.specs.Table.{unit_at, rents_before, rents_begin_by, rents_on}
use Rattle.list_laws.proofs.{Elements.All-left, Elements.All-right, Elements.All-unmap, Filters.filter_alike}

-- where no row begins between two days the same rents stand on both
rents_alike : (rows : List RentRow) (group day next : ℕ) → All (λ row. nat_le row.from day ≡ nat_le row.from next) rows →
    rents_on rows group day ≡ rents_on rows group next
rents_alike rows group day next alike =
    ap (λ (kept : List RentRow). option_map (λ (row : RentRow). row.rents) (latest rents_before kept))
    (filter_alike (rents_begin_by group day) (rents_begin_by group next) rows (λ k d within. rw (alike k d within)))

-- so a unit's rents are
unit_rents_alike : (units : List UnitRow) (rows : List RentRow) (number day next : ℕ) → All (λ row. nat_le row.from day ≡ nat_le row.from next) rows →
    unit_rents_on units rows number day ≡ unit_rents_on units rows number next
unit_rents_alike units rows number day next alike = λ i. option_and_then (λ unit. rents_alike rows unit.group day next alike i) (unit_at units number)

-- where none of those that count, as they stand in order, begins between two days the same is in force on both
live_alike : (records live : List Record) (day next : ℕ) → AreInOrder (live_records records) live → All (λ r. nat_le r.from day ≡ nat_le r.from next) live →
    in_force records day ≡ in_force records next
live_alike records live day next in_order alike =
    ap latest_record (filter_alike (λ (r : Record). nat_le r.from day) (λ r. nat_le r.from next) (live_records records)
    (λ k d within. All-contains (λ (r : Record). nat_le r.from day ≡ nat_le r.from next) live (get_or (live_records records) k d) alike (in_order.all k d within)))

-- the days on which a record or a row of rents begins
abbrev pub beginnings : List Record → List RentRow → List ℕ
beginnings records rows = map (λ r. r.from) records ++ map (λ row. row.from) rows

-- between two of which, of the records that count, a household's rents stay stale, or not
pub changes_at_beginnings : (records live : List Record) (units : List UnitRow) (rows : List RentRow) → AreInOrder (live_records records) live →
    ChangesAtBeginnings (is_rent_stale_on records units rows) (beginnings live rows)
changes_at_beginnings records live units rows in_order day next le nothing =
    let no_record = All-unmap (λ (b : ℕ). nat_le b day ≡ nat_le b next) (λ (r : Record). r.from) live (All-left (λ (b : ℕ). nat_le b day ≡ nat_le b next) _ _ nothing) in
    let no_row = All-unmap (λ (b : ℕ). nat_le b day ≡ nat_le b next) (λ (row : RentRow). row.from) rows (All-right (λ (b : ℕ). nat_le b day ≡ nat_le b next) (map (λ (r : Record). r.from) live) _ nothing) in
    λ i. option_map_or (λ r. not (ends_assistance r.kind) && option_map_or (are_other_rents r.rents) (unit_rents_alike units rows r.unit day next no_row i) false)
    (live_alike records live day next in_order no_record i) false

-- a row of rents that begins after the day changes nothing on it
rents_behind : (rows : List RentRow) (row : RentRow) (group day : ℕ) → day < row.from → rents_on (rows ++ row ∷ []) group day ≡ rents_on rows group day
rents_behind rows row group day behind =
    let late : rents_begin_by group day row ≡ false = grind (arith, nat_tests, common_steps, behind) in
    rw (filter-append (rents_begin_by group day) rows (row ∷ []), late, append-nil) refl

pub stale_behind : (records : List Record) (units : List UnitRow) (rows : List RentRow) (row : RentRow) (day : ℕ) → day < row.from →
    is_rent_stale_on records units (rows ++ row ∷ []) day ≡ is_rent_stale_on records units rows day
stale_behind records units rows row day behind = λ i.
    option_map_or (λ r. not (ends_assistance r.kind) && option_map_or (are_other_rents r.rents) (unit_rents r.unit i) false) (in_force records day) false
  where
    unit_rents : (number : ℕ) → unit_rents_on units (rows ++ row ∷ []) number day ≡ unit_rents_on units rows number day
    unit_rents number = λ i. option_and_then (λ unit. rents_behind rows row unit.group day behind i) (unit_at units number)
