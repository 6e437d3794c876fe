-- On which day a household's rents are first others than its unit's: among the days on which records and rents begin.
use Rattle.std.proofs.Common.{◌≡◌, refl, ℕ, ◌+◌, ◌-◌, arith, ◌&&◌, List, [], ◌∷◌, filter, Contains}
use Rattle.std.proofs.lemmas.List.Elements.{All-nil, All-cons}
use Rattle.row_choice.specs.FirstDay.{earliest, is_within}
use Rattle.row_choice.proofs.FirstDayLemmas.{first_day-is}
use Rattle.record_history.specs.{declared.records.Record.Record, Ordered.AreInOrder, Records.live_records}
use Rattle.rent_table.specs.declared.rows.{Unit.Unit as UnitRow, RentRow.RentRow}
use Rattle.due_dates.specs.Stale.{is_rent_stale_on, rent_due_day_of}
unfoldable use Rattle.due_dates.specs.Least.{least_that}
use Rattle.due_dates.proofs.StaleLemmas.{beginnings, changes_at_beginnings}

-- where those that live stand in order so
pub rent_due_day : (records live : List Record) (units : List UnitRow) (rows : List RentRow) (first last : ℕ) → AreInOrder (live_records records) live →
    rent_due_day_of records units rows first last
    ≡ earliest (filter (λ day. is_within first (last + 1 - first) day && is_rent_stale_on records units rows day) (first ∷ beginnings live rows))
unfolding least_that
rent_due_day records live units rows first last in_order =
    first_day-is (is_rent_stale_on records units rows) (beginnings live rows) first (last + 1 - first) (changes_at_beginnings records live units rows in_order)

-- one record stands in order
pub in_order-one : (r : Record) → AreInOrder (r ∷ []) (r ∷ [])
in_order-one r = record {
  all = All-cons (Contains (r ∷ [])) r [] (0, omega arith, refl) (All-nil (Contains (r ∷ [])));
  only = All-cons (Contains (r ∷ [])) r [] (0, omega arith, refl) (All-nil (Contains (r ∷ [])));
  in_order = λ i j d before within. absurd (omega arith);
}
