-- The records of the household at a place.
use Rattle.std.proofs.Common.{◌≡◌, ℕ, ◌-◌, ◌≤◌, arith, List, [], length}
use Rattle.std.proofs.lemmas.{Bool.Decides.nat_tests, Grind.common_steps}
use Rattle.std.proofs.lemmas.List.FromFn.{get_or-map-range_with_len, length-map-range_with_len}
use Rattle.record_history.specs.{declared.records.Record.Record, Held.records_of}
use Rattle.office_step.specs.Households.{own_of, households_of}

-- they are those of the household, where it is one of so many
pub own_place : (records : List Record) (count household : ℕ) → 1 ≤ household → household ≤ length (households_of records count) →
    records_of (households_of records count) household ≡ own_of records household
own_place records count household least most =
    let within : household ≤ count = omega (arith, most, length-map-range_with_len (own_of records) 1 count) in
    let at = get_or-map-range_with_len (own_of records) 1 count (household - 1) household [] (omega (arith, least, within)) (omega (arith, least)) in
    grind (arith, common_steps, nat_tests, least, at)
