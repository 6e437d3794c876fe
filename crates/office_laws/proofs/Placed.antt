-- What is judged to be in order is so in plain facts, and so is who has a unit.
use Rattle.std.proofs.Common.{◌≡◌, ℕ, ◌<◌, List, Some}
use Rattle.std.proofs.lemmas.List.Kept.{AllPairs-filter}
use Rattle.record_history.specs.{declared.records.Record.Record, Records.is_live, Records.live_records, Held.AreNumbered}
use Rattle.tenancy_rules.specs.{Changed.NumbersRise, Occupancy.occupied_unit_on}
use Rattle.tenancy_rules.proofs.{Numbers.rise, InPlace.order_is_plain}
use Rattle.office_step.specs.Known.{known_of, own_in}
use Rattle.office_step.specs.plain.{Counting.Counts, Tenancy.HasUnitOn}
use Rattle.office_step.proofs.Exactly.{Counting.lives, Tenancy.unit_had}
use Rattle.office_laws.specs.Tenancy.{IsInOrder as IsPlainlyInOrder, HouseholdsAreInOrder}
use Rattle.office_laws.proofs.{Judged.IsInOrder, Own.all_owned, InOrder.own_in_order}

live_rise : (own : List Record) → AreNumbered own → NumbersRise (live_records own)
live_rise own numbered = AllPairs-filter (λ (r next : Record). r.number < next.number) (is_live own) own (rise own numbered)

plainly : (own : List Record) → IsInOrder own → IsPlainlyInOrder own
plainly own is = record {
  numbered = is.numbered;
  corrects = is.corrects;
  counting = live_records own;
  just_those = lives own;
  in_place = (order_is_plain (live_records own) (live_rise own is.numbered)).0 is.live;
}

pub households_are_in_order : HouseholdsAreInOrder
households_are_in_order capacity book reached =
    all_owned IsPlainlyInOrder (known_of book).households
    (λ household. plainly (own_in (known_of book) household) (own_in_order capacity book reached household))

-- who has a unit by plain facts has it
pub has_it : (own : List Record) → IsInOrder own → (day unit : ℕ) → HasUnitOn (Counts own) day unit → occupied_unit_on (live_records own) day ≡ Some unit
has_it own is = unit_had (live_records own) (live_rise own is.numbered) (Counts own) (lives own)
