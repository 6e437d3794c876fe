-- Records in order as the tests judge them, which is the form that these proofs work with.
use Rattle.std.specs.Prelude.{◌≡◌, ◌<◌, List, None, All}
use Rattle.record_history.specs.{declared.records.Record.Record, Records.live_records, Held.AreNumbered}
use Rattle.tenancy_rules.specs.Order.{first_out_of_order}

pub record IsInOrder (own : List Record) : Type 0 where
  pub numbered : AreNumbered own
  pub corrects : All (λ r. r.corrects < r.number) own
  pub live : first_out_of_order (live_records own) ≡ None
