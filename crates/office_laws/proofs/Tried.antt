-- What was tried before an act made its record.
use Rattle.office_laws.proofs.Words.{◌≡◌, ap, refl, ℕ, ◌+◌, ◌<◌, arith, true, false, [], Some, None, if◌then◌else◌, Record, Kind, is_withdrawal, AreNumbered, may_begin, is_transfer, is_move_out, Command, HouseholdChange, Known, own_in, change_by, heading_in, heading_of, record_of, changing, out_of_order, taken, option_and_then, length, may_collide, Passed, under_own, IsHeaded, made_is_headed, records_past, HouseholdAct}
use Rattle.office_step.proofs.Earlier.{under_it, names_earlier}
pub use Rattle.list_laws.proofs.Finds.{find_holds, found_holds}

-- the record is the household's first, or was judged among its records
pub data Ordered (known : Known) (r : Record) : Type 0 where
  begins : own_in known r.household ≡ [] → may_begin r.kind ≡ true → r.corrects ≡ 0 → is_withdrawal r.kind ≡ false → Ordered known r
  judged : out_of_order (own_in known r.household) (change_by r) ≡ None → Ordered known r

-- nobody else would have its unit, or it is for the unit of the record before it, or a move-out
pub data Placed (known : Known) (r : Record) : Type 0 where
  taken_by_none : taken known.households r.household (change_by r) ≡ None → Placed known r
  moved_out : is_withdrawal r.kind ≡ false → is_move_out r.kind ≡ true → r.corrects ≡ 0 → Placed known r
  kept : is_withdrawal r.kind ≡ false → may_begin r.kind ≡ false → is_transfer r.kind ≡ false → r.corrects ≡ 0 → Placed known r

-- and it corrects and withdraws none, or one that came before it
pub record Tried (known : Known) (r : Record) : Type 0 where
  pub ordered : Ordered known r
  pub placed : Placed known r
  pub smaller : AreNumbered (own_in known r.household) → r.corrects < r.number

-- ---- the first record of a household

first_tried : (known : Known) (asked : Command) (r : Record) (kind : Kind) (unit from : ℕ) → record_of known asked ≡ Some r →
    heading_of known asked ≡ Some (record { household = length known.households + 1; kind = kind; from = from; corrects = 0; unit = unit; dates = None }) → may_begin kind ≡ true → is_withdrawal kind ≡ false →
    taken known.households r.household (change_by r) ≡ None → Tried known r
first_tried known asked r kind unit from is own may counts free =
    let under = (under_own known asked r is _ own).is in record {
      ordered = begins (records_past known.households r.household (rw under (omega arith))) (rw under may) (rw under refl) (rw under counts);
      placed = taken_by_none free;
      smaller = λ numbered. rw under (omega arith);
    }

-- ---- a further one

module _ (known : Known) (act : HouseholdAct) (r : Record) (is : record_of known (Command.Household act) ≡ Some r)
    (headed : IsHeaded known (Command.Household act) r) where
  -- where a unit could come to be another household's, that was tried; other changes leave the household where it is, or end it
  placed_by : (done : HouseholdChange) → heading_in (changing known act done) ≡ Some headed.heading →
      (if may_collide (changing known act done) then option_and_then (λ made. taken known.households made.household (change_by made)) (record_of known (Command.Household act)) else None) ≡ None →
      Placed known r
  placed_by (HouseholdChange.Resume resume) own free = taken_by_none (rw is at free)
  placed_by (HouseholdChange.Correct correct) own free = taken_by_none (rw is at free)
  placed_by (HouseholdChange.Transfer transfer) own free = taken_by_none (rw is at free)
  placed_by (HouseholdChange.Withdraw withdraw) own free = taken_by_none (rw is at free)
  placed_by (HouseholdChange.MoveOut move_out) own free =
      let has = under_it known _ headed.heading r headed.under own in
      moved_out (ap is_withdrawal has.0) (ap is_move_out has.0) has.1
  placed_by _ own free =
      let has = under_it known _ headed.heading r headed.under own in
      kept (ap is_withdrawal has.0) (ap may_begin has.0) (ap is_transfer has.0) has.1

pub tried : (known : Known) (most today : ℕ) (asked : Command) (r : Record) → Passed known most today asked → record_of known asked ≡ Some r → Tried known r
tried known most today (Command.Start start) r free is =
    first_tried known (Command.Start start) r _ _ _ is refl refl refl (rw is at free.unit_taken)
tried known most today (Command.Admit admit) r free is =
    first_tried known (Command.Admit admit) r _ _ _ is refl refl refl (rw is at free.unit_taken)
tried known most today (Command.Household act) r free is =
    let headed : IsHeaded known (Command.Household act) r = made_is_headed known (Command.Household act) r is in record {
      ordered = judged (rw is at free.disorder);
      placed = placed_by known act r is headed act.change headed.is_its free.unit_taken;
      smaller = names_earlier known act r is;
    }
tried known most today _ r free is = absurd (cc)
