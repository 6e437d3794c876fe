-- 19 and 20: incomes and rents.
use Rattle.std.proofs.Common.{◌≡◌, sym, ap, refl, ℕ, ◌-◌, Bool, true, false, Some, None, if◌then◌else◌, eqb}
use Rattle.std.specs.Prelude.{nat_lt, option_and_then, slice_index_or}
use Rattle.std.proofs.lemmas.Bool.{ltb-true, lt-ltb, eqb-true}
use Rattle.payment_rules.specs.Payment.{gross_rent_of}
use Rattle.record_history.specs.declared.records.Record.{Record}
use Rattle.rent_table.specs.{declared.plan.Plan.Plan, declared.rows.LimitRow.LimitRow, Admission.admission_limit, Admission.limit_for, Table.limits_on}
use Rattle.rent_table.proofs.StandingLemmas.{row_sets_limits}
use Rattle.office_step.specs.{declared.refusal.Refusal.Refusal, Made.record_in, Refusals.refused_if, Against.above_limit, Against.nothing_paid}
use Rattle.office_step.proofs.Exactly.Options.{refused_if-some, and_then-some}
use Rattle.office_step.specs.plain.Admitted.{IneligibleIsPlain, GetsNothing, NoAssistanceIsPlain}

limit_is : (early : Bool) (row : LimitRow) (size limit : ℕ) → (early ≡ true → limit ≡ slice_index_or row.low (size - 1) 0) →
    (early ≡ false → limit ≡ slice_index_or row.very_low (size - 1) 0) → (if early then limit_for row.low size else limit_for row.very_low size) ≡ limit
limit_is true row size limit low very_low = sym (low refl)
limit_is false row size limit low very_low = sym (very_low refl)

pub ineligible_is_plain : IneligibleIsPlain
ineligible_is_plain about refusal rise = (
  λ is. (let admits = and_then-some (λ applicant. option_and_then (above_limit about.known) (record_in about)) about.applicant refusal is in
      let makes = and_then-some (above_limit about.known) (record_in about) refusal admits.2 in
      let made : Record = makes.0 in
      let planned = and_then-some (λ (plan : Plan). option_and_then (λ row. refused_if (nat_lt (admission_limit plan row made.size) made.annual) (Refusal.Ineligible (admission_limit plan row made.size) made.annual)) (limits_on about.known.limits made.from)) about.known.plan refusal makes.2 in
      let plan : Plan = planned.0 in
      let stands = and_then-some (λ (row : LimitRow). refused_if (nat_lt (admission_limit plan row made.size) made.annual) (Refusal.Ineligible (admission_limit plan row made.size) made.annual)) (limits_on about.known.limits made.from) refusal planned.2 in
      let has = refused_if-some (nat_lt (admission_limit plan stands.0 made.size) made.annual) (Refusal.Ineligible (admission_limit plan stands.0 made.size) made.annual) refusal stands.2 in record {
        applicant = admits.0;
        made = made;
        plan = plan;
        row = stands.0;
        limit = admission_limit plan stands.0 made.size;
        told = has.1;
        admits = admits.1;
        makes = makes.1;
        planned = planned.1;
        stands = (row_sets_limits about.known.limits made.from stands.0 rise).0 stands.1;
        low = λ early. ap (λ (b : Bool). if b then limit_for stands.0.low made.size else limit_for stands.0.very_low made.size) early;
        very_low = λ late. ap (λ (b : Bool). if b then limit_for stands.0.low made.size else limit_for stands.0.very_low made.size) late;
        above = ltb-true (admission_limit plan stands.0 made.size) made.annual has.0;
      }),
  λ at. (let on = (row_sets_limits about.known.limits at.made.from at.row rise).1 at.stands in
      let limit = limit_is at.plan.early at.row at.made.size at.limit at.low at.very_low in
      rw (at.admits, at.makes, at.planned, on, limit, lt-ltb at.limit at.made.annual at.above, at.told) refl),
)

pub no_assistance_is_plain : NoAssistanceIsPlain
no_assistance_is_plain about refusal = (
  λ is. by_begins about.begins refl is,
  λ at. rw (at.begins, at.makes, at.unpaid, at.told) refl,
)
  where
    by_begins : (begins : Bool) → about.begins ≡ begins → (if begins then option_and_then nothing_paid (record_in about) else None) ≡ Some refusal → GetsNothing about refusal
    by_begins true begins is =
        let makes = and_then-some nothing_paid (record_in about) refusal is in
        let made : Record = makes.0 in
        let has = refused_if-some (eqb made.assistance 0) (Refusal.NoAssistance made.ttp (gross_rent_of made.rents)) refusal makes.2 in
        record { made = made; told = has.1; begins = begins; makes = makes.1; unpaid = eqb-true made.assistance 0 has.0 }
    by_begins false begins is = absurd (cc)
