-- A record can be made under the heading of an act whose facts and days are passed.
use Rattle.std.proofs.Common.{◌≡◌, sym, subst, ℕ, ◌≤◌, true, Option, Some, None, arith}
use Rattle.std.specs.Prelude.{IfSome, if◌then◌else◌, is_some}
use Rattle.std.specs.Option.{option_map}
use Rattle.std.proofs.lemmas.Grind.{common_steps}
use Rattle.days_core.specs.OfficeDays.{last_office_day}
use Rattle.record_history.specs.{declared.records.Dates.Dates, declared.records.Record.Record, Held.IsWithin}
use Rattle.facts_core.specs.Rules.{broken_rule}
use Rattle.book_rows.specs.declared.{command.Command.Command, household.HouseholdChange.HouseholdChange}
use Rattle.admission_order.specs.Below.office_step.{declared.refusal.Refusal.Refusal, Households.AreBy, Known.Known, Refusals.first_of, Against.told_days, Against.day_range, Against.rule_broken, Against.facts_rule}
use Rattle.admission_order.specs.Below.office_step.Matter.{Matter, Basis, from_facts, carried, nothing, certifies, matter_of, household_of, begins_on}
use Rattle.admission_order.specs.Below.office_step.Made.{heading_over, record_in, correction_heading, withdrawal_heading, record_of}
use Rattle.admission_order.proofs.Below.office_step.Days.{InRange, days_in_range, told_of, ToldInTurn, told_in_turn, begins}
use Rattle.admission_order.proofs.Below.office_step.Headed.{changing}
use Rattle.admission_order.specs.Below.office_register.Registered.{HasDates}
use Rattle.office_acts.specs.Judged.{AreKept, IsOfCommand, IsInTime, IsReady, HasSize, HasSizeBy, ClosesBy}

-- ---- the days

told_by : (today : ℕ) (told : Option Dates) → today ≤ last_office_day → IfSome told (λ dates. first_of (told_days today dates) ≡ None) → IfSome told (AreBy last_office_day)
told_by today None by told = tt
told_by today (Some dates) by told =
    let turn : ToldInTurn today dates = told_in_turn today dates told in
    record { event = omega arith; notice = omega arith; done = omega arith }

pub in_time : (today : ℕ) (about : Matter) → today ≤ last_office_day → day_range today about ≡ None → IsInTime about
in_time today about by none =
    let ranges : InRange today about = days_in_range today about none in
    record {
      from = told_of (λ day is. is.1) about.from ranges.from;
      last = told_of (λ day is. omega (arith, is.1)) about.last ranges.last;
      told = told_by today about.told by ranges.told;
    }

-- ---- the facts

no_rule : (basis : Basis) (from : ℕ) → rule_broken basis from ≡ None → AreKept basis from
no_rule (from_facts facts) from none = no_refusal (broken_rule facts from) none
  where
    no_refusal : (found : Option ℕ) → option_map (λ rule. Refusal.FactsRule rule) found ≡ None → found ≡ None
    no_refusal found none = grind (arith, common_steps, none)
no_rule _ from none = tt

kept_by : (known : Known) (asked : Command) → facts_rule (matter_of known asked) ≡ None →
    AreKept (matter_of known asked).basis (begins_on (matter_of known asked))
kept_by known (Command.Start start) none = no_rule (from_facts start.facts) start.from none
kept_by known (Command.Admit admit) none = no_rule (from_facts admit.facts) admit.from none
kept_by known (Command.Household act) none = by_change act.change none
  where
    by_change : (done : HouseholdChange) → facts_rule (changing known act done) ≡ None → AreKept (changing known act done).basis (begins_on (changing known act done))
    by_change (HouseholdChange.Annual annual) none = no_rule (from_facts annual.facts) annual.from none
    by_change (HouseholdChange.Interim interim) none = no_rule (from_facts interim.facts) interim.from none
    by_change (HouseholdChange.Resume resume) none = no_rule (from_facts resume.facts) resume.from none
    by_change (HouseholdChange.Correct correct) none = no_rule (from_facts correct.facts) correct.from none
    by_change _ none = tt
kept_by known _ none = tt

pub kept : (about : Matter) → IsOfCommand about → facts_rule about ≡ None → AreKept about.basis (begins_on about)
kept about of none =
    subst (λ (m : Matter). facts_rule m ≡ None → AreKept m.basis (begins_on m)) (sym of.is) (kept_by about.known of.asked) none

-- ---- the heading

begins_by : (about : Matter) → IsInTime about → begins_on about ≤ last_office_day
begins_by about in_time = begins about.from about.last in_time.from in_time.last

pub over_ready : (about : Matter) (target : Record) → IsInTime about → AreKept about.basis (begins_on about) →
    HasDates target → IsWithin target → IsReady about.basis (heading_over about target)
over_ready about target in_time facts dates within = by_basis about.basis facts
  where
    by_basis : (basis : Basis) → AreKept basis (begins_on about) →
        IsReady basis (if certifies basis then correction_heading (household_of about) target (begins_on about) else withdrawal_heading (household_of about) target)
    by_basis (from_facts facts) kept = record { from = begins_by about in_time; dates = dates; facts = kept }
    by_basis carried kept = record { from = begins_by about in_time; dates = dates; facts = tt }
    by_basis nothing kept = record { from = within.from; dates = tt; facts = tt }

-- ---- what a command is about

-- the record of an admission is of a family of some size
size_by : (known : Known) (asked : Command) (r : Record) → record_of known asked ≡ Some r → HasSizeBy (matter_of known asked).basis r →
    is_some (matter_of known asked).applicant ≡ true → HasSize r
size_by known (Command.Admit admit) r is size names = size
size_by known (Command.Household act) r is size names = by_change act.change names
  where
    by_change : (done : HouseholdChange) → is_some (changing known act done).applicant ≡ true → HasSize r
    by_change (HouseholdChange.Annual annual) names = absurd (cc)
    by_change _ names = absurd (cc)
size_by known _ r is size names = absurd (cc)

pub admitted_size : (about : Matter) → IsOfCommand about → (made : Option Record) → made ≡ record_in about → IfSome made (HasSizeBy about.basis) →
    is_some about.applicant ≡ true → IfSome made HasSize
admitted_size about of None is sized names = tt
admitted_size about of (Some r) is sized names =
    subst (λ (m : Matter). record_in m ≡ Some r → HasSizeBy m.basis r → is_some m.applicant ≡ true → HasSize r) (sym of.is)
    (size_by about.known of.asked r) (sym is) sized names

pub closes_by : (known : Known) (asked : Command) (most : ℕ) → IfSome (matter_of known asked).month (λ month. month ≤ most) → ClosesBy most asked
closes_by known (Command.Close close) most by = by
closes_by known _ most by = tt
