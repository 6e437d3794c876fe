-- The values that are written of commands that are fit are plain, and are read again as these commands.
use Rattle.std.proofs.Common.{◌≡◌, ℕ, true, nat_le, codes, refl, arith}
use Rattle.std.proofs.lemmas.Bool.{and_parts}
use Rattle.days_core.specs.OfficeDays.{first_office_month, last_office_month}
use Rattle.json_form.specs.Form.{u32_at, one_of, is_object_at, field, only}
use Rattle.json_form.specs.Written.{number_data}
use Rattle.json_form.proofs.Stands.{Stands, word, flag, within, below, number, day, month}
use Rattle.facts_core.proofs.FactsStand.{facts_stand}
use Rattle.book_rows.specs.declared.{household.HouseholdChange.HouseholdChange, command.Command.Command}
use Rattle.book_rows.specs.Fit.{is_within, is_name, is_group, are_bounds, are_ranks, are_rents, are_limits, are_preferences, is_fit}
use Rattle.command_forms.specs.Property.{plan_at, plan_members, unit_at, unit_members, rents_at, rents_members, limits_act_at, limits_members}
use Rattle.command_forms.specs.Applicants.{apply_at, apply_members, remove_at, remove_members, start_at, start_members, admit_at, admit_members}
use Rattle.command_forms.specs.Changes.{ask_transfer_at, ask_transfer_members, change_at, change_members, household_at, household_members}
use Rattle.command_forms.specs.Commands.{fields_at, command_at, command_members, command_data}
use Rattle.command_forms.specs.Holdable.{IsHoldable, IsHoldableChange}
use Rattle.command_forms.proofs.Fields.{name, month_in, preferences, limits, bounds}

-- ---- acts on a household

abbrev act_of : ℕ → ℕ → HouseholdChange → Command
act_of household seen change = Command.Household (record { household = household; seen = seen; change = change })

change_stands : (household seen : ℕ) (c : HouseholdChange) → Stands 3 u32_at (number_data household) household → Stands 3 u32_at (number_data seen) seen → IsHoldableChange c
    → Stands 4 command_at (command_data (act_of household seen c)) (act_of household seen c)
unfolding command_at command_members fields_at household_at household_members change_at change_members one_of is_object_at field only
change_stands household seen (HouseholdChange.Annual annual) n s h =
    let from = day 3 annual.from h.0 in
    let facts = facts_stand annual.facts h.1 in
    record {
      again = simp (n.again, s.again, from.again, facts.again) refl;
      plain = (refl, refl, (facts.plain, (from.plain, (n.plain, (word (codes "annual") refl, (s.plain, tt))))));
    }
change_stands household seen (HouseholdChange.Interim interim) n s h =
    let event = day 3 interim.dates.event h.0.event in
    let notice = day 3 interim.dates.notice h.0.notice in
    let done = day 3 interim.dates.done h.0.done in
    let from = day 3 interim.from h.1 in
    let facts = facts_stand interim.facts h.2 in
    record {
      again = simp (n.again, s.again, event.again, notice.again, done.again, from.again, facts.again) refl;
      plain = (refl, refl, (done.plain, (event.plain, (facts.plain, (from.plain, (n.plain, (word (codes "interim") refl, (notice.plain, (s.plain, tt)))))))));
    }
change_stands household seen (HouseholdChange.Resume resume) n s h =
    let done = day 3 resume.done h.0 in
    let from = day 3 resume.from h.1 in
    let facts = facts_stand resume.facts h.2 in
    record {
      again = simp (n.again, s.again, done.again, from.again, facts.again) refl;
      plain = (refl, refl, (done.plain, (facts.plain, (from.plain, (n.plain, (word (codes "resume") refl, (s.plain, tt)))))));
    }
change_stands household seen (HouseholdChange.Gross gross) n s h =
    let from = day 3 gross.from h in
    record { again = simp (n.again, s.again, from.again) refl; plain = (refl, refl, (from.plain, (n.plain, (word (codes "gross") refl, (s.plain, tt))))) }
change_stands household seen (HouseholdChange.Correct correct) n s h =
    let target = number 3 correct.target h.0 in
    let from = day 3 correct.from h.1 in
    let facts = facts_stand correct.facts h.2 in
    record {
      again = simp (n.again, s.again, target.again, from.again, facts.again) refl;
      plain = (refl, refl, (facts.plain, (from.plain, (n.plain, (word (codes "correct") refl, (target.plain, (s.plain, tt)))))));
    }
change_stands household seen (HouseholdChange.Transfer transfer) n s h =
    let unit = number 3 transfer.unit h.0 in
    let from = day 3 transfer.from h.1 in
    record {
      again = simp (n.again, s.again, unit.again, from.again) refl;
      plain = (refl, refl, (from.plain, (n.plain, (word (codes "transfer") refl, (s.plain, (unit.plain, tt))))));
    }
change_stands household seen (HouseholdChange.MoveOut move_out) n s h =
    let last = day 3 move_out.last h in
    record { again = simp (n.again, s.again, last.again) refl; plain = (refl, refl, (n.plain, (word (codes "move_out") refl, (last.plain, (s.plain, tt))))) }
change_stands household seen (HouseholdChange.Terminate terminate) n s h =
    let from = day 3 terminate.from h in
    record { again = simp (n.again, s.again, from.again) refl; plain = (refl, refl, (from.plain, (n.plain, (word (codes "terminate") refl, (s.plain, tt))))) }
change_stands household seen (HouseholdChange.Withdraw withdraw) n s h =
    let target = number 3 withdraw.target h in
    record { again = simp (n.again, s.again, target.again) refl; plain = (refl, refl, (n.plain, (word (codes "withdraw") refl, (target.plain, (s.plain, tt))))) }

-- ---- commands

pub command_stands : (asked : Command) → is_fit asked ≡ true → IsHoldable asked → Stands 4 command_at (command_data asked) asked
unfolding command_at command_members fields_at plan_at plan_members unit_at unit_members rents_at rents_members limits_act_at limits_members apply_at apply_members remove_at remove_members start_at start_members admit_at admit_members ask_transfer_at ask_transfer_members one_of is_object_at field only
command_stands (Command.Plan plan) fit h =
    let first = and_parts (is_within first_office_month last_office_month plan.first) _ fit in
    let method = and_parts (is_within 1 2 plan.method) _ first.1 in
    let fiscal_month = and_parts (is_within 1 12 plan.fiscal_month) _ method.1 in
    let report_days = and_parts (nat_le plan.report_days 365) _ fiscal_month.1 in
    let passbook = and_parts (nat_le plan.passbook 10000) _ report_days.1 in
    let expected = and_parts (nat_le plan.expected 9999) _ passbook.1 in
    let lists = and_parts (are_bounds plan.bounds) (are_ranks plan.ranks) expected.1 in
    let first_stands = month_in 3 first_office_month last_office_month plan.first first.0 (omega arith) in
    let early = flag 3 plan.early in
    let method_stands = within 3 1 2 plan.method method.0 (omega arith) in
    let fiscal_month_stands = within 3 1 12 plan.fiscal_month fiscal_month.0 (omega arith) in
    let report_days_stand = below 3 365 plan.report_days report_days.0 (omega arith) in
    let passbook_stands = below 3 10000 plan.passbook passbook.0 (omega arith) in
    let expected_stands = below 3 9999 plan.expected expected.0 (omega arith) in
    let bounds_stand = bounds 1 plan.bounds lists.0 in
    let ranks = preferences 2 99 plan.ranks lists.1 (omega arith) in
    record {
      again = simp (first_stands.again, early.again, method_stands.again, fiscal_month_stands.again, report_days_stand.again, passbook_stands.again, expected_stands.again, bounds_stand.again, ranks.again) refl;
      plain = (refl, refl, (bounds_stand.plain, (tt, (expected_stands.plain, (first_stands.plain, (fiscal_month_stands.plain, (word (codes "plan") refl, (method_stands.plain, (passbook_stands.plain, (ranks.plain, (report_days_stand.plain, tt)))))))))));
    }
command_stands (Command.Unit unit) fit h =
    let parts = and_parts (is_name 10 unit.name) _ fit in
    let numbers = and_parts (is_group unit.group) (nat_le unit.bedrooms 5) parts.1 in
    let name = name 3 10 unit.name parts.0 in
    let group = within 3 1 99 unit.group numbers.0 (omega arith) in
    let bedrooms = below 3 5 unit.bedrooms numbers.1 (omega arith) in
    let accessible = flag 3 unit.accessible in
    record {
      again = simp (name.again, group.again, bedrooms.again, accessible.again) refl;
      plain = (refl, refl, (tt, (bedrooms.plain, (group.plain, (word (codes "unit") refl, (name.plain, tt))))));
    }
command_stands (Command.Rents rents) fit h =
    let parts = and_parts (is_group rents.group) (are_rents rents.rents) fit in
    let both = and_parts (nat_le rents.rents.contract_rent 99999) (nat_le rents.rents.utility 9999) parts.1 in
    let group = within 3 1 99 rents.group parts.0 (omega arith) in
    let from = day 3 rents.from h in
    let contract_rent = below 3 99999 rents.rents.contract_rent both.0 (omega arith) in
    let utility = below 3 9999 rents.rents.utility both.1 (omega arith) in
    record {
      again = simp (group.again, from.again, contract_rent.again, utility.again) refl;
      plain = (refl, refl, (contract_rent.plain, (from.plain, (group.plain, (word (codes "rents") refl, (utility.plain, tt))))));
    }
command_stands (Command.Limits act) fit h =
    let parts = and_parts (are_limits act.low) _ fit in
    let others = and_parts (are_limits act.very_low) (are_limits act.extremely_low) parts.1 in
    let from = day 3 act.from h in
    let low = limits 2 act.low parts.0 in
    let very_low = limits 2 act.very_low others.0 in
    let extremely_low = limits 2 act.extremely_low others.1 in
    record {
      again = simp (from.again, low.again, very_low.again, extremely_low.again) refl;
      plain = (refl, refl, (extremely_low.plain, (from.plain, (word (codes "limits") refl, (low.plain, (very_low.plain, tt))))));
    }
command_stands (Command.Apply apply) fit h =
    let first = and_parts (is_name 40 apply.name) _ fit in
    let sizes = and_parts (is_within 1 12 apply.size) _ first.1 in
    let all = and_parts (is_within apply.size 16 apply.persons) _ sizes.1 in
    let others = and_parts (are_preferences apply.preferences) (nat_le apply.annual 9999999) all.1 in
    let name = name 3 40 apply.name first.0 in
    let size = within 3 1 12 apply.size sizes.0 (omega arith) in
    let persons = within 3 apply.size 16 apply.persons all.0 (omega arith) in
    let codes_stand = preferences 2 16 apply.preferences others.0 (omega arith) in
    let accessible = flag 3 apply.accessible in
    let annual = below 3 9999999 apply.annual others.1 (omega arith) in
    record {
      again = simp (name.again, size.again, persons.again, codes_stand.again, accessible.again, annual.again) refl;
      plain = (refl, refl, (tt, (annual.plain, (word (codes "apply") refl, (name.plain, (persons.plain, (codes_stand.plain, (size.plain, tt))))))));
    }
command_stands (Command.Remove remove) fit h =
    let applicant = number 3 remove.applicant h in
    record { again = simp applicant.again refl; plain = (refl, refl, (applicant.plain, (word (codes "remove") refl, tt))) }
command_stands (Command.Start start) fit h =
    let name = name 3 40 start.name fit in
    let unit = number 3 start.unit h.0 in
    let from = day 3 start.from h.1 in
    let facts = facts_stand start.facts h.2 in
    record {
      again = simp (name.again, unit.again, from.again, facts.again) refl;
      plain = (refl, refl, (facts.plain, (from.plain, (word (codes "start") refl, (name.plain, (unit.plain, tt))))));
    }
command_stands (Command.Admit admit) fit h =
    let applicant = number 3 admit.applicant h.0 in
    let unit = number 3 admit.unit h.1 in
    let from = day 3 admit.from h.2 in
    let facts = facts_stand admit.facts h.3 in
    record {
      again = simp (applicant.again, unit.again, from.again, facts.again) refl;
      plain = (refl, refl, (applicant.plain, (facts.plain, (from.plain, (word (codes "admit") refl, (unit.plain, tt))))));
    }
command_stands (Command.AskTransfer ask) fit h =
    let household = number 3 ask.household h in
    let wanted = flag 3 ask.wanted in
    let accessible = flag 3 ask.accessible in
    record {
      again = simp (household.again, wanted.again, accessible.again) refl;
      plain = (refl, refl, (tt, (household.plain, (word (codes "ask_transfer") refl, (tt, tt)))));
    }
command_stands (Command.Household act) fit h =
    change_stands act.household act.seen act.change (number 3 act.household h.0) (number 3 act.seen h.1) h.2
command_stands (Command.Close close) fit h =
    let month = month 3 close.month h in
    record { again = simp month.again refl; plain = (refl, refl, (word (codes "close") refl, (month.plain, tt))) }
