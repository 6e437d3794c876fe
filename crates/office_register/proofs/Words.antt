-- The names that most proofs here cite, passed on from one place. Declares nothing.
pub use Rattle.std.proofs.Common.{◌≡◌, refl, ap, ◌+◌, ◌-◌, [], ◌∷◌, ◌++◌, length, append-nil, Some, None, ◌≤◌, ℕ, List, Option, Bool, true, false, arith, ◌∙◌, sym, ◌<◌, set, get_or, inl, inr, subst}
pub use Rattle.std.proofs.lemmas.Bool.{false≢true, cases_lt, cond_both, ne_eqb}
pub use Rattle.std.proofs.lemmas.{Bool.Decides.nat_tests, Grind.common_steps, List.length_push, List.length-set, List.set_past, Option.none-some, Option.IfSome_then}
pub use Rattle.std.proofs.lemmas.List.Elements.{filter_agree, All-weaker, All-push, All-filter, All-set, All-nil, All-tail}
pub use Rattle.std.specs.Option.{option_map}
pub use Rattle.std.specs.Prelude.{slice_set, not, ◌==◌, filter, slice_get, if◌then◌else◌, nat_lt, is_some, option_and_then, All, IfSome, ◌⊎◌, max, fold, sum_by, nat_le}
pub use Rattle.book_rows.specs.{Fit.is_plan, Fit.are_rents, Fit.is_fit, declared.certifications.AdmitAct.AdmitAct, declared.certifications.StartAct.StartAct, declared.command.Command.Command, declared.household.HouseholdAct.HouseholdAct, declared.property.RentsAct.RentsAct, declared.property.UnitAct.UnitAct}
pub use Rattle.office_refusals.proofs.Below.office_step.Passed.{or_none, test_passed, household_there, are_there, Passed, passed}
pub use Rattle.office_refusals.specs.Below.office_step.Acts.{unit_row, rent_row, limit_row, application_by, request_by}
pub use Rattle.office_refusals.specs.Below.office_step.{After.applying, After.known_after, Known.Known}
pub use Rattle.record_history.specs.Held.{room_of, with_place, records_of, with_record}
pub use Rattle.record_history.specs.declared.records.Record.{Record}
pub use Rattle.rent_table.specs.{Table.unit_at, Table.rents_on, declared.plan.Plan.Plan, declared.rows.RentRow.RentRow, declared.rows.Unit.Unit as UnitRow}
pub use Rattle.wait_list.specs.{Waiting.without, Waiting.is_listed, declared.applicant.Applicant.Applicant}
pub use Rattle.office_register.specs.Accepted.{applicant_name, with_household, with_further, IsAccepted, IsNext}
pub use Rattle.office_register.specs.Registered.{HasDates, AreUnits, AreRents, AreLimits, AreApplicants, AreHouseholds, AreMembers, IsClosing, IsSound, IsRegister, Registered}
pub use Rattle.certified_figures.specs.Figures.{AreEligible}
pub use Rattle.office_refusals.specs.Below.office_step.Eligible.{AllEligible}
pub use Rattle.office_register.specs.View.{known_in}
