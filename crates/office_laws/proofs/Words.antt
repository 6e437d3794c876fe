-- The names that most proofs here cite, passed on from one place. Declares nothing.
pub use Rattle.std.proofs.Common.{◌≡◌, ◌≢◌, ◌∙◌, sym, ap, refl, subst, ℕ, ◌-◌, ◌<◌, ◌≤◌, inl, inr, arith, Bool, true, false, not, List, [], ◌∷◌, ◌++◌, Option, Some, None, length, AllPairs, if◌then◌else◌, ◌==◌, get_or, cond, filter, filter_map, nat_le, ◌+◌, option_to_list, IfSome, ap₂, ◌&&◌, map, All, slice_set, slice_index_or, pos, option_and_then, find, is_some, Contains, zero, suc, IsSomeAnd, bytes_eq}
pub use Rattle.std.proofs.lemmas.Bool.{eq-eqb, false_from_ne_true, eqb-true, leb-true, leb-false, and_parts, cond_both, le-leb, lt-leb, ltb-false}
pub use Rattle.std.proofs.lemmas.{Bool.Decides.nat_tests, Grind.common_steps, List.Kept.AllPairs-filter, List.Sums.fold-append, List.Quantifiers.all_pairs_push}
pub use Rattle.std.proofs.lemmas.List.{append-nil, length_push, same_lists, get_or-set_same, get_or-set_other, length-append, length-map, get_or_default}
pub use Rattle.std.proofs.lemmas.List.Elements.{All-filter, All-weaker, filter-append, filter_agree, All-nil, Contains-append_cases, Contains-push_cases, All-push, All-append, filter_passes, Contains-append_left, Contains-push, All-contains}
pub use Rattle.std.proofs.lemmas.List.Folds.{list_any-append, list_any_none, find-append, Any-from_list_any}
pub use Rattle.std.proofs.lemmas.List.FromFn.{get_or-map-range_with_len, length-map-range_with_len, map-range_with_len_more}
pub use Rattle.std.proofs.lemmas.Option.{same_Some, cond_some, IfSome_then, option_and_then_some}
pub use Rattle.std.specs.{Cmp.Lexicographic.bytes_decides, Option.option_map, Option.option_or, Option.option_map_or, List.list_any, List.range_with_len, List.flat_map}
pub use Rattle.book_rows.specs.{Book.Book, Book.appended, Book.IsBatch, Book.IsBefore, Book.empty_book, Fit.is_fit, declared.closings.CloseAct.CloseAct, declared.command.Command.Command, declared.household.HouseholdChange.HouseholdChange, declared.property.UnitAct.UnitAct, declared.rows.ActRow.ActRow, declared.rows.Batch.Batch, declared.moves.AskTransferAct.AskTransferAct, declared.household.HouseholdAct.HouseholdAct}
pub use Rattle.command_forms.specs.Commands.{command_in, body_of, only_own, command_from}
pub use Rattle.days_core.specs.{declared.rents.Rents.Rents, OfficeDays.last_office_day}
pub use Rattle.due_dates.specs.Stale.{ends_assistance, unit_rents_on, are_other_rents, has_stale_rents, is_rent_stale_on, rent_due_day_of}
pub use Rattle.list_laws.proofs.ByNumber.{find_last, filter_last, find_earlier, filter_earlier}
pub use Rattle.list_laws.proofs.Elements.{map-agree, slice_get-append, AllPairs-append, places_push}
pub use Rattle.list_laws.proofs.FilterMaps.{AllPairs-filter_map, filter_map_none, filter_map_more, filter_map-agree, All-filter_map}
pub use Rattle.list_laws.proofs.Filters.{filter_all, filter_none, filter-filter}
pub use Rattle.list_laws.proofs.Finds.{find_first, find_both, find_none}
pub use Rattle.list_laws.proofs.Options.{option_map_none, option_map_some, length-option, option_or-none, All-option, AllPairs-option, if_none, All-IfSome, IfSome-each}
pub use Rattle.office_step.proofs.Headed.{IsHeaded, made_is_headed, of_household, under_own, IsUnder, next_under, changing}
pub use Rattle.office_step.proofs.Plans.{is_plan, planned_by}
pub use Rattle.office_step.proofs.Passed.{Passed, passed, test_passed, AreThere, are_there, household_there, none_at, first_of-around}
pub use Rattle.office_step.specs.Acts.{Act, act_of, acts_of, apply_in, application_by, applications_of, name_given, applicant_of, applicants_of, numbered, takes_off_list, ask_in, waiting_of, request_of, request_by, last_request, last_in, plan_in, plan_of, plan_act, unit_in, unit_row, units_of, rents_in, rent_row, limits_in, limit_row, closing_of, last_closing, first_in, household_count, ranks_of, requests_of, at_number, names_of}
pub use Rattle.office_step.specs.After.{households_after, known_after, names_given, waiting_after, requests_after}
pub use Rattle.office_step.specs.Against.{no_such, no_plan, plan_given, wrong_month, tests_of, refused_by, plan_day, may_collide, out_of_order, taken, none_such}
pub use Rattle.office_step.specs.Households.{change_by, own_of, households_of, record_at, continued}
pub use Rattle.office_step.specs.Known.{Known, known_of, own_in, known_by}
pub use Rattle.office_step.specs.Made.{record_of, record_in, last_close, closing_by, lines_of, heading_of, heading_in, rents_in_unit, withdrawal_heading, made_on, correction_heading}
pub use Rattle.office_step.specs.Matter.{Matter, matter_of, Basis, from_facts, carried, nothing, certifies}
pub use Rattle.office_step.specs.Refusals.{next_to_close, first_of, repeated, request_reused, refused_if, refused_unless, household_rent_due, first_household, is_request_of}
pub use Rattle.office_step.specs.Reply.{acts_up_to, made_by, done_of}
pub use Rattle.office_step.specs.Step.{reached_empty, reached_more, IsReached, IsAppended, last_act_day, day_after, act_day, refusal_of, rows_for, first_step, step, appends, is_fit_call, Outcome, again, refused}
pub use Rattle.office_step.specs.declared.{call.Call.Call, call.Capacity.Capacity, heading.Heading.Heading, known.Application.Application, known.Closed.Closed, moving.MoveIn.MoveIn, refusal.Refusal.Refusal, reply.Made.Made, reply.Done.Done}
pub use Rattle.record_history.proofs.Kept.{records_cases, records_past, numbered_push}
pub use Rattle.record_history.specs.{Held.records_of, Held.with_record, Held.AreNumbered, declared.records.Kind.Kind, declared.records.Record.Record, Records.is_withdrawal, Records.is_live, Records.live_records, Records.as_of, Records.latest, Records.newest_number, Records.comes_before, Records.in_force, Records.later}
pub use Rattle.rent_table.specs.{Table.unit_at, Table.rents_before, Table.rents_begin_by, Table.rents_on, Table.has_name, Table.unit_named, declared.plan.Plan.Plan, declared.rows.Unit.Unit as UnitRow, declared.rows.RentRow.RentRow}
pub use Rattle.row_choice.proofs.LatestLemmas.{latest-among, latest-is, pairs_order}
pub use Rattle.row_choice.specs.Latest.{comes_before as pair_comes_before, IsLatest}
pub use Rattle.tenancy_rules.proofs.Numbers.{rise, none_above}
pub use Rattle.tenancy_rules.specs.{Changed.without, Changed.changed_records, Changed.NumbersRise, Occupancy.occupied_unit_on, Occupancy.unit_kept, Order.first_out_of_order, Order.may_begin, Order.is_in_order, Order.is_transfer, Order.is_move_out, Order.record_before}
unfoldable pub use Rattle.tenancy_rules.specs.Order.{is_out_of_order}
pub use Rattle.voucher_core.proofs.Settled.{none_settled, closing_settles, pays_no_other, settled_stays, all_earlier, known_stays}
pub use Rattle.voucher_core.specs.{Lines.closing_lines, Lines.placed, Lines.paid, Lines.month_lines, Lines.known_as_of, Lines.lines_for, Lines.adjustment_lines, declared.closing.Closing.Closing, declared.line.Line.Line}
pub use Rattle.wait_list.specs.{declared.applicant.Applicant.Applicant, declared.ask.Candidate.Candidate, Waiting.is_listed}
pub use Rattle.office_laws.specs.{Accepted.Accepted, Accepted.AppendedIsAccepted, AtHand.made_now, AtHand.UnitReplies, Closing.KnownAsOfStays, Closing.HasItsRents, Closing.RentsAreDoneAtClosings, History.later_same, History.later_more, History.Past, History.CameByActs, History.RowsCameByActs, History.IsLater, Kept.IsOneOf, Kept.AreActs, Kept.NamesOnlyThose, Kept.IsOfOffice, Kept.Kept, Kept.BooksAreKept, Kept.BatchesFollow}
pub use Rattle.office_laws.proofs.Judged.{IsInOrder}
