-- The names that most proofs here cite, passed on from one place. Declares nothing.
pub use Rattle.std.proofs.Common.{◌≡◌, ◌∙◌, sym, ap, ap₂, refl, subst, ℕ, zero, suc, ◌+◌, ◌≤◌, arith, Bool, true, false, not, List, [], ◌∷◌, ◌++◌, Option, Some, None, length, take, drop, slice_get, option_and_then, option_to_list, if◌then◌else◌, length-drop, ◌<◌, ◌==◌, ◌&&◌, filter, cond, get_or, map, append_assoc, All, nat_le, ◌⊎◌, inl, inr, add-one, AllPairs, is_some, IfSome, rules, nat_lt, ◌-◌}
pub use Rattle.std.proofs.lemmas.Bool.{and_parts, eq-eqb, ne_eqb, cases_lt, leb-true, le-leb, false_from_ne_true, eqb-true, lt-leb, and_from}
pub use Rattle.std.proofs.lemmas.{Bool.Decides.nat_tests, Bool.Decides.Decides-int_eq, Grind.common_steps, List.Sorted.IsPartitionPoint-from_clause, List.Sorted.IsPartitionedBy-ltb, List.Sorted.IsPartitionedBy-leb}
pub use Rattle.std.proofs.lemmas.List.{drop_more, drop_all, take_all, take_more, length-take, append-nil, length_push}
pub use Rattle.std.proofs.lemmas.List.Elements.{All-head, All-tail, All-weaker, filter_passes, All-nil, All-cons, All-append, filter-append}
pub use Rattle.std.proofs.lemmas.Option.{slice_get_within, get_or_from_slice_get, option_and_then_some, cond_some}
pub use Rattle.std.specs.Cmp.Lexicographic.{pointwise, pointwise_decides}
pub use Rattle.std.specs.Option.{option_or, option_map, option_map_or, option_eq}
pub use Rattle.book_rows.proofs.SameRows.{act_equal, record_equal, line_equal}
pub use Rattle.book_rows.specs.Book.{Book, empty_book, appended, IsBatch, IsBefore}
pub use Rattle.book_rows.specs.Same.{same_act, same_record, same_line, kind_number, same_dates, same_heading, same_figures}
pub use Rattle.book_rows.specs.declared.{command.Command.Command, rows.ActRow.ActRow, rows.Batch.Batch}
pub use Rattle.book_search.proofs.Stretch.{never_falls_either, filter_stretch}
pub use Rattle.list_laws.proofs.{Filters.filter_all, Filters.filter_none, Options.unless_none, Options.option_map_none, Options.All-IfSome}
pub use Rattle.office_laws.specs.Accepted.{AppendedIsAccepted, Accepted}
pub use Rattle.office_step.specs.Step.{Outcome, again, refused, appends, step, is_fit_call, IsAppended, IsReached, reached_empty, reached_more}
pub use Rattle.office_step.specs.Valid.{fault_in, fit_call, call_of, rows_in, replayed, difference, records_by, lines_by, stray_row, with_rows, fault_from, first_fault, stray}
pub use Rattle.office_step.specs.declared.{call.Call.Call, call.Capacity.Capacity, fault.Fault.Fault}
pub use Rattle.record_history.specs.declared.records.Record.{Record}
pub use Rattle.voucher_core.specs.declared.line.Line.{Line}
pub use Rattle.book_replay.specs.Replay.{IsReplayed, ReplayBegins, ReplayGoesOn, ReplayStops, ReplayEnds, ReplayedIsGiven, ValidIsReached, ReachedIsValid}
