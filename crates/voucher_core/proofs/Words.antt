-- The names that most proofs here cite, passed on from one place. Declares nothing.
pub use Rattle.std.proofs.Common.{ℕ, List, ◌≡◌, suc, Bool, ◌+◌, ◌-◌, ◌≤◌, ℤ, pos, ◌+ℤ◌, true, ap, ◌∙◌, arith, ◌-ℤ◌, zero, ◌*◌, ◌<◌, [], ◌∷◌, length, false, Option, Some, None, sym, subst, length-append, ◌++◌, take, drop, set, max, refl, append_assoc, to_z, of_z, w32, ◌≢◌, ◌⊎◌, inl, inr, reverse, negsuc, neg_ℤ, ◌≤ℤ◌, w64}
pub use Rattle.std.proofs.lemmas.Bool.{false_from_ne_true, eqb-true, cond_both, ne_eqb, eq-eqb, and_right, or_parts, cases_lt, cases_Bool, lt-leb, le-leb, lt-ltb, le-ltb, ltb-false}
pub use Rattle.std.proofs.lemmas.{Grind.reverse_onto, Bool.Decides.Decides-int_eq, Bool.Decides.same_from_decides, Bool.Decides.nat_tests, Grind.common_steps, Int.ints, Int.to_z-of_z, Int.to_z_pos, List.Sums.sum_by-le, List.Sums.sum_by-cons}
pub use Rattle.std.proofs.lemmas.List.{length-map, map-append, map_push, flat_map_more, take_more, drop_more, append-nil, length-take-le, Concat.length-flat_map, FromFn.length-range_with_len}
pub use Rattle.std.proofs.lemmas.List.Elements.{All-weaker, All-contains, All-contains_itself, Contains-append_left, Contains-append_right, Contains-get_or, All-append, filter-append, All-head, All-tail, All-filter, All-map, All-nil, All-cons, filter_passes}
pub use Rattle.std.specs.{List.range_with_len, List.flat_map, List.list_any, Ordering.int_eq, Bool.Decides, Option.option_map_or}
pub use Rattle.std.specs.Prelude.{Any, AllPairs, Contains, fold, vec_items, ◌||◌, sum_by, ◌==◌, map, not, get_or, if◌then◌else◌, SomeIff, All, IfSome, find, filter, nat_le, nat_lt, ◌&&◌}
pub use Rattle.days_core.proofs.Bridge.{days_in_bounds, first_of-suc}
pub use Rattle.days_core.specs.Calendar.{days_in, first_of, last_of}
pub use Rattle.list_laws.proofs.{Elements.AllPairs-append, Elements.Contains-map, Filters.filter_few, Filters.filter_none, Filters.filter_all, Filters.filter_alike, Filters.filter-filter, Filters.All-passing, Ranges.range_more, Ranges.range-more, Ranges.sum_by-range_more, Finds.find_first, Finds.find_fails}
pub use Rattle.record_history.proofs.{EachDay.IsOfItsDays, EachDay.of_their_days, EachDay.stretches_cover, EachDay.cover_few, Latest.in_force_among}
pub use Rattle.record_history.specs.{Held.AreNumbered, Held.ActsRise, Held.records_of, Records.as_of, Records.newest_act, Records.is_live, Records.live_records, Records.is_withdrawal, Records.latest, Records.in_force, Stretch.days, Stretch.stretches, Stretch.IsOther, Stretch.CoverLongest, declared.records.Record.Record, declared.stretch.Stretch.Stretch, Runs.number_on}
pub use Rattle.share_rules.specs.Shares.{day_share, run_share}
pub use Rattle.voucher_core.specs.{Certified.assistance_on, Certified.share_on, Certified.certified_on, Certified.certified_amount, declared.changes.Change.Change, declared.closing.Closing.Closing, declared.line.Line.Line, declared.touched.Touched.Touched, Naming.assistance_of, Naming.shares_of, Naming.NamesItsPair, Naming.AreOfOne, Naming.NameTheirPairs, Naming.LinesNameTheirPairs, Naming.ChangesAreLongest, Naming.NumberTellsAssistance, Law.PaidIsTheSum, Law.Span, Law.IsSettled, Law.ClosingSettles, Law.NothingIsSettled, Law.SettledPaysNoOther, Law.CertifiedStays, Law.SettledStays}
pub use Rattle.voucher_core.specs.Lines.{change_on, is_same_change, changes, difference, line_of, month_lines, known_as_of, lines_for, is_first, adjustment_lines, closing_lines, placed, is_for, total, paid}
pub use Rattle.voucher_core.specs.Walk.{known_before, changed_since, is_newly_corrected, is_touched, made_after, earlier_start, TouchesFrom, touched_household, BeginsUntouched, IsTouchedAfter, BeginsNotWithin, CorrectsNotWithin}
pub use Rattle.std.proofs.lemmas.List.Kept.{AllPairs-cons, AllPairs-filter}
pub use Rattle.voucher_core.specs.EachRun.{HasPair, IsLongestRun, old_on, new_on, IsPaidFor, TellsRun, ComesBefore, TellEachRun, LinesTellEachRun}
