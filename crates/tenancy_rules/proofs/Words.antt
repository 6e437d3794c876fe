-- The names that most proofs here cite, passed on from one place. Declares nothing.
pub use Rattle.std.proofs.Common.{◌≡◌, ◌∙◌, sym, ap, refl, ℕ, ◌<◌, Bool, true, false, List, [], ◌∷◌, Option, Some, None, arith, ◌++◌, ◌+◌, subst, append-nil, ◌≢◌, get_or, suc, add-one, ◌≤◌, length}
pub use Rattle.std.proofs.lemmas.Bool.{and_parts, cond_both, ne_eqb, false≢true, not-true, not-false, false_from_ne_true, eqb-false}
pub use Rattle.std.proofs.lemmas.{Bool.Decides.nat_tests, Grind.common_steps, List.Folds.list_any-append, List.Folds.list_any_none, List.Folds.find-append, List.Kept.AllPairs-filter, List.Quantifiers.all_pairs_push, List.get_or_default, List.Sums.fold-append}
pub use Rattle.std.proofs.lemmas.List.Elements.{All-contains, filter-append, filter_agree, All-push, All-filter, All-append, All-contains_itself, All-weaker, filter_passes}
pub use Rattle.std.specs.{List.list_any, List.range_with_len, Option.option_map, Option.option_map_or, Option.option_or}
pub use Rattle.std.specs.Prelude.{◌&&◌, nat_lt, map, filter, fold, Contains, IfSome, IsSomeAnd, if◌then◌else◌, ◌==◌, ◌||◌, not, All, ◌↔◌, find, is_some, option_and_then, nat_le, take, option_copied}
pub use Rattle.list_laws.proofs.{Filters.filter-filter, Filters.filter_alike, Ranges.range_more, Elements.All-both, Elements.All-left, Elements.All-right, Elements.All-unmap, Elements.Contains-map}
pub use Rattle.record_history.specs.{Held.AreNumbered, Held.records_of, declared.records.Record.Record, declared.records.Kind.Kind}
pub use Rattle.record_history.specs.Records.{is_withdrawal, is_live, live_records, newest_number, comes_before, latest}
pub use Rattle.row_choice.proofs.FirstDayLemmas.{first_day-is, earliest_order, IsFirst, first-is}
pub use Rattle.row_choice.proofs.LatestLemmas.{latest-is, pairs_order, pairs_order-turned, latest-among}
pub use Rattle.row_choice.specs.{FirstDay.is_within, FirstDay.ChangesAtBeginnings, Latest.later, Latest.comes_before as pair_comes_before}
pub use Rattle.tenancy_rules.specs.{Beginnings.sooner_beginning, Beginnings.sooner_rivalry, declared.change.Change.Change, declared.occupancy.DoubleUse.DoubleUse}
pub use Rattle.tenancy_rules.specs.Changed.{without, listed, changed_records, AddsNext, NumbersRise, is_before}
pub use Rattle.tenancy_rules.specs.Law.{ChangeIsWhatLives, NoUnitHasTwo, DoubleUseHasTwo}
unfoldable pub use Rattle.tenancy_rules.specs.{Occupancy.first_day_before, Occupancy.is_rival_on, Order.is_out_of_order}
pub use Rattle.tenancy_rules.specs.Occupancy.{first_rival_on, first_rivalry, use_on, unit_kept, occupied_unit_on, is_one_unit, have_one_unit_on}
pub use Rattle.tenancy_rules.specs.Order.{is_transfer, is_move_out, may_follow, has_its_unit, record_before, is_in_order, comes_after, earliest, first_out_of_order}
