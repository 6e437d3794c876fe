-- The names that most proofs here cite, passed on from one place. Declares nothing.
pub use Rattle.std.proofs.Common.{◌≡◌, ℕ, zero, suc, refl, ◌-◌, ◌<◌, List, [], ◌∷◌, ◌++◌, length, reverse, get_or, set, Bool, true, false, ap, sym, ◌∙◌, subst, arith, length-append, ◌≢◌, ◌⊎◌, inl, inr, ◌+◌, ◌≤◌, None, map, Vec, rules}
pub use Rattle.std.proofs.{Math.Seq.set-append_seam, Math.Seq.get_or-append_seam, Math.Seq.map-set_same, lemmas.Bool.Decides.nat_tests, lemmas.Grind.reverse_onto, lemmas.Grind.common_steps, lemmas.Grind.elements, lemmas.Result.IfOk-weaker}
pub use Rattle.std.proofs.lemmas.List.Quantifiers.{all_pairs_push}
pub use Rattle.std.proofs.lemmas.Bool.{cases_lt, cond_both, le-leb, eq-eqb, ne_eqb, Decides.Decides-eqb}
pub use Rattle.std.proofs.lemmas.List.{map_push, take_more, set-get_or, length-set, get_or_past, length-map, length_push, map-set, get_or-map, get_or-set_other, get_or_push, set_at}
pub use Rattle.std.proofs.lemmas.List.Elements.{All-nil, All-cons, All-push, All-set, All-filter, All-weaker}
pub use Rattle.std.specs.Prelude.{All, if◌then◌else◌, not, max, fold, nat_lt, ◌==◌, filter, IfSome, nat_le, nat_eq, vec_items, vec_len, vec_capacity, take, option_copied}
pub use mathlib.Core.List.{reverse_aux}
pub use Rattle.list_laws.proofs.{Elements.All-place, Elements.places_push, Filters.filter_all, Filters.filter_alike}
pub use Rattle.row_choice.proofs.LatestLemmas.{latest-among, latest-is, filter-filter, pairs_order}
pub use Rattle.record_history.specs.Held.{Held, IsWithin, AreNumbered, ActsRise, NameEarlier, AreKept, records_of, room_of, with_place}
pub use Rattle.record_history.specs.Ordered.{StandInOrder, AreInOrder, with_live, corrected_by, AreCorrected, AreIndexed, Follows}
pub use Rattle.record_history.specs.Households.{lists_in, room_for, room_in, room_to_come, all_room, IsIndexed, AreSound}
pub use Rattle.record_history.specs.Records.{newest_number, as_of, is_live, live_records, comes_before, latest, in_force, in_force_as_of, newest_act}
pub use Rattle.record_history.specs.Runs.{stretch_of, IsBy, number_on}
pub use Rattle.record_history.specs.{Stretch.begins, Stretch.ends, Stretch.stretches, Stretch.IsOther, Stretch.CoverLongest, declared.records.Record.Record, declared.household.Household.Household, declared.stretch.Stretch.Stretch, declared.runs.Run.Run, Law.is_candidate}
pub use Rattle.std.specs.{Bool.Decides, declared.alloc.Global.Global}
