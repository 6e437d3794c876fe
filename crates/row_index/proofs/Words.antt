-- The names that most proofs here cite, passed on from one place. Declares nothing.
pub use Rattle.std.proofs.Common.{◌≡◌, ℕ, ◌+◌, ◌-◌, ◌<◌, ◌≤◌, Bool, true, false, List, length, get_or, refl, sym, ◌∙◌, ap, subst, arith, zero, suc, [], ◌∷◌, ◌++◌, Some, None, eqb, append_assoc, ◌≢◌, Option, rules}
pub use Rattle.std.proofs.lemmas.Bool.{false_from_ne_true, true_from_ne_false, cond_both, le-ltb, leb-true, ltb-true, ltb-false}
pub use Rattle.std.proofs.lemmas.{Bool.Decides.nat_tests, Grind.common_steps, Grind.elements, List.Edits.length-insert, List.Edits.get_or-insert_below, List.Edits.get_or-insert_at, List.Edits.get_or-insert_above, List.Folds.find-append, List.append-nil, List.FromFn.length-range_with_len, List.FromFn.get_or-range_with_len, Option.none-some, Option.slice_get_within, Option.slice_get-get_or, Option.get_or_from_slice_get, List.Sums.fold-append}
pub use Rattle.std.proofs.lemmas.List.Elements.{All-nil, All-cons, All-head, All-tail, All-contains}
pub use Rattle.std.proofs.lemmas.List.Sorted.{ranks_by, sorted_far, IsPermutation-insert, IsPermutation-to_front, IsPermutation-cons, IsPermutation-trans, All-permutation, Contains-permutation, IsPartitionPoint-from_clause, IsPartitionedBy-leb, IsPartitionedBy-ltb}
pub use Rattle.std.specs.{List.insert, List.range_with_len, List.AllWithin, Cmp.IsTotalOrder, Cmp.IsStrictWeakOrder, Ordering.is_lt, Ordering.is_eq, declared.cmp.Ordering.Ordering}
pub use Rattle.std.specs.List.Sorted.{IsPartitionPoint, IsPartitionedBy, IsSortedBy, IsSortedByKey, IsPermutation, IsNonDecreasingBy}
pub use Rattle.std.specs.Option.{option_and_then, option_map, option_copied}
pub use Rattle.std.specs.Prelude.{find, slice_get, fold, All, if◌then◌else◌, nat_lt, nat_le, AllPairs, Contains, IsOk, vec_len, vec_capacity}
pub use Rattle.list_laws.proofs.{Finds.find_fails, Finds.find_none, Ranges.range_more}
pub use Rattle.row_index.specs.{Index.KeysNeverFall, Index.with_entry, Index.in_order, Index.has_key, Index.entries_from, Index.place_of, Laws.IndexFinds, Laws.IndexGrows}
pub use Rattle.row_index.specs.declared.index.Entry.{Entry}
