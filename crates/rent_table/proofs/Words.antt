-- The names that most proofs here cite, passed on from one place. Declares nothing.
pub use Rattle.std.proofs.Common.{◌≡◌, ◌∙◌, sym, ap, ℕ, ◌+◌, ◌≤◌, ◌<◌, nat_eq, Bool, true, false, List, [], ◌∷◌, ◌++◌, length, suc, get_or, subst, inl, inr, arith, length-append, ◌≢◌, refl, rules, ◌-◌, eqb, take}
pub use Rattle.std.proofs.lemmas.{Cmp.nat_list_cmp_total, List.Sorted.ranks_by, List.Sorted.IsPartitionPoint-from_clause}
pub use Rattle.std.specs.Cmp.Lexicographic.{pointwise, slice_cmp, same_text, other_text}
pub use Rattle.std.specs.{List.insert, List.range_with_len, Option.option_map_or, Option.option_map, Option.option_copied}
pub use Rattle.std.specs.Prelude.{Option, Some, None, find, slice_get, IsOk}
pub use Rattle.row_index.proofs.Keyed.{find_key, IsSortedBy-insert, parted}
pub use Rattle.row_index.proofs.Places.{find_own, none_at_places, places_within, all_places-insert}
pub use Rattle.rent_table.specs.{Names.name_at, Names.is_before, Names.AreByName, declared.rows.Unit.Unit as UnitRow}
pub use Rattle.rent_table.specs.Table.{has_name, number_of, HaveOwnNumbers, HaveOwnNames, unit_at, unit_named, limits_on, rent_row_on}
