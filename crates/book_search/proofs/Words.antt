-- The names that most proofs here cite, passed on from one place. Declares nothing.
pub use Rattle.std.proofs.Common.{◌≡◌, ℕ, ◌&&◌, nat_eq, Bool, true, false, List, get_or, refl, sym, ap, ◌∙◌, arith, zero, suc, ◌<◌, ◌≤◌, [], ◌∷◌, length, take, drop, eqb, subst, ◌⊎◌, inl, inr, rules, nat_lt}
pub use Rattle.std.proofs.lemmas.{Bool.Decides.nat_tests, Grind.common_steps, List.Sorted.IsPartitionPoint-from_clause, List.Sorted.IsPartitionedBy-ltb, List.Sorted.IsPartitionedBy-leb}
pub use Rattle.std.specs.Option.{option_copied, option_and_then}
pub use Rattle.std.specs.Prelude.{Option, Some, None, find, filter, All, AllPairs, nat_le, slice_get, not, bytes_eq}
pub use Rattle.book_rows.specs.{declared.rows.ActRow.ActRow, Book.is_request_of}
pub use Rattle.list_laws.proofs.Finds.{find_both, find_none, find_passes, find_none-narrower, find_first-narrower}
pub use Rattle.row_index.proofs.Points.{if_passes, number_there, number_not_there, number_past}
pub use Rattle.row_index.specs.Index.{place_of, request_key}
pub use Rattle.book_search.specs.Requests.{act_key}
