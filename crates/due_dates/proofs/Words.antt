-- The names that most proofs here cite, passed on from one place. Declares nothing.
pub use Rattle.std.proofs.Common.{◌≡◌, ◌≢◌, ℕ, ◌+◌, ◌-◌, Bool, Option, Some, None, refl, ap, arith, inl, inr, zero, suc, ◌*◌, ◌%◌, ◌<◌, ◌≤◌, true, false, ◌∙◌, sym, List, [], ◌∷◌, ◌++◌, rules}
pub use Rattle.std.proofs.lemmas.Bool.{both_ways, cases_lt, cases_eq, le-leb, lt-leb, lt-ltb, le-ltb, eq-eqb, ne_eqb, and_right, leb-true, leb-false, eqb-true, eqb-false, Decides.nat_tests}
pub use Rattle.std.proofs.{lemmas.List.Elements.filter_agree, lemmas.List.Sums.fold-append, lemmas.Grind.common_steps}
pub use Rattle.std.specs.Prelude.{nat_lt, unwrap_or, filter, fold, nat_le, ◌&&◌, map, All, not, take}
pub use Rattle.days_core.proofs.Bridge.{days_in_bounds, first_of-suc, first_of_mono, first_of-end, month_of_fits, month_of_is}
pub use Rattle.days_core.specs.{Calendar.month_of, Calendar.month_in_year, Calendar.month_place, Calendar.first_of, Calendar.last_month, OfficeDays.last_office_day}
pub use Rattle.row_choice.proofs.FirstDayLemmas.{IsFirst, first-is, same_first, first_day-is}
pub use Rattle.row_choice.specs.FirstDay.{first_day, earliest, is_within, ChangesAtBeginnings}
pub use Rattle.row_choice.specs.Latest.{later, latest}
unfoldable pub use Rattle.due_dates.specs.Least.{least_that}
pub use Rattle.due_dates.specs.{Least.IsLeastOne, Least.IsLeast, Review.with_day, Review.with_days, Review.is_due_on, Law.BeginsMonth, Law.IsMonthAfter, Law.IsFirstStart, Law.IsNextAnniversary}
pub use Rattle.due_dates.specs.Rightful.{first_month_that, begins_from, has_anniversary_after, next_month, first_start_from, next_anniversary}
pub use Rattle.due_dates.specs.Stale.{ends_assistance, unit_rents_on, are_other_rents, is_rent_stale_on}
