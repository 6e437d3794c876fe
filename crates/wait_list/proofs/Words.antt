-- The names that most proofs here cite, passed on from one place. Declares nothing.
pub use Rattle.std.proofs.Common.{◌≡◌, ◌≢◌, ℕ, ◌-◌, zero, suc, ◌+◌, Bool, true, false, List, [], ◌∷◌, length, refl, arith, ◌∙◌, sym, get_or, inl, inr, ap, min, ◌++◌, ◌<◌, nat_eq, rules, take}
pub use Rattle.std.proofs.{lemmas.Grind.common_steps, lemmas.Grind.fold-append, lemmas.Bool.Decides.nat_tests, lemmas.Bool.false≢true, lemmas.Bool.and_parts, lemmas.Bool.and_from, lemmas.Bool.false_from_ne_true, lemmas.Bool.cond_both, lemmas.Fn.filter_same, lemmas.List.Kept.AllPairs-filter}
pub use Rattle.std.proofs.lemmas.List.Elements.{All-head, All-tail, All-filter, filter_map-append}
pub use Rattle.std.specs.List.{reduce, filter_map}
pub use Rattle.std.specs.Option.{option_map, option_or, option_map_or, option_copied}
pub use Rattle.std.specs.Prelude.{if◌then◌else◌, All, Option, Some, None, ◌&&◌, ◌||◌, not, filter, Contains, IfSome, IsSomeAnd, MatchOption, vec_len, vec_capacity}
pub use Rattle.wait_list.specs.{Group.candidates_of, declared.applicant.Applicant.Applicant, declared.ask.Candidate.Candidate, Rank.rank_of}
pub use Rattle.wait_list.proofs.Rightly.{goes_before, NoMoverNeeds, NoApplicantNeeds, ApplicantIsFirst, IsRightful, NextIsRightful}
pub use Rattle.wait_list.specs.Next.{Asked, is_within_limit, is_extremely_low, is_candidate, candidates, stands_behind, first_of, next_of, mover_of, next_applicant, needs, first_there, asked_by}
pub use Rattle.wait_list.specs.Waiting.{is_listed, without, HaveOwnNumbers, IsSize, IsSoundList}
