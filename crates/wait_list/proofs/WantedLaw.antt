-- When an extremely low-income family is wanted, and which rank is the best, in plain facts.
use Rattle.wait_list.proofs.Words.{◌≡◌, ◌∙◌, sym, ap, ℕ, zero, suc, List, [], ◌∷◌, refl, inl, inr, min, Option, Some, None, Contains, reduce, filter_map, rank_of, common_steps, nat_tests, arith, and_parts, and_from, ◌≢◌}
use Rattle.std.proofs.Common.{◌≤◌, ◌⊎◌, fold, unwrap_or}
use Rattle.std.proofs.lemmas.Bool.{ne_eqb}
use Rattle.std.specs.List.{cons_option}
use Rattle.std.proofs.lemmas.List.Elements.{Contains-append_right}
use Rattle.wait_list.specs.{Target.is_target_open, Target.is_their_turn}
use Rattle.wait_list.specs.Wanted.{WantedIsPlain, IsRanked, RankIsPlain}

pub wanted_is_plain : WantedIsPlain
wanted_is_plain targets = (
  λ is.
      let parts = and_parts (is_target_open targets) (is_their_turn targets) is in
      record { below = grind (arith, nat_tests, parts.0); turn = grind (arith, nat_tests, common_steps, parts.1) },
  λ is.
      and_from (is_target_open targets) (is_their_turn targets) (let below = is.below in grind (arith, nat_tests))
      (elim is.turn [ inl one ↦ grind (arith, nat_tests, common_steps) | inr two ↦ grind (arith, nat_tests, common_steps) ]),
)

-- ---- the best rank

contains_first : {X : Type 0} (x : X) (xs : List X) → Contains (x ∷ xs) x
contains_first x xs = (0, omega arith, refl)

contains_later : {X : Type 0} (x y : X) (xs : List X) → Contains xs y → Contains (x ∷ xs) y
contains_later x y xs contains = Contains-append_right (x ∷ []) xs y contains

module _ (given : ℕ → Option ℕ) where
  -- the number is no more than what any of the codes gives
  abbrev IsNoMore : ℕ → List ℕ → Type 0
  IsNoMore most codes = (code rank : ℕ) → Contains codes code → given code ≡ Some rank → most ≤ rank

  -- one of the codes gives the number
  abbrev IsGiven : ℕ → List ℕ → Type 0
  IsGiven number codes = (code : ℕ) × Contains codes code × (given code ≡ Some number)

  contains_cases : (code other : ℕ) (codes : List ℕ) → Contains (code ∷ codes) other → (code ≡ other) ⊎ Contains codes other
  contains_cases code other codes (zero, within, is) = inl is
  contains_cases code other codes (suc k, within, is) = inr (k, omega arith, is)

  -- the number is the least of a first one and of what the codes give
  pub record IsLeastOf (first : ℕ) (codes : List ℕ) (least : ℕ) : Type 0 where
    pub below : least ≤ first
    pub no_more : IsNoMore least codes
    pub one_of : (least ≡ first) ⊎ IsGiven least codes

  -- a code that gives nothing changes nothing
  more_none : (least code first : ℕ) (codes : List ℕ) → given code ≡ None → IsLeastOf first codes least → IsLeastOf first (code ∷ codes) least
  more_none least code first codes none rest = record {
    below = rest.below;
    no_more = λ other rank contains is. elim (contains_cases code other codes contains) [ inl same ↦ absurd (cc) | inr later ↦ rest.no_more other rank later is ];
    one_of = elim rest.one_of [ inl same ↦ inl same | inr (other, later, is) ↦ inr (other, contains_later code other codes later, is) ];
  }

  cases_min : (one two : ℕ) → (min one two ≡ one) ⊎ (min one two ≡ two)
  cases_min one two = grind arith

  more_some : (least code first number : ℕ) (codes : List ℕ) → given code ≡ Some number → IsLeastOf (min first number) codes least → IsLeastOf first (code ∷ codes) least
  more_some least code first number codes gives rest = record {
    below = (let below = rest.below in omega arith);
    no_more = λ other rank contains is. elim (contains_cases code other codes contains) [
      | inl same ↦ (let equal : number ≡ rank = number_of same is in let below = rest.below in omega arith)
      | inr later ↦ rest.no_more other rank later is
    ];
    one_of = elim rest.one_of [
      | inl same ↦ by_less same (cases_min first number)
      | inr (other, later, is) ↦ inr (other, contains_later code other codes later, is)
    ];
  }
    where
      number_of : {other rank : ℕ} → code ≡ other → given other ≡ Some rank → number ≡ rank
      number_of same is = cc

      by_less : least ≡ min first number → (min first number ≡ first) ⊎ (min first number ≡ number) → (least ≡ first) ⊎ IsGiven least (code ∷ codes)
      by_less same (inl one) = inl (same ∙ one)
      by_less same (inr two) = inr (code, contains_first code codes, gives ∙ ap Some (sym (same ∙ two)))

  least_of : (first : ℕ) (codes : List ℕ) → IsLeastOf first codes (fold min first (filter_map given codes))
  least_of first [] = record { below = omega arith; no_more = λ code rank contains is. absurd (let within = contains.1 in omega arith); one_of = inl refl }
  least_of first (code ∷ codes) = by_given (given code) refl (λ next. least_of next codes)
    where
      by_given : (answer : Option ℕ) → given code ≡ answer → ((next : ℕ) → IsLeastOf next codes (fold min next (filter_map given codes))) →
          IsLeastOf first (code ∷ codes) (fold min first (cons_option answer (filter_map given codes)))
      by_given None none rest = more_none _ code first codes none (rest first)
      by_given (Some number) gives rest = more_some _ code first number codes gives (rest (min first number))

  -- the number is the least of what the codes give, or another one where none gives any
  abbrev IsBestOf : ℕ → List ℕ → ℕ → Type 0
  IsBestOf other codes best = IsNoMore best codes × (IsGiven best codes ⊎ ((best ≡ other) × ((code rank : ℕ) → Contains codes code → given code ≢ Some rank)))

  best_of : (other : ℕ) (codes : List ℕ) → IsBestOf other codes (unwrap_or (reduce min (filter_map given codes)) other)
  best_of other [] =
      (λ code rank contains is. absurd (let within = contains.1 in omega arith), inr (refl, λ code rank contains is. (let within = contains.1 in omega arith)))
  best_of other (code ∷ codes) = by_given (given code) refl (best_of other codes)
    where
      by_given : (answer : Option ℕ) → given code ≡ answer → IsBestOf other codes (unwrap_or (reduce min (filter_map given codes)) other) →
          IsBestOf other (code ∷ codes) (unwrap_or (reduce min (cons_option answer (filter_map given codes))) other)
      by_given None none rest = (
        λ c rank contains is. elim (contains_cases code c codes contains) [ inl same ↦ absurd (cc) | inr later ↦ rest.0 c rank later is ],
        elim rest.1 [
          | inl (c, later, is) ↦ inl (c, contains_later code c codes later, is)
          | inr (same, never) ↦ inr (same, λ c rank contains is. elim (contains_cases code c codes contains) [ inl equal ↦ (cc) | inr later ↦ never c rank later is ])
        ],
      )
      by_given (Some number) gives rest =
          let least = least_of number codes in (
            λ c rank contains is. elim (contains_cases code c codes contains) [
              | inl same ↦ (let equal : number ≡ rank = cc in let below = least.below in omega arith)
              | inr later ↦ least.no_more c rank later is
            ],
            inl (elim least.one_of [
              | inl same ↦ (code, contains_first code codes, gives ∙ ap Some (sym same))
              | inr (c, later, is) ↦ (c, contains_later code c codes later, is)
            ]),
          )

ranked_so : (ranks : List ℕ) (code rank : ℕ) → IsRanked ranks code rank → rank_of ranks code ≡ Some rank
ranked_so ranks code rank (one, is) = (let not_zero = ne_eqb code 0 (λ zero. omega arith) in rw not_zero is)

ranked_tells : (ranks : List ℕ) (code rank : ℕ) → rank_of ranks code ≡ Some rank → IsRanked ranks code rank
ranked_tells ranks code rank is = grind (arith, nat_tests, common_steps)

pub rank_is_plain : RankIsPlain
rank_is_plain ranks preferences =
    let best = best_of (rank_of ranks) 100 preferences in
    record {
      least = λ code rank contains ranked. best.0 code rank contains (ranked_so ranks code rank ranked);
      one_of = elim best.1 [
        | inl (code, contains, is) ↦ inl (code, contains, ranked_tells ranks code _ is)
        | inr (same, never) ↦ inr (same, λ code rank contains ranked. never code rank contains (ranked_so ranks code rank ranked))
      ];
    }
