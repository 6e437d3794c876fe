-- The records of one household, once a record more is held.
use Rattle.office_laws.proofs.Words.{◌≡◌, ◌∙◌, sym, refl, subst, cond_both, eqb-true, get_or_default, ℕ, ◌+◌, ◌≤◌, ◌<◌, zero, suc, ◌-◌, arith, List, [], ◌∷◌, ◌++◌, Option, Some, None, length, map, All, ◌==◌, if◌then◌else◌, get_or, append-nil, get_or-set_same, get_or-set_other, length-append, length-map, Record, records_of, with_record, Command, Known, own_in, households_after, names_given, record_of, no_such, matter_of, nat_tests, common_steps}
use Rattle.office_laws.proofs.{Makes.made_within, Makes.record_names_act}

abbrev nobody : List Record
nobody = []

none_more : {Y : Type 0} (households : List (List Record)) (ys : List Y) (place : ℕ) →
    get_or (households ++ map (λ y. nobody) ys) place nobody ≡ get_or households place nobody
none_more [] [] place = refl
none_more [] (y ∷ ys) zero = refl
none_more [] (y ∷ ys) (suc place) = none_more [] ys place
none_more (own ∷ households) ys zero = refl
none_more (own ∷ households) ys (suc place) = none_more households ys place

-- a household that comes has no records yet
pub own-longer : {Y : Type 0} (households : List (List Record)) (ys : List Y) (household : ℕ) →
    records_of (households ++ map (λ y. nobody) ys) household ≡ records_of households household
own-longer households ys household = rw (none_more households ys (household - 1)) refl

-- what a household gets by the record
abbrev pub more_of : Option Record → ℕ → List Record
more_of None household = []
more_of (Some r) household = if household == r.household then r ∷ [] else []

own_with : (households : List (List Record)) (r : Record) (household : ℕ) → 1 ≤ r.household → r.household ≤ length households →
    records_of (with_record households r) household ≡ records_of households household ++ more_of (Some r) household
own_with households r household least most =
    grind (arith, common_steps, nat_tests, get_or-set_same, get_or-set_other, append-nil)

-- what a household has after the act: what it had, and what it gets by the record that the act makes
pub own_after : (known : Known) (asked : Command) → no_such (matter_of known asked) ≡ None → (household : ℕ) →
    records_of (households_after known asked (record_of known asked)) household ≡ own_in known household ++ more_of (record_of known asked) household
own_after known asked named household = by_made (record_of known asked) refl
  where
    by_made : (made : Option Record) → record_of known asked ≡ made →
        records_of (households_after known asked made) household ≡ own_in known household ++ more_of made household
    by_made None is = own-longer known.households (names_given known asked) household ∙ sym (append-nil (own_in known household))
    by_made (Some r) is =
        let there = made_within known asked r named is in
        own_with (known.households ++ map (λ name. nobody) (names_given known asked)) r household there.least
        (rw (length-append, length-map) there.most)
        ∙ rw (own-longer known.households (names_given known asked) household) refl

-- which is of a later act than those that are there
pub later_than : (known : Known) (asked : Command) (act : ℕ) → act ≤ known.count → (household : ℕ) → All (λ r. act < r.act) (more_of (record_of known asked) household)
later_than known asked act by household = by_made (record_of known asked) (λ r is. record_names_act known asked r is)
  where
    by_made : (made : Option Record) → ((r : Record) → made ≡ Some r → r.act ≡ known.count + 1) → All (λ r. act < r.act) (more_of made household)
    by_made None last = λ k d within. absurd (omega arith)
    by_made (Some r) last = λ k d within. grind (arith, common_steps, last r refl)

-- what holds of what a household had, and of that with the record that the act makes of it, holds of what it has after the act
pub owned : (P : List Record → Type 0) (known : Known) (asked : Command) → no_such (matter_of known asked) ≡ None → (household : ℕ) → P (own_in known household) →
    ((r : Record) → record_of known asked ≡ Some r → household ≡ r.household → P (own_in known r.household ++ r ∷ [])) →
    P (records_of (households_after known asked (record_of known asked)) household)
owned P known asked named household had gets =
    subst P (sym (own_after known asked named household)) (by_made (record_of known asked) gets)
  where
    by_made : (made : Option Record) → ((r : Record) → made ≡ Some r → household ≡ r.household → P (own_in known r.household ++ r ∷ [])) →
        P (own_in known household ++ more_of made household)
    by_made None gets = rw (append-nil (own_in known household)) had
    by_made (Some r) gets =
        cond_both (household == r.household) (r ∷ []) [] (λ more. P (own_in known household ++ more))
        (λ same. rw (eqb-true household r.household same) (gets r refl (eqb-true household r.household same)))
        (λ other. rw (append-nil (own_in known household)) had)

-- what holds of the records of each household holds of all of the lists
pub all_owned : (P : List Record → Type 0) (households : List (List Record)) → ((household : ℕ) → P (records_of households household)) → All P households
all_owned P households each = λ k d within.
    (let same : records_of households (k + 1) ≡ get_or households k d = grind (arith, common_steps, nat_tests, get_or_default households k [] d within) in
    subst P same (each (k + 1)))
