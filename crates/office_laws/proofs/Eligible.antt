-- The eligible members of each act's record, once there is one act more.
use Rattle.office_laws.proofs.Words.{◌≡◌, ◌∙◌, sym, ap, refl, ℕ, ◌+◌, ◌≤◌, ◌==◌, inl, inr, arith, List, [], ◌∷◌, ◌++◌, Option, Some, None, All, filter, find, option_to_list, option_or, option_map_or, length-map-range_with_len, append-nil, filter-append, find-append, filter_all, filter_none, option_or-none, fold-append, common_steps, nat_tests, Record, records_of, Command, Act, own_of, households_of, household_count, continued, Known, known_by, own_in, records_past, IsOneOf}
use Rattle.std.specs.Prelude.{fold, nat_lt}
use Rattle.std.proofs.lemmas.{Bool.cases_lt, List.Elements.All-head, List.Elements.All-tail}
use Rattle.list_laws.proofs.Finds.{find_fails, find_holds}
use Rattle.office_step.specs.{Basis.basis_of, Eligible.eligible_by, Eligible.continued_by, Eligible.eligible_in, Eligible.eligible_of, After.eligible_next}
use Rattle.office_laws.proofs.Places.{own_place}

-- steps that agree on the elements fold to the same
fold-alike : {X Y : Type 0} (f g : Y → X → Y) (P : X → Type 0) → ((y : Y) (x : X) → P x → f y x ≡ g y x) → (xs : List X) → All P xs → (y : Y) →
    fold f y xs ≡ fold g y xs
fold-alike f g P same [] all y = refl
fold-alike f g P same (x ∷ xs) all y =
    ap (λ y. fold f y xs) (same y x (All-head P x xs all)) ∙ fold-alike f g P same xs (All-tail P x xs all) (g y x)

-- the records of a household are those that an office knows of it, also where it has none
own_known : (records : List Record) (count household : ℕ) → All (λ r. IsOneOf count r.household) records → 1 ≤ household →
    own_of records household ≡ records_of (households_of records count) household
own_known records count household held least = elim (cases_lt count household) [
  | inl past ↦
      filter_none (λ (r : Record). r.household == household) records (λ k d within. grind (arith, nat_tests, past, held k d within))
      ∙ sym (records_past (households_of records count) household (omega (arith, past, length-map-range_with_len (own_of records) 1 count)))
  | inr by ↦ sym (own_place records count household least (omega (arith, by, length-map-range_with_len (own_of records) 1 count)))
]

module _ (count : ℕ) (records : List Record) (old : All (λ r. r.act ≤ count) records) where
  -- ---- an act before

  module _ (r : Record) (newer : r.act ≡ count + 1) where
    continued_same : (held : Record) → held.act ≤ count → continued_by (records ++ r ∷ []) held ≡ continued_by records held
    continued_same held before =
        let out : filter (λ (other : Record). nat_lt other.act held.act) (r ∷ []) ≡ [] =
        filter_none (λ (other : Record). nat_lt other.act held.act) (r ∷ []) (λ k d within. grind (arith, common_steps, nat_tests, newer, before)) in
        ap (λ (known : List Record). continued (own_of known held.household) held.from)
        (filter-append (λ (other : Record). nat_lt other.act held.act) records (r ∷ [])
        ∙ ap (λ (more : List Record). filter (λ (other : Record). nat_lt other.act held.act) records ++ more) out
        ∙ append-nil (filter (λ (other : Record). nat_lt other.act held.act) records))

    find_same : (act : Act) → act.n ≤ count → find (λ (held : Record). held.act == act.n) (records ++ r ∷ []) ≡ find (λ (held : Record). held.act == act.n) records
    find_same act before =
        let out : find (λ (held : Record). held.act == act.n) (r ∷ []) ≡ None =
        find_fails (λ (held : Record). held.act == act.n) (r ∷ []) (λ k d within. grind (arith, common_steps, nat_tests, newer, before)) in
        find-append (λ (held : Record). held.act == act.n) records (r ∷ [])
        ∙ ap (option_or (find (λ (held : Record). held.act == act.n) records)) out
        ∙ option_or-none (find (λ (held : Record). held.act == act.n) records)

    in_same : (eligible : List ℕ) (act : Act) → act.n ≤ count → eligible_in (records ++ r ∷ []) eligible act ≡ eligible_in records eligible act
    in_same eligible act before =
        ap (λ (o : Option Record). option_map_or (λ held. eligible_by eligible (continued_by (records ++ r ∷ []) held) (basis_of act.command)) o 0) (find_same act before)
        ∙ by_found (find (λ (held : Record). held.act == act.n) records) refl
      where
        by_found : (found : Option Record) → find (λ (held : Record). held.act == act.n) records ≡ found →
            option_map_or (λ held. eligible_by eligible (continued_by (records ++ r ∷ []) held) (basis_of act.command)) found 0
            ≡ option_map_or (λ held. eligible_by eligible (continued_by records held) (basis_of act.command)) found 0
        by_found None is = refl
        by_found (Some held) is =
            ap (λ (o : Option Record). eligible_by eligible o (basis_of act.command))
            (continued_same held (find_holds (λ (held : Record). held.act == act.n) (λ held. held.act ≤ count) records held is old).0)

  numbers_same : (made : Option Record) → ((r : Record) → made ≡ Some r → r.act ≡ count + 1) → (acts : List Act) → All (λ act. act.n ≤ count) acts →
      eligible_of (records ++ option_to_list made) acts ≡ eligible_of records acts
  numbers_same None newer acts before = ap (λ (known : List Record). eligible_of known acts) (append-nil records)
  numbers_same (Some r) newer acts before =
      fold-alike (λ numbers act. numbers ++ eligible_in (records ++ r ∷ []) numbers act ∷ []) (λ numbers act. numbers ++ eligible_in records numbers act ∷ [])
      (λ act. act.n ≤ count) (λ numbers act by. ap (λ (n : ℕ). numbers ++ n ∷ []) (in_same r (newer r refl) numbers act by)) acts before []

  -- ---- the new act

  found_none : find (λ (held : Record). held.act == count + 1) records ≡ None
  found_none = find_fails (λ (held : Record). held.act == count + 1) records (λ k d within. grind (arith, nat_tests, old k d within))

  module _ (acts : List Act) (held : All (λ r. IsOneOf (household_count acts) r.household) records) (asked : Command) where
    abbrev known : Known
    known = known_by count acts records

    continues : (r : Record) → r.act ≡ count + 1 → 1 ≤ r.household → continued_by (records ++ r ∷ []) r ≡ continued (own_in known r.household) r.from
    continues r newer least =
        let all : filter (λ (other : Record). nat_lt other.act r.act) records ≡ records =
        filter_all (λ (other : Record). nat_lt other.act r.act) records (λ k d within. grind (arith, nat_tests, newer, old k d within)) in
        let out : filter (λ (other : Record). nat_lt other.act r.act) (r ∷ []) ≡ [] =
        filter_none (λ (other : Record). nat_lt other.act r.act) (r ∷ []) (λ k d within. grind (arith, common_steps, nat_tests)) in
        ap (λ (known : List Record). continued (own_of known r.household) r.from)
        (filter-append (λ (other : Record). nat_lt other.act r.act) records (r ∷ [])
        ∙ ap (λ (more : List Record). filter (λ (other : Record). nat_lt other.act r.act) records ++ more) out
        ∙ append-nil (filter (λ (other : Record). nat_lt other.act r.act) records) ∙ all)
        ∙ ap (λ (own : List Record). continued own r.from) (own_known records (household_count acts) r.household held least)

    number_is : (made : Option Record) → ((r : Record) → made ≡ Some r → r.act ≡ count + 1) → ((r : Record) → made ≡ Some r → 1 ≤ r.household) →
        eligible_in (records ++ option_to_list made) known.eligible (record { n = count + 1; command = asked }) ≡ eligible_next known asked made
    number_is None newer least =
        ap (λ (o : Option Record). option_map_or (λ held. eligible_by known.eligible (continued_by (records ++ []) held) (basis_of asked)) o 0)
        (ap (find (λ (held : Record). held.act == count + 1)) (append-nil records) ∙ found_none)
    number_is (Some r) newer least =
        let found : find (λ (held : Record). held.act == count + 1) (records ++ r ∷ []) ≡ Some r =
        find-append (λ (held : Record). held.act == count + 1) records (r ∷ [])
        ∙ ap (λ (o : Option Record). option_or o (find (λ (held : Record). held.act == count + 1) (r ∷ []))) found_none
        ∙ grind (arith, common_steps, nat_tests, newer r refl) in
        ap (λ (o : Option Record). option_map_or (λ held. eligible_by known.eligible (continued_by (records ++ r ∷ []) held) (basis_of asked)) o 0) found
        ∙ ap (λ (o : Option Record). eligible_by known.eligible o (basis_of asked)) (continues r (newer r refl) (least r refl))

    -- what was known of the acts before stays, and the new act's number comes
    pub eligible-more : (made : Option Record) → ((r : Record) → made ≡ Some r → r.act ≡ count + 1) → ((r : Record) → made ≡ Some r → 1 ≤ r.household) →
        All (λ act. act.n ≤ count) acts →
        eligible_of (records ++ option_to_list made) (acts ++ record { n = count + 1; command = asked } ∷ []) ≡ known.eligible ++ eligible_next known asked made ∷ []
    eligible-more made newer least before =
        fold-append (λ numbers act. numbers ++ eligible_in (records ++ option_to_list made) numbers act ∷ []) [] acts (record { n = count + 1; command = asked } ∷ [])
        ∙ ap (λ (numbers : List ℕ). numbers ++ eligible_in (records ++ option_to_list made) numbers (record { n = count + 1; command = asked }) ∷ [])
        (numbers_same made newer acts before)
        ∙ ap (λ (n : ℕ). known.eligible ++ n ∷ []) (number_is made newer least)
