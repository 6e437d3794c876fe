-- By which act a record was first corrected, and what is found by a record's number.
use Rattle.record_history.proofs.Words.{◌≡◌, ◌∙◌, ◌⊎◌, inl, inr, sym, ap, refl, ℕ, zero, suc, ◌+◌, ◌-◌, ◌<◌, ◌≤◌, Bool, true, false, List, [], ◌∷◌, ◌++◌, length, get_or, set, arith, None, All, filter, nat_le, ◌==◌, if◌then◌else◌, nat_tests, elements, cases_lt, length-set, length_push, get_or_push, get_or-set_other, fold, max, All-filter, All-push, Record, AreKept, AreNumbered, ActsRise, as_of, is_live, AreCorrected, Follows, corrected_by, filter-filter, newest_act, latest, comes_before, take, in_force_as_of}
use Rattle.std.proofs.lemmas.List.Elements.{filter_more}
use Rattle.std.proofs.lemmas.Grind.{fold-append}
use Rattle.row_choice.specs.Latest.{later as later_by}
use Rattle.record_history.specs.Records.{later, is_live_as_of}
use Rattle.std.specs.Prelude.{Contains, Option, Some, find, slice_get, ◌&&◌}
use Rattle.std.specs.Option.{option_map, option_or}
use Rattle.std.specs.List.{list_any}
use Rattle.std.proofs.Common.{eq-eqb, eqb-true}
use Rattle.std.proofs.lemmas.Bool.{ne_eqb, cond_both, cases_Bool, false≢true}
use Rattle.std.proofs.lemmas.List.{get_or_append_left}
use Rattle.std.proofs.lemmas.Option.{slice_get-get_or, slice_get_past}
use Rattle.std.proofs.lemmas.List.Elements.{Contains-get_or}
use Rattle.std.proofs.lemmas.List.Folds.{find-append, list_any_none}
use Rattle.list_laws.proofs.Filters.{filter_none, Contains-filter, filter-contains as filter_contains}
use Rattle.list_laws.proofs.Finds.{find_fails, find_none, find_first, find_holds}
use Rattle.record_history.proofs.ForceLemmas.{numbers_own, some_passes}

-- ---- the first act that corrected it

-- one record more corrects one, if none did before
by_push : (records : List Record) (held : Record) (number : ℕ) → corrected_by (records ++ held ∷ []) number
    ≡ (if held.corrects == number then option_or (corrected_by records number) (Some held.act) else corrected_by records number)
by_push records held number =
    rw (find-append (λ (other : Record). other.corrects == number) records (held ∷ []))
    (by (find (λ (other : Record). other.corrects == number) records) (held.corrects == number))
  where
    by : (found : Option Record) (same : Bool) → option_map (λ (r : Record). r.act) (option_or found (if same then Some held else None))
        ≡ (if same then option_or (option_map (λ (r : Record). r.act) found) (Some held.act) else option_map (λ (r : Record). r.act) found)
    by None true = refl
    by None false = refl
    by (Some r) true = refl
    by (Some r) false = refl

-- the number of a record to come isn't corrected
none_by : (records : List Record) (number : ℕ) → All (λ r. r.corrects < number) records → corrected_by records number ≡ None
none_by records number earlier =
    ap (option_map (λ (r : Record). r.act)) (find_fails (λ (other : Record). other.corrects == number) records
    (λ k d within. ne_eqb _ _ (λ same. absurd (omega (arith, same, earlier k d within)))))

abbrev pub marked_by : List (Option ℕ) → ℕ → ℕ → List (Option ℕ)
marked_by corrected number act =
    if number == 0 then corrected else set corrected (number - 1) (option_or (get_or corrected (number - 1) None) (Some act))

marked_long : (corrected : List (Option ℕ)) (number act : ℕ) → length (marked_by corrected number act) ≡ length corrected
marked_long corrected number act = cond_both (number == 0) _ _ (λ (xs : List (Option ℕ)). length xs ≡ length corrected) (λ _. refl) (λ _. length-set corrected (number - 1) _)

-- what is marked at each place
marked_at : (corrected : List (Option ℕ)) (number act place : ℕ) (d : Option ℕ) → place < length corrected →
    get_or (marked_by corrected number act) place d ≡ (if number == place + 1 then option_or (get_or corrected place d) (Some act) else get_or corrected place d)
marked_at corrected number act place d within = by_number (cases_Bool (number == 0)) (cases_Bool (number == place + 1))
  where
    by_number : ((number == 0) ≡ true) ⊎ ((number == 0) ≡ false) → ((number == place + 1) ≡ true) ⊎ ((number == place + 1) ≡ false) →
        get_or (marked_by corrected number act) place d ≡ (if number == place + 1 then option_or (get_or corrected place d) (Some act) else get_or corrected place d)
    by_number (inl none) (inl here) = absurd (omega (arith, eqb-true number 0 none, eqb-true number (place + 1) here))
    by_number (inl none) (inr other) = rw (none, other) refl
    by_number (inr some) (inl here) =
        let same : number - 1 ≡ place = omega (arith, eqb-true number (place + 1) here) in
        rw (some, here, same) (grind (arith, elements))
    by_number (inr some) (inr other) = rw (some, other) (grind (arith, nat_tests, elements, get_or-set_other, some, other))

pub corrected_push : (records : List Record) (corrected : List (Option ℕ)) (held : Record) → AreCorrected records corrected → AreKept records → Follows records held →
    AreCorrected (records ++ held ∷ []) (marked_by corrected held.corrects held.act ++ None ∷ [])
corrected_push records corrected held before kept follows = record {
  long = omega (arith, long, before.long, length_push (marked_by corrected held.corrects held.act) None, length_push records held);
  each = λ place d within. by_place place d within (cases_lt place (length records));
}
  where
    long : length (marked_by corrected held.corrects held.act) ≡ length corrected
    long = marked_long corrected held.corrects held.act

    by_place : (place : ℕ) (d : Option ℕ) → place < length (records ++ held ∷ []) → (place < length records) ⊎ (length records ≤ place) →
        get_or (marked_by corrected held.corrects held.act ++ None ∷ []) place d ≡ corrected_by (records ++ held ∷ []) (place + 1)
    by_place place d within (inl low) =
        get_or_append_left (marked_by corrected held.corrects held.act) (None ∷ []) d place (omega (arith, low, long, before.long))
        ∙ marked_at corrected held.corrects held.act place d (omega (arith, low, before.long))
        ∙ rw (before.each place d low) (sym (by_push records held (place + 1)))
    by_place place d within (inr past) =
        get_or_push (marked_by corrected held.corrects held.act) None d place (omega (arith, past, within, long, before.long, length_push records held))
        ∙ sym (none_by (records ++ held ∷ []) (place + 1)
        (All-push (λ (r : Record). r.corrects < place + 1) records held
        (λ k e lower. omega (arith, kept.earlier k e lower, kept.numbered.number k e lower, past, lower))
        (omega (arith, follows.earlier, follows.number, kept.numbered.newest, past))))

-- whether that was by the act
abbrev pub is_by : ℕ → Option ℕ → Bool
is_by act None = false
is_by act (Some first) = nat_le first act

pub corrected_as_of : (records : List Record) (number act : ℕ) → ActsRise records →
    is_by act (corrected_by records number) ≡ list_any (λ other. other.corrects == number) (as_of act records)
corrected_as_of [] number act rise = refl
corrected_as_of (r ∷ rs) number act rise =
    by_tests (r.corrects == number) (nat_le r.act act) refl refl
    (corrected_as_of rs number act (λ i j d before within. rise (suc i) (suc j) d (omega arith) (omega arith)))
  where
    corrects : Record → Bool
    corrects other = other.corrects == number

    by_tests : (same known : Bool) → (r.corrects == number) ≡ same → nat_le r.act act ≡ known →
        is_by act (corrected_by rs number) ≡ list_any (λ other. other.corrects == number) (as_of act rs) →
        is_by act (option_map (λ (r : Record). r.act) (if same then Some r else find (λ (other : Record). other.corrects == number) rs))
        ≡ list_any (λ (other : Record). other.corrects == number) (if known then r ∷ as_of act rs else as_of act rs)
    by_tests true true same known rest = rw (same, known) refl
    by_tests true false same unknown rest =
        rw (
          unknown,
          filter_none (λ (other : Record). nat_le other.act act) rs
              (λ k d within. (let later = rise 0 (suc k) d (omega arith) (omega arith) in grind (arith, nat_tests, unknown))),
        ) refl
    by_tests false true other known rest = rw other rest
    by_tests false false other unknown rest = rest

-- ---- what is found by its number

module _ (records : List Record) (numbered : AreNumbered records) (number : ℕ) where
  abbrev has : Record → Bool
  has r = r.number == number

  pub find_zero : number ≡ 0 → None ≡ find has records
  find_zero zero_is =
      sym (find_fails has records (λ k d within. ne_eqb _ _ (λ same. absurd (omega (arith, same, zero_is, numbered.number k d within)))))

  pub find_number : 1 ≤ number → slice_get records (number - 1) ≡ find has records
  find_number some = by_records records refl
    where
      by_records : (rows : List Record) → rows ≡ records → slice_get records (number - 1) ≡ find has records
      by_records [] is = rw (sym is) refl
      by_records (d ∷ rest) is = by_place (cases_lt (number - 1) (length records))
        where
          by_place : (number - 1 < length records) ⊎ (length records ≤ number - 1) → slice_get records (number - 1) ≡ find has records
          by_place (inl within) =
              slice_get-get_or records (number - 1) d within
              ∙ sym (find_first has records (number - 1) d within (eq-eqb _ _ (omega (arith, some, numbered.number (number - 1) d within)))
              (λ i before. ne_eqb _ _ (λ same. absurd (omega (arith, same, before, within, numbered.number i d (omega (arith, before, within)))))))
          by_place (inr past) =
              slice_get_past records (number - 1) past
              ∙ sym (find_fails has records (λ k e low. ne_eqb _ _ (λ same. absurd (omega (arith, same, past, low, numbered.number k e low)))))

  -- the one of the number passes a test or not
  pub any_none : (counts : Record → Bool) → find has records ≡ None → false ≡ list_any has (filter counts records)
  any_none counts none = sym (list_any_none has (filter counts records) (All-filter counts (λ r. has r ≡ false) records (find_none has records none)))

  pub any_found : (counts : Record → Bool) (held : Record) → find has records ≡ Some held → counts held ≡ list_any has (filter counts records)
  any_found counts held is = by_test (counts held) refl
    where
      found : Contains records held × (has held ≡ true)
      found = find_holds has (Contains records) records held is (λ k d within. Contains-get_or records k d within)

      by_test : (passes : Bool) → counts held ≡ passes → passes ≡ list_any has (filter counts records)
      by_test true passes = sym (some_passes has (filter counts records) held (Contains-filter counts records held found.0 passes) found.1)
      by_test false fails =
          sym (list_any_none has (filter counts records) (λ k d within. ne_eqb _ _ (λ same.
          (let kept = filter_contains counts records _ (Contains-get_or (filter counts records) k d within) in
          let alike : get_or (filter counts records) k d ≡ held = numbers_own records numbered _ held kept.0 found.0 (same ∙ sym (eqb-true _ _ found.1)) in
          false≢true (sym fails ∙ ap counts (sym alike) ∙ kept.1)))))

  pub found_number : (held : Record) → find has records ≡ Some held → 1 ≤ held.number
  found_number held is = at_least (find_holds has (Contains records) records held is (λ k d within. Contains-get_or records k d within)).0
    where
      at_least : Contains records held → 1 ≤ held.number
      at_least (place, low, at) = omega (arith, ap (λ (r : Record). r.number) at, numbered.number place held low)

  -- and counts as of an act or not
  pub live_found : (act : ℕ) (held : Record) → find has records ≡ Some held →
      (nat_le held.act act && is_live (as_of act records) held) ≡ is_live_as_of act records number
  live_found act held is =
      rw (filter-filter (is_live (as_of act records)) (λ (r : Record). nat_le r.act act) records)
      (any_found (λ r. nat_le r.act act && is_live (as_of act records) r) held is)

  pub live_none : (act : ℕ) → find has records ≡ None → false ≡ is_live_as_of act records number
  live_none act none =
      rw (filter-filter (is_live (as_of act records)) (λ (r : Record). nat_le r.act act) records)
      (any_none (λ r. nat_le r.act act && is_live (as_of act records) r) none)

-- no record corrects one that isn't there
pub corrected_past : (records : List Record) (number : ℕ) → AreKept records → length records < number → corrected_by records number ≡ None
corrected_past records number kept past =
    none_by records number (λ k d within. omega (arith, within, past, kept.earlier k d within, kept.numbered.number k d within))

pub past_of : {X : Type 0} (xs : List X) (place : ℕ) → None ≡ slice_get xs place → length xs ≤ place
past_of [] place is = omega arith
past_of (x ∷ xs) zero is = absurd (cc)
past_of (x ∷ xs) (suc place) is = (let rest = past_of xs place is in omega (arith, rest))

pub take_past : {X : Type 0} (xs : List X) (i : ℕ) → length xs ≤ i → take i xs ≡ xs
take_past [] zero past = refl
take_past [] (suc i) past = refl
take_past (x ∷ xs) zero past = absurd (omega arith)
take_past (x ∷ xs) (suc i) past = ap (λ (rest : List _). x ∷ rest) (take_past xs i (omega arith))

-- ---- the last by an earlier act

-- one record more, which passes or doesn't
pub latest_more : (passes : Record → Bool) (records : List Record) (i : ℕ) (d : Record) → i < length records →
    latest (filter passes (take (i + 1) records))
    ≡ (if passes (get_or records i d) then later (latest (filter passes (take i records))) (get_or records i d) else latest (filter passes (take i records)))
latest_more passes records i d within =
    ap latest (filter_more passes records i d within)
    ∙ fold-append (later_by comes_before) None (filter passes (take i records)) _
    ∙ by_test (passes (get_or records i d))
  where
    by_test : (b : Bool) → fold (later_by comes_before) (latest (filter passes (take i records))) (if b then get_or records i d ∷ [] else [])
        ≡ (if b then later (latest (filter passes (take i records))) (get_or records i d) else latest (filter passes (take i records)))
    by_test true = refl
    by_test false = refl

pub latest_then : (passes : Record → Bool) (records : List Record) (i : ℕ) (r : Record) (best next : Option Record) → i < length records → get_or records i r ≡ r →
    best ≡ latest (filter passes (take i records)) → passes r ≡ true → next ≡ later best r → next ≡ latest (filter passes (take (i + 1) records))
latest_then passes records i r best next within at so_far passed is =
    is ∙ ap (λ (o : Option Record). later o r) so_far ∙ sym (rw (at, passed) at (latest_more passes records i r within))

pub latest_else : (passes : Record → Bool) (records : List Record) (i : ℕ) (r : Record) (best next : Option Record) → i < length records → get_or records i r ≡ r →
    best ≡ latest (filter passes (take i records)) → passes r ≡ false → next ≡ best → next ≡ latest (filter passes (take (i + 1) records))
latest_else passes records i r best next within at so_far failed is =
    is ∙ so_far ∙ sym (rw (at, failed) at (latest_more passes records i r within))

pub in_force_filter : (records : List Record) (act day : ℕ) →
    latest (filter (λ r. (nat_le r.act act && is_live (as_of act records) r) && nat_le r.from day) records) ≡ in_force_as_of act records day
in_force_filter records act day =
    ap latest (sym (ap (filter (λ (r : Record). nat_le r.from day)) (filter-filter (is_live (as_of act records)) (λ (r : Record). nat_le r.act act) records)
    ∙ filter-filter (λ (r : Record). nat_le r.from day) (λ r. nat_le r.act act && is_live (as_of act records) r) records))

-- ---- the newest act

last_act : (most : ℕ) (r : Record) (rs : List Record) (d : Record) → ActsRise (r ∷ rs) → most ≤ r.act →
    fold (λ most r. max most r.act) most (r ∷ rs) ≡ (get_or (r ∷ rs) (length rs) d).act
last_act most r [] d rise least = omega (arith, least)
last_act most r (s ∷ ss) d rise least =
    last_act (max most r.act) s ss d (λ i j e before within. rise (suc i) (suc j) e (omega arith) (omega arith))
    (let next = rise 0 1 d (omega arith) (omega arith) in omega (arith, least, next))

pub newest_is_last : (records : List Record) (held : Record) → ActsRise records → slice_get records (length records - 1) ≡ Some held → held.act ≡ newest_act records
newest_is_last [] held rise is = absurd (cc)
newest_is_last (r ∷ rs) held rise is =
    let last : length (r ∷ rs) - 1 ≡ length rs = omega arith in
    let at : get_or (r ∷ rs) (length rs) held ≡ held = some_is (sym (slice_get-get_or (r ∷ rs) (length rs) held (omega arith)) ∙ rw last at is) in
    ap (λ (q : Record). q.act) (sym at) ∙ sym (last_act 0 r rs held rise (omega arith))
  where
    some_is : {one other : Record} → Some one ≡ Some other → one ≡ other
    some_is is = cc
