-- What is kept of a household, where one record more follows.
use Rattle.record_history.proofs.Words.{◌≡◌, ◌≢◌, ◌∙◌, sym, ap, refl, subst, ℕ, ◌+◌, ◌<◌, ◌≤◌, Bool, true, false, List, [], ◌∷◌, ◌++◌, length, get_or, arith, None, All, filter, nat_le, ◌==◌, if◌then◌else◌, nat_tests, length-append, All-weaker, All-push, Record, comes_before, latest, in_force, is_live, live_records, AreInOrder, with_live, AreCorrected, AreIndexed, Follows, filter-filter, filter_alike, newest_number}
use Rattle.std.specs.Prelude.{AllPairs, Contains, IsSomeAnd, Option, Some, not, ◌&&◌, ◌||◌}
use Rattle.std.specs.List.{list_any}
use Rattle.std.proofs.Common.{ap₂}
use Rattle.std.proofs.lemmas.Bool.{ne_eqb, false≢true}
use Rattle.std.proofs.lemmas.List.Elements.{All-contains, All-contains_itself, All-append, Contains-get_or, Contains-append_left, Contains-append_right, filter-append}
use Rattle.std.proofs.lemmas.List.Folds.{list_any_none, list_any-append}
use Rattle.list_laws.proofs.Filters.{Contains-filter, filter-contains as filter_contains}
use Rattle.row_choice.specs.Latest.{IsLatest}
use Rattle.record_history.specs.Records.{is_withdrawal}
use Rattle.record_history.proofs.{Kept.kept_push, ForceLemmas.numbers_own}
use Rattle.record_history.proofs.OrderedLemmas.{itself, is_latest}

-- what stays of some that are among others is among what stays of these
with_live-among : (xs ys : List Record) (held : Record) → All (Contains ys) xs → All (Contains (with_live ys held)) (with_live xs held)
with_live-among xs ys held all =
    All-append (Contains (with_live ys held)) (filter stays xs) made
    (All-weaker (Contains (filter stays xs)) (Contains (with_live ys held))
    (λ x has.
    (let kept = filter_contains stays xs x has in
    Contains-append_left (filter stays ys) made x (Contains-filter stays ys x (All-contains (Contains ys) xs x all kept.0) kept.1)))
    (filter stays xs) (All-contains_itself (filter stays xs)))
    (λ k d within. Contains-append_right (filter stays ys) made _ (Contains-get_or made k d within))
  where
    stays : Record → Bool
    stays r = not (r.number == held.corrects)

    made : List Record
    made = if is_withdrawal held.kind then [] else held ∷ []

one_made : {X : Type 0} (withdraws : Bool) (xs : List X) → (if not withdraws && not false then xs else []) ≡ (if withdraws then [] else xs)
one_made true xs = refl
one_made false xs = refl

-- a record counts where it did and the new one doesn't correct it
counts_still : (withdraws corrected same : Bool) → (not withdraws && not (corrected || (same || false))) ≡ ((not withdraws && not corrected) && not same)
counts_still true true true = refl
counts_still true true false = refl
counts_still true false true = refl
counts_still true false false = refl
counts_still false true true = refl
counts_still false true false = refl
counts_still false false true = refl
counts_still false false false = refl

same_turned : (a b : ℕ) → (a == b) ≡ (b == a)
same_turned a b = grind (arith, nat_tests)

module _ (records live : List Record) (corrected : List (Option ℕ)) (indexed : AreIndexed records live corrected) where
  counted : (r : Record) → Contains live r → Contains records r
  counted r has = (filter_contains (is_live records) records r (All-contains (Contains (live_records records)) live r indexed.counting.only has)).0

  -- those that count have numbers of their own
  pub own_live : AllPairs (λ r other. r.number ≢ other.number) live
  own_live i j d before within same =
      let behind = indexed.counting.in_order i j d before within in
      let one = counted (get_or live i d) (Contains-get_or live i d (omega (arith, before, within))) in
      let other = counted (get_or live j d) (Contains-get_or live j d within) in
      let alike : get_or live i d ≡ get_or live j d = numbers_own records indexed.kept.numbered _ _ one other same in
      false≢true (sym (itself (get_or live i d)) ∙ subst (λ next. comes_before (get_or live i d) next ≡ true) (sym alike) behind)

  -- and none the number 0
  pub numbered_live : All (λ r. 1 ≤ r.number) live
  numbered_live k d within = at_least (counted (get_or live k d) (Contains-get_or live k d within))
    where
      at_least : Contains records (get_or live k d) → 1 ≤ (get_or live k d).number
      at_least (place, low, at) = omega (arith, ap (λ (r : Record). r.number) at, indexed.kept.numbered.number place (get_or live k d) low)

  older : (held r : Record) → held.number ≡ newest_number records + 1 → Contains records r → r.number < held.number
  older held r next (place, low, at) =
      omega (arith, ap (λ (r : Record). r.number) at, indexed.kept.numbered.number place r low, indexed.kept.numbered.newest, next)

  -- and lesser ones than one that follows
  pub older_live : (held : Record) → held.number ≡ newest_number records + 1 → All (λ r. r.number < held.number) live
  older_live held next k d within = older held (get_or live k d) next (counted (get_or live k d) (Contains-get_or live k d within))

  -- none corrects the one that follows
  uncorrected : (held : Record) → Follows records held → list_any (λ other. other.corrects == held.number) (records ++ held ∷ []) ≡ false
  uncorrected held follows =
      list_any_none (λ (other : Record). other.corrects == held.number) (records ++ held ∷ [])
      (All-push (λ (other : Record). (other.corrects == held.number) ≡ false) records held
      (λ k d within. ne_eqb _ _ (λ same.
      absurd (omega (arith, same, indexed.kept.earlier k d within, older held (get_or records k d) follows.number (Contains-get_or records k d within)))))
      (ne_eqb _ _ (λ same. absurd (omega (arith, same, follows.earlier)))))

  pub live_push : (held : Record) → Follows records held → live_records (records ++ held ∷ []) ≡ with_live (live_records records) held
  live_push held follows =
      filter-append (is_live more) records (held ∷ [])
      ∙ ap₂ (λ (before after : List Record). before ++ after)
      (filter_alike (is_live more) (λ r. is_live records r && not (r.number == held.corrects)) records
      (λ k d within. still (get_or records k d))
      ∙ sym (filter-filter (λ (r : Record). not (r.number == held.corrects)) (is_live records) records))
      (rw (uncorrected held follows) (one_made (is_withdrawal held.kind) (held ∷ [])))
    where
      more : List Record
      more = records ++ held ∷ []

      still : (r : Record) → is_live (records ++ held ∷ []) r ≡ (is_live records r && not (r.number == held.corrects))
      still r =
          rw (list_any-append (λ (other : Record). other.corrects == r.number) records (held ∷ []), same_turned r.number held.corrects)
          (counts_still (is_withdrawal r.kind) (list_any (λ (other : Record). other.corrects == r.number) records) (held.corrects == r.number))

  pub indexed_push : (held : Record) (more_live : List Record) (more_corrected : List (Option ℕ)) → Follows records held → AreInOrder (with_live live held) more_live →
      length more_live ≤ length live + 1 → AreCorrected (records ++ held ∷ []) more_corrected → AreIndexed (records ++ held ∷ []) more_live more_corrected
  indexed_push held more_live more_corrected follows in_order few marked = record {
    kept = kept_push records held indexed.kept follows;
    counting = rw (live_push held follows) (record {
      all = All-weaker (Contains (with_live live held)) (Contains more_live)
          (λ r has. All-contains (Contains more_live) (with_live live held) r in_order.all has)
          (with_live (live_records records) held) (with_live-among (live_records records) live held indexed.counting.all);
      only = All-weaker (Contains (with_live live held)) (Contains (with_live (live_records records) held))
          (λ r has. All-contains (Contains (with_live (live_records records) held)) (with_live live held) r
          (with_live-among live (live_records records) held indexed.counting.only) has)
          more_live in_order.only;
      in_order = in_order.in_order;
    });
    few = omega (arith, few, indexed.few, length-append records (held ∷ []));
    marked = marked;
  }

  -- neither comes before the other
  neither : (one other : Record) → comes_before one other ≡ false → comes_before other one ≡ false → one.number ≡ other.number
  neither one other e f = grind (arith, nat_tests)

  -- the last of those in order is in force
  pub last_in_force : (day : ℕ) → latest (filter (λ r. nat_le r.from day) live) ≡ in_force records day
  last_in_force day = one_answer _ _ (is_latest begun live) (is_latest begun (live_records records))
    where
      begun : Record → Bool
      begun r = nat_le r.from day

      IsAhead : Option Record → Record → Type 0
      IsAhead answer other = begun other ≡ true → IsSomeAnd answer (λ best. comes_before best other ≡ false)

      one_answer : (one other : Option Record) → IsLatest comes_before begun live one → IsLatest comes_before begun (live_records records) other → one ≡ other
      one_answer None None is_one is_other = refl
      one_answer None (Some b) is_one is_other =
          absurd (All-contains (IsAhead None) live b is_one.last (All-contains (Contains live) (live_records records) b indexed.counting.all is_other.among.0) is_other.among.1)
      one_answer (Some a) None is_one is_other =
          absurd (All-contains (IsAhead None) (live_records records) a is_other.last (All-contains (Contains (live_records records)) live a indexed.counting.only is_one.among.0) is_one.among.1)
      one_answer (Some a) (Some b) is_one is_other =
          let a_there = All-contains (Contains (live_records records)) live a indexed.counting.only is_one.among.0 in
          let b_there = All-contains (Contains live) (live_records records) b indexed.counting.all is_other.among.0 in
          ap Some (numbers_own records indexed.kept.numbered a b (counted a is_one.among.0) (counted b b_there)
          (neither a b (All-contains (IsAhead (Some a)) live b is_one.last b_there is_other.among.1)
          (All-contains (IsAhead (Some b)) (live_records records) a is_other.last a_there is_one.among.1)))
