-- Records that stand in order.
use Rattle.record_history.proofs.Words.{◌≡◌, ◌≢◌, ◌∙◌, sym, ap, refl, subst, ℕ, zero, suc, ◌-◌, ◌<◌, ◌≤◌, ◌⊎◌, inl, inr, Bool, true, false, List, [], ◌∷◌, ◌++◌, length, get_or, arith, None, All, filter, nat_le, ◌==◌, nat_tests, cases_lt, All-cons, All-push, Record, comes_before, latest, StandInOrder, AreInOrder, with_live, latest-is, pairs_order}
use Rattle.std.specs.Prelude.{AllPairs, Contains, Option, Some, insert, remove, position, find, slice_get, not}
use Rattle.std.specs.List.{position_or_len}
use Rattle.std.specs.List.Sorted.{IsPermutation, IsPartitionPoint, IsPartitionedBy}
use Rattle.std.proofs.lemmas.Bool.{ne_eqb, false≢true}
use Rattle.std.proofs.lemmas.Option.{slice_get_within, slice_get-get_or}
use Rattle.std.proofs.Common.{eq-eqb, lt-ltb, append-nil}
use Rattle.std.proofs.lemmas.List.Elements.{All-contains_itself, Contains-get_or, Contains-append_left, Contains-append_right, Contains-push}
use Rattle.std.proofs.lemmas.List.Folds.{find_at}
use Rattle.std.proofs.lemmas.List.Sorted.{All-permutation, Contains-permutation}
use Rattle.list_laws.proofs.{Elements.AllPairs-insert, Filters.filter_all, Finds.find_none}
use Rattle.row_choice.specs.Latest.{IsLatest}
use Rattle.record_history.specs.Records.{is_withdrawal}

-- ---- the last by a day

-- where those that begin by a day come first, so does each before one of them
pub begun_parted : (live : List Record) (day : ℕ) → StandInOrder live → IsPartitionedBy (λ r. nat_le r.from day) live
begun_parted live day in_order i j d le within passed = by_place (cases_lt i j)
  where
    by_place : (i < j) ⊎ (j ≤ i) → nat_le (get_or live i d).from day ≡ true
    by_place (inl before) = (let behind = in_order i j d before within in grind (arith, nat_tests))
    by_place (inr from) = (let same : i ≡ j = omega arith in rw same passed)

pub before_parted : (live : List Record) (next : Record) → StandInOrder live → IsPartitionedBy (λ r. comes_before r next) live
before_parted live next in_order i j d le within passed = by_place (cases_lt i j)
  where
    by_place : (i < j) ⊎ (j ≤ i) → comes_before (get_or live i d) next ≡ true
    by_place (inl before) = (let behind = in_order i j d before within in grind (arith, nat_tests))
    by_place (inr from) = (let same : i ≡ j = omega arith in rw same passed)

pub is_latest : (passes : Record → Bool) (records : List Record) → IsLatest comes_before passes records (latest (filter passes records))
is_latest passes records = latest-is comes_before passes records (pairs_order (λ r. r.from) (λ r. r.number))

module _ (live : List Record) (day k : ℕ) (in_order : StandInOrder live) (le : k ≤ length live)
    (point : IsPartitionPoint (λ r. nat_le r.from day ≡ true) (λ r. nat_le r.from day ≡ false) live k) where
  abbrev begun : Record → Bool
  begun r = nat_le r.from day

  -- none has begun where the first has not
  pub none_begun : k ≡ 0 → None ≡ latest (filter begun live)
  none_begun is = by_answer (latest (filter begun live)) (is_latest begun live)
    where
      by_answer : (answer : Option Record) → IsLatest comes_before begun live answer → None ≡ answer
      by_answer None law = refl
      by_answer (Some r) law =
          let (j, within, at) = law.among.0 in
          absurd (false≢true (sym (point.1 j r (omega (arith, is)) within) ∙ ap begun at ∙ law.among.1))

  -- else the last that has begun is the latest
  pub last_is : 1 ≤ k → slice_get live (k - 1) ≡ latest (filter begun live)
  last_is some = by_answer (latest (filter begun live)) (is_latest begun live)
    where
      within : k - 1 < length live
      within = omega (arith, some, le)

      by_place : (r : Record) → begun r ≡ true → (j : ℕ) → j < length live → get_or live j r ≡ r → comes_before r (get_or live (k - 1) r) ≡ false →
          (j < k) ⊎ (k ≤ j) → (j < k - 1) ⊎ (k - 1 ≤ j) → slice_get live (k - 1) ≡ Some r
      by_place r passes j low at behind (inr past) _ =
          absurd (false≢true (sym (point.1 j r past low) ∙ ap begun at ∙ passes))
      by_place r passes j low at behind (inl before) (inl earlier) =
          absurd (false≢true (sym behind ∙ subst (λ q. comes_before q (get_or live (k - 1) r) ≡ true) at (in_order j (k - 1) r earlier within)))
      by_place r passes j low at behind (inl before) (inr last) =
          let same : j ≡ k - 1 = omega arith in
          slice_get-get_or live (k - 1) r within ∙ ap Some (subst (λ place. get_or live place r ≡ r) same at)

      -- an element stands for none
      none_there : (rows : List Record) → rows ≡ live → IsLatest comes_before begun live None → slice_get live (k - 1) ≡ None
      none_there [] is law = absurd (omega (arith, within, ap length is))
      none_there (d ∷ rest) is law = absurd (law.last (k - 1) d within (point.0 (k - 1) d (omega arith) (omega (arith, some))))

      by_answer : (answer : Option Record) → IsLatest comes_before begun live answer → slice_get live (k - 1) ≡ answer
      by_answer None law = none_there live refl law
      by_answer (Some r) law =
          let (j, low, at) = law.among.0 in
          let behind : comes_before r (get_or live (k - 1) r) ≡ false = law.last (k - 1) r within (point.0 (k - 1) r (omega arith) (omega (arith, some))) in
          by_place r law.among.1 j low at behind (cases_lt j k) (cases_lt j (k - 1))

-- ---- one more

-- a newer record stands behind those before its place, and before the others
pub in_order-insert : (live : List Record) (i : ℕ) (held : Record) → i ≤ length live → StandInOrder live →
    IsPartitionPoint (λ r. comes_before r held ≡ true) (λ r. comes_before r held ≡ false) live i →
    All (λ r. r.number < held.number) live → StandInOrder (insert live i held)
in_order-insert live i held le in_order point newest =
    AllPairs-insert (λ r next. comes_before r next ≡ true) live i held le in_order
    (λ k d lower. point.0 k d (omega arith) lower)
    (λ k d from within. follows (get_or live k d) (point.1 k d from within) (newest k d within))
  where
    follows : (r : Record) → comes_before r held ≡ false → r.number < held.number → comes_before held r ≡ true
    follows r behind older = grind (arith, nat_tests)

-- ---- one less

-- the one at the place that has the number is the one that goes
pub remove-is : (number : ℕ) (live : List Record) (place : ℕ) (d : Record) → AllPairs (λ r other. r.number ≢ other.number) live → place < length live →
    (get_or live place d).number ≡ number → remove live place ≡ filter (λ r. not (r.number == number)) live
remove-is number [] place d own within is = absurd (omega arith)
remove-is number (first ∷ rest) zero d own within is =
    let goes : (first.number == number) ≡ true = eq-eqb first.number number is in
    rw goes (sym (filter_all (λ (r : Record). not (r.number == number)) rest
    (λ k e low. rw (ne_eqb (get_or rest k e).number number (λ same. own 0 (suc k) e (omega arith) (omega arith) (is ∙ sym same))) refl)))
remove-is number (first ∷ rest) (suc place) d own within is =
    let stays : (first.number == number) ≡ false = ne_eqb first.number number (λ same. own 0 (suc place) d (omega arith) (omega arith) (same ∙ sym is)) in
    rw stays (ap (λ (others : List Record). first ∷ others)
    (remove-is number rest place d (λ i j e before low. own (suc i) (suc j) e (omega arith) (omega arith)) (omega arith) is))

-- where none has the number all stay
pub all-stay : (number : ℕ) (live : List Record) → position (λ r. r.number == number) live ≡ None → live ≡ filter (λ r. not (r.number == number)) live
all-stay number live none =
    sym (filter_all (λ (r : Record). not (r.number == number)) live
    (λ k d within. rw (find_none is_gone live (nobody (find is_gone live) refl) k d within) refl))
  where
    is_gone : Record → Bool
    is_gone r = r.number == number

    nobody : (found : Option Record) → find is_gone live ≡ found → found ≡ None
    nobody None is = refl
    nobody (Some r) is =
        let low = slice_get_within live (position_or_len is_gone live) r (sym (find_at is_gone live) ∙ is) in
        absurd (let there = rw (lt-ltb _ _ low) at none in cc)

-- and where no record has it, all do
pub none_out : (live : List Record) → All (λ r. 1 ≤ r.number) live → filter (λ r. not (r.number == 0)) live ≡ live
none_out live numbered =
    filter_all (λ (r : Record). not (r.number == 0)) live (λ k d within. rw (ne_eqb (get_or live k d).number 0 (λ none. absurd (omega (arith, none, numbered k d within)))) refl)

-- ---- what follows

pub itself : (r : Record) → comes_before r r ≡ false
itself r = grind (arith, nat_tests)

-- where a record newer than all was put in its place among the others
pub follows-put : (live : List Record) (held : Record) (more : List Record) → is_withdrawal held.kind ≡ false →
    IsPermutation (held ∷ filter (λ r. not (r.number == held.corrects)) live) more → StandInOrder more → AreInOrder (with_live live held) more
follows-put live held more counts same in_order =
    rw counts (record {
      all = All-push (Contains more) others held (λ k d within. there _ (Contains-append_right (held ∷ []) others _ (Contains-get_or others k d within)))
          (there held (0, omega arith, refl));
      only = All-permutation (Contains (others ++ held ∷ [])) (held ∷ others) more same
          (All-cons (Contains (others ++ held ∷ [])) held others (Contains-push others held)
          (λ k d within. Contains-append_left others (held ∷ []) _ (Contains-get_or others k d within)));
      in_order = in_order;
    })
  where
    others : List Record
    others = filter (λ r. not (r.number == held.corrects)) live

    there : (r : Record) → Contains (held ∷ others) r → Contains more r
    there r = Contains-permutation (held ∷ others) more r same

-- and where it withdraws another, which is gone
pub follows-gone : (live : List Record) (held : Record) → is_withdrawal held.kind ≡ true →
    StandInOrder (filter (λ r. not (r.number == held.corrects)) live) → AreInOrder (with_live live held) (filter (λ r. not (r.number == held.corrects)) live)
follows-gone live held withdraws in_order =
    rw (withdraws, append-nil (filter (λ (r : Record). not (r.number == held.corrects)) live)) (record {
      all = All-contains_itself (filter (λ (r : Record). not (r.number == held.corrects)) live);
      only = All-contains_itself (filter (λ (r : Record). not (r.number == held.corrects)) live);
      in_order = in_order;
    })
