-- Applicants in the order in which they stand.
use Rattle.wait_list.proofs.Words.{◌≡◌, ◌≢◌, ◌∙◌, sym, ap, refl, ℕ, suc, zero, ◌<◌, Bool, true, false, List, [], ◌∷◌, ◌++◌, length, get_or, arith, Option, Some, None, All, All-head, All-tail, All-filter, AllPairs-filter, Contains, IsSomeAnd, filter, nat_tests, false≢true, if◌then◌else◌, Applicant, Asked, needs, stands_behind, first_of, is_candidate, candidates, is_extremely_low, next_of, ◌&&◌, is_listed, without, HaveOwnNumbers, IsSoundList, IsSize}
use Rattle.std.specs.Prelude.{find, fold, insert, remove, position, ◌≤◌, ◌-◌, ◌+◌, not, ◌==◌}
use Rattle.std.specs.List.Sorted.{IsPermutation, IsPartitionPoint, IsPartitionedBy}
use Rattle.std.proofs.Common.{◌⊎◌, inl, inr, subst, eq-eqb}
use Rattle.std.proofs.lemmas.Bool.{cases_lt, ne_eqb, true_from_ne_false, false_from_ne_true}
use Rattle.std.proofs.lemmas.{List.get_or_default, Option.slice_get_within}
use Rattle.std.proofs.Common.{lt-ltb}
use Rattle.std.specs.List.{position_or_len}
use Rattle.std.proofs.lemmas.List.Elements.{All-contains, All-weaker, All-contains_itself, All-cons, All-push, Contains-get_or, Contains-append_left, Contains-append_right, Contains-push}
use Rattle.std.proofs.lemmas.List.Folds.{find_at, list_any_none, list_any_at}
use Rattle.std.proofs.lemmas.List.Quantifiers.{all_pairs_push}
use Rattle.std.proofs.lemmas.List.Sorted.{All-permutation, Contains-permutation}
use Rattle.list_laws.proofs.{Elements.AllPairs-insert, Filters.filter_all, Filters.Contains-filter, Filters.filter-contains as filter_contains, Finds.find_none}
use Rattle.row_choice.{specs.Latest.later, specs.Latest.IsLatest, proofs.LatestLemmas.latest-is, proofs.LatestLemmas.filter-filter, proofs.LatestLemmas.pairs_order-turned}
use Rattle.wait_list.specs.Ranked.{StandInOrder, IsRanking, IsSoundRanking}
use Rattle.wait_list.specs.Waiting.{ActsRise}
use Rattle.wait_list.specs.Next.{next_candidate}
use Rattle.wait_list.proofs.ListedLemmas.{length-without}
use Rattle.wait_list.proofs.Words.{min}

-- ---- the first who passes

-- who stands behind another doesn't stand before it
not_before : (first next : Applicant) → stands_behind next first ≡ true → stands_behind first next ≡ false
not_before first next behind = grind (arith, nat_tests)

itself : (applicant : Applicant) → stands_behind applicant applicant ≡ false
itself applicant = grind (arith, nat_tests)

-- nobody behind takes the place of the first
first_stays : (first : Applicant) (rest : List Applicant) → All (λ next. stands_behind next first ≡ true) rest →
    fold (later stands_behind) (Some first) rest ≡ Some first
first_stays first [] all = refl
first_stays first (next ∷ rest) all =
    let keeps : later stands_behind (Some first) next ≡ Some first =
    rw (not_before first next (All-head (λ next. stands_behind next first ≡ true) next rest all)) refl in
    rw keeps (first_stays first rest (All-tail (λ next. stands_behind next first ≡ true) next rest all))

-- so the first who passes is the first of those who pass
pub found_is_first : (passes : Applicant → Bool) (ranked : List Applicant) → StandInOrder ranked → find passes ranked ≡ first_of (filter passes ranked)
found_is_first passes [] order = refl
found_is_first passes (first ∷ rest) order =
    by_test (passes first) (found_is_first passes rest (λ i j d before within. order (suc i) (suc j) d (omega arith) (omega arith)))
  where
    by_test : (passed : Bool) → find passes rest ≡ first_of (filter passes rest) →
        (if passed then Some first else find passes rest) ≡ first_of (if passed then first ∷ filter passes rest else filter passes rest)
    by_test true later_is =
        sym (first_stays first (filter passes rest)
        (All-filter passes (λ next. stands_behind next first ≡ true) rest (λ k d within. order 0 (suc k) d (omega arith) (omega arith))))
    by_test false later_is = later_is

-- ---- the same applicants in another order

-- of two who applied by one act both are the same
same_act : (applicants : List Applicant) (one other : Applicant) → ActsRise applicants → Contains applicants one → Contains applicants other →
    one.act ≡ other.act → one ≡ other
same_act applicants one other rise (k, within, is) (k', within', is') same =
    grind (arith, rise k k' one, rise k' k one, get_or_default applicants k' one other within')

-- of two of one number both are the same
same_number : (applicants : List Applicant) (one other : Applicant) → HaveOwnNumbers applicants → Contains applicants one → Contains applicants other →
    one.number ≡ other.number → one ≡ other
same_number applicants one other own (k, within, is) (k', within', is') same =
    grind (arith, own k k' one, own k' k one, get_or_default applicants k' one other within')

-- neither stands before the other
neither : (one other : Applicant) → stands_behind one other ≡ false → stands_behind other one ≡ false → one.act ≡ other.act
neither one other e f = grind (arith, nat_tests)

module _ (applicants ranked : List Applicant) (rise : ActsRise applicants) (ranking : IsRanking applicants ranked) (passes : Applicant → Bool) where
  order : IsLatest stands_behind passes ranked (first_of (filter passes ranked))
  order = latest-is stands_behind passes ranked (pairs_order-turned (λ applicant. applicant.rank) (λ applicant. applicant.act))

  listed : IsLatest stands_behind passes applicants (first_of (filter passes applicants))
  listed = latest-is stands_behind passes applicants (pairs_order-turned (λ applicant. applicant.rank) (λ applicant. applicant.act))

  abbrev IsAhead : Option Applicant → Applicant → Type 0
  IsAhead answer other = passes other ≡ true → IsSomeAnd answer (λ best. stands_behind best other ≡ false)

  one_answer : (one other : Option Applicant) → IsLatest stands_behind passes ranked one → IsLatest stands_behind passes applicants other → one ≡ other
  one_answer None None is_one is_other = refl
  one_answer None (Some b) is_one is_other =
      absurd (All-contains (IsAhead None) ranked b is_one.last (All-contains (Contains ranked) applicants b ranking.all is_other.among.0) is_other.among.1)
  one_answer (Some a) None is_one is_other =
      absurd (All-contains (IsAhead None) applicants a is_other.last (All-contains (Contains applicants) ranked a ranking.only is_one.among.0) is_one.among.1)
  one_answer (Some a) (Some b) is_one is_other =
      let a_there = All-contains (Contains applicants) ranked a ranking.only is_one.among.0 in
      let b_there = All-contains (Contains ranked) applicants b ranking.all is_other.among.0 in
      ap Some (same_act applicants a b rise a_there is_other.among.0
      (neither a b (All-contains (IsAhead (Some a)) ranked b is_one.last b_there is_other.among.1)
      (All-contains (IsAhead (Some b)) applicants a is_other.last a_there is_one.among.1)))

  pub same_first : first_of (filter passes ranked) ≡ first_of (filter passes applicants)
  same_first = one_answer _ _ order listed

-- ---- one applicant more

-- who stands behind one stands behind each that stands before that one
pub parted : (ranked : List Applicant) (applicant : Applicant) → StandInOrder ranked → IsPartitionedBy (λ other. stands_behind applicant other) ranked
parted ranked applicant in_order i j d le within passed = by_place (cases_lt i j)
  where
    by_place : (i < j) ⊎ (j ≤ i) → stands_behind applicant (get_or ranked i d) ≡ true
    by_place (inl before) = (let behind = in_order i j d before within in grind (arith, nat_tests))
    by_place (inr from) = (let same : i ≡ j = omega arith in rw same passed)

-- an applicant who applied last stands behind those before its place, and before the others
pub in_order-insert : (ranked : List Applicant) (i : ℕ) (applicant : Applicant) → i ≤ length ranked → StandInOrder ranked →
    IsPartitionPoint (λ other. stands_behind applicant other ≡ true) (λ other. stands_behind applicant other ≡ false) ranked i →
    All (λ earlier. earlier.act < applicant.act) ranked → StandInOrder (insert ranked i applicant)
in_order-insert ranked i applicant le in_order point earlier =
    AllPairs-insert (λ one next. stands_behind next one ≡ true) ranked i applicant le in_order
    (λ k d lower. point.0 k d (omega arith) lower)
    (λ k d from within. follows (get_or ranked k d) (point.1 k d from within) (earlier k d within))
  where
    follows : (next : Applicant) → stands_behind applicant next ≡ false → next.act < applicant.act → stands_behind next applicant ≡ true
    follows next ahead before = grind (arith, nat_tests)

-- what holds of all applicants holds of them in order
pub of_ranked : (P : Applicant → Type 0) (applicants ranked : List Applicant) → All (Contains applicants) ranked → All P applicants → All P ranked
of_ranked P applicants ranked only all = All-weaker (Contains applicants) P (λ applicant has. All-contains P applicants applicant all has) ranked only

pub sound-push : (applicants : List Applicant) (applicant : Applicant) → IsSoundList applicants → is_listed applicants applicant.number ≡ false →
    All (λ earlier. earlier.act < applicant.act) applicants → 1 ≤ applicant.size → applicant.size ≤ 12 → IsSoundList (applicants ++ applicant ∷ [])
sound-push applicants applicant sound unlisted earlier least most = record {
  numbers = all_pairs_push (λ one other. one.number ≢ other.number) applicants applicant sound.numbers
      (λ k d within same. false≢true (sym unlisted ∙ list_any_at (λ (other : Applicant). other.number == applicant.number) applicants k d within (eq-eqb _ _ same)));
  acts = all_pairs_push (λ one next. one.act < next.act) applicants applicant sound.acts earlier;
  sizes = All-push (λ one. IsSize one.size) applicants applicant sound.sizes (record { least = least; most = most });
}

pub ranking-push : (applicants ranked more : List Applicant) (applicant : Applicant) → IsRanking applicants ranked →
    IsPermutation (applicant ∷ ranked) more → StandInOrder more → IsRanking (applicants ++ applicant ∷ []) more
ranking-push applicants ranked more applicant ranking same in_order =
    let there : (x : Applicant) → Contains (applicant ∷ ranked) x → Contains more x = λ x. Contains-permutation (applicant ∷ ranked) more x same in
    let listed : List Applicant = applicants ++ applicant ∷ [] in
    record {
      all = All-push (Contains more) applicants applicant
          (All-weaker (Contains ranked) (Contains more) (λ x has. there x (Contains-append_right (applicant ∷ []) ranked x has)) applicants ranking.all)
          (there applicant (0, omega arith, refl));
      only = All-permutation (Contains listed) (applicant ∷ ranked) more same
          (All-cons (Contains listed) applicant ranked (Contains-push applicants applicant)
          (All-weaker (Contains applicants) (Contains listed) (Contains-append_left applicants (applicant ∷ [])) ranked ranking.only));
      in_order = in_order;
    }

-- ---- one applicant less

-- who stands at the place and has the number is the one who goes
pub remove-is : (number : ℕ) (applicants : List Applicant) (place : ℕ) (d : Applicant) → HaveOwnNumbers applicants → place < length applicants →
    (get_or applicants place d).number ≡ number → remove applicants place ≡ without number applicants
remove-is number [] place d own within is = absurd (omega arith)
remove-is number (first ∷ rest) zero d own within is =
    let goes : (first.number == number) ≡ true = eq-eqb first.number number is in
    rw goes (sym (filter_all (λ applicant. not (applicant.number == number)) rest
    (λ k e low. rw (ne_eqb (get_or rest k e).number number (λ same. own 0 (suc k) e (omega arith) (omega arith) (is ∙ sym same))) refl)))
remove-is number (first ∷ rest) (suc place) d own within is =
    let stays : (first.number == number) ≡ false = ne_eqb first.number number (λ same. own 0 (suc place) d (omega arith) (omega arith) (same ∙ sym is)) in
    rw stays (ap (λ (others : List Applicant). first ∷ others)
    (remove-is number rest place d (λ i j e before low. own (suc i) (suc j) e (omega arith) (omega arith)) (omega arith) is))

-- where nobody has the number all stay
pub all-stay : (number : ℕ) (applicants : List Applicant) → position (λ applicant. applicant.number == number) applicants ≡ None → applicants ≡ without number applicants
all-stay number applicants none =
    sym (filter_all (λ applicant. not (applicant.number == number)) applicants
    (λ k d within. rw (find_none is_gone applicants (nobody (find is_gone applicants) refl) k d within) refl))
  where
    is_gone : Applicant → Bool
    is_gone applicant = applicant.number == number

    nobody : (found : Option Applicant) → find is_gone applicants ≡ found → found ≡ None
    nobody None is = refl
    nobody (Some applicant) is =
        let low = slice_get_within applicants (position_or_len is_gone applicants) applicant (sym (find_at is_gone applicants) ∙ is) in
        absurd (let there = rw (lt-ltb _ _ low) at none in cc)

module _ (number : ℕ) (applicants ranked : List Applicant) (sound : IsSoundRanking applicants ranked) where
  abbrev stays : Applicant → Bool
  stays applicant = not (applicant.number == number)

  -- the numbers in order are those of the list, each once
  pub own_ranked : HaveOwnNumbers ranked
  own_ranked i j d before within same =
      let behind = sound.ranking.in_order i j d before within in
      let one = Contains-get_or ranked i d (omega arith) in
      let other = Contains-get_or ranked j d within in
      let alike : get_or ranked i d ≡ get_or ranked j d =
      same_number applicants (get_or ranked i d) (get_or ranked j d) sound.list.numbers (All-contains (Contains applicants) ranked _ sound.ranking.only one)
      (All-contains (Contains applicants) ranked _ sound.ranking.only other) same in
      false≢true (sym (itself (get_or ranked i d)) ∙ subst (λ next. stands_behind next (get_or ranked i d) ≡ true) (sym alike) behind)

  kept_in : (xs ys : List Applicant) → All (Contains ys) xs → All (Contains (filter stays ys)) (filter stays xs)
  kept_in xs ys all =
      All-weaker (Contains (filter stays xs)) (Contains (filter stays ys))
      (λ x has. (let kept = filter_contains stays xs x has in Contains-filter stays ys x (All-contains (Contains ys) xs x all kept.0) kept.1))
      (filter stays xs) (All-contains_itself (filter stays xs))

  pub sound-without : IsSoundRanking (without number applicants) (without number ranked)
  sound-without = record {
    list = record {
      numbers = AllPairs-filter (λ applicant other. applicant.number ≢ other.number) stays applicants sound.list.numbers;
      acts = AllPairs-filter (λ applicant next. applicant.act < next.act) stays applicants sound.list.acts;
      sizes = All-filter stays (λ applicant. IsSize applicant.size) applicants sound.list.sizes;
    };
    ranking = record {
      all = kept_in applicants ranked sound.ranking.all;
      only = kept_in ranked applicants sound.ranking.only;
      in_order = AllPairs-filter (λ one next. stands_behind next one ≡ true) stays ranked sound.ranking.in_order;
    };
  }

  -- who is on the list is on it in order
  pub listed_alike : is_listed ranked number ≡ is_listed applicants number
  listed_alike = both_ways (is_listed ranked number) (is_listed applicants number) refl refl
    where
      list_any_all : (ys : List Applicant) → is_listed ys number ≡ false → All (λ y. (y.number == number) ≡ false) ys
      list_any_all ys none k d within = false_from_ne_true _ (λ is. false≢true (sym none ∙ list_any_at (λ (y : Applicant). y.number == number) ys k d within is))

      by : (xs ys : List Applicant) → All (Contains ys) xs → is_listed xs number ≡ true → is_listed ys number ≡ true
      by xs ys all is = true_from_ne_false (is_listed ys number) (λ none.
          false≢true (sym (list_any_none (λ (x : Applicant). x.number == number) xs
          (All-weaker (Contains ys) (λ x. (x.number == number) ≡ false)
          (λ x has. All-contains (λ y. (y.number == number) ≡ false) ys x (list_any_all ys none) has) xs all)) ∙ is))

      both_ways : (one other : Bool) → is_listed ranked number ≡ one → is_listed applicants number ≡ other → one ≡ other
      both_ways true true is_one is_other = refl
      both_ways false false is_one is_other = refl
      both_ways true false is_one is_other = sym (by ranked applicants sound.ranking.only is_one) ∙ is_other
      both_ways false true is_one is_other = sym is_one ∙ by applicants ranked sound.ranking.all is_other

-- ---- who is next

-- who is next of some is the same, whatever the order in which they are listed
pub same_next : (asked : Asked) (applicants ranked : List Applicant) → ActsRise applicants → IsRanking applicants ranked → next_candidate asked ranked ≡ next_candidate asked applicants
same_next asked applicants ranked rise ranking =
    rw (of_group (needs asked), of_group (λ applicant. not (needs asked applicant))) refl
  where
    of_first : (passes : Applicant → Bool) → first_of (filter passes (candidates asked ranked)) ≡ first_of (filter passes (candidates asked applicants))
    of_first passes =
        ap first_of (filter-filter passes (is_candidate asked) ranked)
        ∙ same_first applicants ranked rise ranking (λ applicant. is_candidate asked applicant && passes applicant)
        ∙ ap first_of (sym (filter-filter passes (is_candidate asked) applicants))

    of_extremely : (passes : Applicant → Bool) →
        first_of (filter (is_extremely_low asked) (filter passes (candidates asked ranked))) ≡ first_of (filter (is_extremely_low asked) (filter passes (candidates asked applicants)))
    of_extremely passes =
        ap first_of (filter-filter (is_extremely_low asked) passes (candidates asked ranked))
        ∙ of_first (λ applicant. passes applicant && is_extremely_low asked applicant)
        ∙ ap first_of (sym (filter-filter (is_extremely_low asked) passes (candidates asked applicants)))

    of_group : (passes : Applicant → Bool) → next_of asked (filter passes (candidates asked ranked)) ≡ next_of asked (filter passes (candidates asked applicants))
    of_group passes = rw (of_first passes, of_extremely passes) refl

-- ---- room

-- each of the two lists has room for one more, where one goes
pub room_left : (listed : Bool) (all all_ranked left left_ranked capacity capacity_ranked room : ℕ) →
    left + (if listed then 1 else 0) ≡ all → left_ranked + (if listed then 1 else 0) ≡ all_ranked → all ≤ capacity → all_ranked ≤ capacity_ranked →
    min (capacity - all) (capacity_ranked - all_ranked) ≡ room → min (capacity - left) (capacity_ranked - left_ranked) ≡ (if listed then room + 1 else room)
room_left true all all_ranked left left_ranked capacity capacity_ranked room gone gone_ranked fits fits_ranked is = omega (arith, gone, gone_ranked, fits, fits_ranked, is)
room_left false all all_ranked left left_ranked capacity capacity_ranked room gone gone_ranked fits fits_ranked is = omega (arith, gone, gone_ranked, fits, fits_ranked, is)

-- how many are left of each
pub left_of : (number : ℕ) (applicants : List Applicant) (listed : Bool) (all left : ℕ) → HaveOwnNumbers applicants → listed ≡ is_listed applicants number →
    all ≡ length applicants → left ≡ length (without number applicants) → left + (if listed then 1 else 0) ≡ all
left_of number applicants listed all left own is all_is left_is = rw (all_is, left_is, is) (length-without number applicants own)
