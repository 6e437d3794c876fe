-- Which records count, and which of some is the first or the last.
use Rattle.std.proofs.Common.{◌≡◌, ◌≢◌, ◌∙◌, sym, ap, refl, arith, Bool, true, false, List, Option, Some, None, not, filter, eqb, subst}
use Rattle.std.specs.Prelude.{◌↔◌, Contains, IsSomeAnd, IfSome}
use Rattle.std.specs.List.{list_any}
use Rattle.std.proofs.lemmas.{Bool.false≢true, Bool.false_from_ne_true, Bool.not-true, Bool.not_from_false, Bool.and_parts, Bool.and_from, Bool.ne_eqb, Bool.eqb-false, List.Folds.list_any_none, Bool.Decides.nat_tests}
use Rattle.std.proofs.lemmas.List.Elements.{All-contains}
use Rattle.list_laws.proofs.Filters.{Contains-filter, filter-contains}
use Rattle.row_choice.specs.Latest.{IsRowOrder, IsLatest, latest as latest_by}
use Rattle.row_choice.proofs.LatestLemmas.{latest-is, pairs_order, pairs_order-turned}
use Rattle.record_history.specs.{declared.records.Kind.Kind, declared.records.Record.Record, Records.is_withdrawal, Records.is_live, Records.live_records, Records.comes_before, Records.latest}
use Rattle.tenancy_rules.specs.{OrderLaw.Precedes, Order.comes_after, Order.earliest}
use Rattle.tenancy_rules.proofs.InPlace.{comes, precedes}
use Rattle.office_step.proofs.Exactly.Options.{none-any, of_each}
use Rattle.office_step.specs.plain.Counting.{Counts, IsFirstOf, IsLastOf}

-- ---- which count

withdraws_not : (kind : Kind) → is_withdrawal kind ≡ false → kind ≢ Kind.WD
withdraws_not kind is same = false≢true (sym is ∙ ap is_withdrawal same)

not_withdraws : (kind : Kind) → kind ≢ Kind.WD → is_withdrawal kind ≡ false
not_withdraws Kind.WD other = absurd (other refl)
not_withdraws _ other = refl

module _ (own : List Record) (r : Record) where
  abbrev named : Bool
  named = list_any (λ (other : Record). eqb other.corrects r.number) own

  live-counts : Contains own r → is_live own r ≡ true → Counts own r
  live-counts held live =
      let parts = and_parts (not (is_withdrawal r.kind)) (not named) live in record {
        held = held;
        withdraws_nothing = withdraws_not r.kind (not-true (is_withdrawal r.kind) parts.0);
        uncorrected = λ other its. eqb-false other.corrects r.number (none-any (λ (other : Record). eqb other.corrects r.number) own (not-true named parts.1) other its);
      }

  counts-live : Counts own r → is_live own r ≡ true
  counts-live counts =
      and_from (not (is_withdrawal r.kind)) (not named) (not_from_false (is_withdrawal r.kind) (not_withdraws r.kind counts.withdraws_nothing))
      (not_from_false named (list_any_none (λ (other : Record). eqb other.corrects r.number) own
      (of_each (λ (other : Record). eqb other.corrects r.number ≡ false) own (λ other its. ne_eqb other.corrects r.number (counts.uncorrected other its)))))

  pub counting : (Contains own r × (is_live own r ≡ true)) ↔ Counts own r
  counting = (λ live. live-counts live.0 live.1, λ counts. (counts.held, counts-live counts))

  pub lives : Contains (live_records own) r ↔ Counts own r
  lives = (
    λ live. (let has = filter-contains (is_live own) own r live in live-counts has.0 has.1),
    λ counts. Contains-filter (is_live own) own r counts.held (counts-live counts),
  )

-- ---- the best of some records by an order

module _ (before : Record → Record → Bool) (order : IsRowOrder before) (Before : Record → Record → Type 0)
    (means : (a b : Record) → (before a b ≡ true) ↔ Before a b)
    (neither : (a b : Record) → before a b ≡ false → before b a ≡ false → a.number ≡ b.number)
    (records : List Record) (own : (a b : Record) → Contains records a → Contains records b → a.number ≡ b.number → a ≡ b)
    (passes : Record → Bool) (IsOne : Record → Type 0) (exact : (r : Record) → (Contains records r × (passes r ≡ true)) ↔ IsOne r) where
  abbrev answer : Option Record
  answer = latest_by before (filter passes records)

  abbrev law : IsLatest before passes records answer
  law = latest-is before passes records order

  not_behind : (r : Record) → IsOne r → IsSomeAnd answer (λ best. before best r ≡ false)
  not_behind r one =
      let held = (exact r).1 one in
      All-contains (λ r. passes r ≡ true → IsSomeAnd answer (λ best. before best r ≡ false)) records r law.last held.0 held.1

  pub best-one : (r : Record) → answer ≡ Some r → IsOne r
  best-one r is = (exact r).0 (subst (λ (o : Option Record). IfSome o (λ row. Contains records row × (passes row ≡ true))) is law.among)

  pub best-last : (r : Record) → answer ≡ Some r → (other : Record) → IsOne other → ¬ Before r other
  best-last r is other one ahead =
      false≢true (sym (subst (λ (o : Option Record). IsSomeAnd o (λ best. before best other ≡ false)) is (not_behind other one)) ∙ (means r other).1 ahead)

  pub one-best : (r : Record) → IsOne r → ((other : Record) → IsOne other → ¬ Before r other) → answer ≡ Some r
  one-best r one last = by_answer answer refl (not_behind r one)
    where
      by_answer : (found : Option Record) → answer ≡ found → IsSomeAnd found (λ best. before best r ≡ false) → answer ≡ Some r
      by_answer None is behind = absurd behind
      by_answer (Some best) is behind =
          let best_one = best-one best is in
          let other_behind : before r best ≡ false = false_from_ne_true (before r best) (λ ahead. last best best_one ((means r best).0 ahead)) in
          is ∙ ap Some (own best r ((exact best).1 best_one).0 ((exact r).1 one).0 (neither best r behind other_behind))

  pub best-none : answer ≡ None → (r : Record) → ¬ IsOne r
  best-none is r one = subst (λ (o : Option Record). IsSomeAnd o (λ best. before best r ≡ false)) is (not_behind r one)

  pub none-best : ((r : Record) → ¬ IsOne r) → answer ≡ None
  none-best none = by_answer answer refl
    where
      by_answer : (found : Option Record) → answer ≡ found → answer ≡ None
      by_answer None is = is
      by_answer (Some best) is = absurd (none best (best-one best is))

-- ---- the first and the last

meant : (a b : Record) → (comes_before a b ≡ true) ↔ Precedes a b
meant a b = (precedes a b, comes a b)

apart : (a b : Record) → comes_before a b ≡ false → comes_before b a ≡ false → a.number ≡ b.number
apart a b e f = grind (arith, nat_tests)

module _ (records : List Record) (own : (a b : Record) → Contains records a → Contains records b → a.number ≡ b.number → a ≡ b)
    (passes : Record → Bool) (IsOne : Record → Type 0) (exact : (r : Record) → (Contains records r × (passes r ≡ true)) ↔ IsOne r) where
  pub last_one : (r : Record) → (latest (filter passes records) ≡ Some r) ↔ IsLastOf IsOne r
  last_one r = (
    λ is. record {
      one = best-one comes_before (pairs_order (λ (r : Record). r.from) (λ (r : Record). r.number)) Precedes meant apart records own passes IsOne exact r is;
      last = best-last comes_before (pairs_order (λ (r : Record). r.from) (λ (r : Record). r.number)) Precedes meant apart records own passes IsOne exact r is;
    },
    λ at. one-best comes_before (pairs_order (λ (r : Record). r.from) (λ (r : Record). r.number)) Precedes meant apart records own passes IsOne exact r at.one at.last,
  )

  pub last_none : (latest (filter passes records) ≡ None) ↔ ((r : Record) → ¬ IsOne r)
  last_none = (
    best-none comes_before (pairs_order (λ (r : Record). r.from) (λ (r : Record). r.number)) Precedes meant apart records own passes IsOne exact,
    none-best comes_before (pairs_order (λ (r : Record). r.from) (λ (r : Record). r.number)) Precedes meant apart records own passes IsOne exact,
  )

  pub first_one : (r : Record) → (earliest (filter passes records) ≡ Some r) ↔ IsFirstOf IsOne r
  first_one r = (
    λ is. record {
      one = best-one comes_after (pairs_order-turned (λ (r : Record). r.from) (λ (r : Record). r.number)) (λ a b. Precedes b a) (λ a b. meant b a) (λ a b e f. apart a b f e) records own passes IsOne exact r is;
      first = best-last comes_after (pairs_order-turned (λ (r : Record). r.from) (λ (r : Record). r.number)) (λ a b. Precedes b a) (λ a b. meant b a) (λ a b e f. apart a b f e) records own passes IsOne exact r is;
    },
    λ at. one-best comes_after (pairs_order-turned (λ (r : Record). r.from) (λ (r : Record). r.number)) (λ a b. Precedes b a) (λ a b. meant b a) (λ a b e f. apart a b f e) records own passes IsOne exact r at.one at.first,
  )

  pub first_none : (earliest (filter passes records) ≡ None) ↔ ((r : Record) → ¬ IsOne r)
  first_none = (
    best-none comes_after (pairs_order-turned (λ (r : Record). r.from) (λ (r : Record). r.number)) (λ a b. Precedes b a) (λ a b. meant b a) (λ a b e f. apart a b f e) records own passes IsOne exact,
    none-best comes_after (pairs_order-turned (λ (r : Record). r.from) (λ (r : Record). r.number)) (λ a b. Precedes b a) (λ a b. meant b a) (λ a b e f. apart a b f e) records own passes IsOne exact,
  )
