-- Which record is in force, in plain facts.
use Rattle.std.proofs.Common.{◌≡◌, ◌≢◌, ◌∙◌, sym, ap, refl, ℕ, ◌≤◌, Bool, true, false, List, get_or, arith}
use Rattle.std.specs.Prelude.{◌↔◌, ◌&&◌, ◌==◌, not, nat_le, Contains}
use Rattle.std.specs.List.{list_any}
use Rattle.std.proofs.lemmas.{Bool.false≢true, Bool.ne_eqb, Bool.eq-eqb, Bool.le-leb, Bool.leb-true, Grind.common_steps, List.Elements.All-contains, List.Elements.All-contains_itself, List.Folds.list_any_none, List.Folds.list_any_at, List.get_or_default}
use Rattle.list_laws.proofs.Filters.{Contains-filter, filter-contains}
use Rattle.row_choice.proofs.{LatestLemmas.filter-filter, StandsLemmas.IsLast, StandsLemmas.latest-last, StandsLemmas.last-latest, StandsLemmas.latest-none, StandsLemmas.none-latest}
use Rattle.record_history.specs.{declared.records.Kind.Kind, declared.records.Record.Record, Held.AreNumbered}
use Rattle.record_history.specs.Records.{as_of, is_withdrawal, in_force}
use Rattle.record_history.specs.Law.{is_candidate, CountsOn, IsOneInForce}

-- a kind is that of a withdrawal or another
no_withdrawal : (kind : Kind) → kind ≢ Kind.WD → is_withdrawal kind ≡ false
no_withdrawal Kind.WD other = absurd (other refl)
no_withdrawal _ other = refl

-- what passes for one element passes for some
pub some_passes : {X : Type 0} (p : X → Bool) (xs : List X) (x : X) → Contains xs x → p x ≡ true → list_any p xs ≡ true
some_passes p xs x held passes = All-contains (λ y. p y ≡ true → list_any p xs ≡ true) xs x (λ k d within passes. list_any_at p xs k d within passes) held passes

-- both parts of a test that passes
tests : (withdraws corrected begun : Bool) → ((not withdraws && not corrected) && begun) ≡ true → (withdraws ≡ false) × (corrected ≡ false) × (begun ≡ true)
tests withdraws corrected begun passes = grind (arith, common_steps, passes)

module _ (known : List Record) (IsKnown : Record → Type 0) (exact : (r : Record) → Contains known r ↔ IsKnown r)
    (own : (a b : Record) → IsKnown a → IsKnown b → a.number ≡ b.number → a ≡ b) (day : ℕ) where
  counts : (r : Record) → Contains known r × (is_candidate known day r ≡ true) → CountsOn IsKnown day r
  counts r (held, passes) =
      let parts = tests (is_withdrawal r.kind) (list_any (λ other. other.corrects == r.number) known) (nat_le r.from day) passes in
      record {
        known = (exact r).0 held;
        withdraws_nothing = λ is. false≢true (sym parts.0 ∙ ap is_withdrawal is);
        uncorrected = λ other is_known same.
            false≢true (sym parts.1 ∙ some_passes (λ other. other.corrects == r.number) known other ((exact other).1 is_known) (eq-eqb _ _ same));
        begun = leb-true r.from day parts.2;
      }

  passes : (r : Record) → CountsOn IsKnown day r → Contains known r × (is_candidate known day r ≡ true)
  passes r of_day = (
    (exact r).1 of_day.known,
    rw (
      no_withdrawal r.kind of_day.withdraws_nothing,
      list_any_none (λ other. other.corrects == r.number) known
          (λ k d within. ne_eqb _ _ (of_day.uncorrected (get_or known k d) ((exact _).0 (All-contains_itself known k d within)))),
      le-leb r.from day of_day.begun,
    ),
  )

  candidates : (r : Record) → (Contains known r × (is_candidate known day r ≡ true)) ↔ CountsOn IsKnown day r
  candidates r = (counts r, passes r)

  own_number : (a b : Record) → CountsOn IsKnown day a → CountsOn IsKnown day b → a.number ≡ b.number → a ≡ b
  own_number a b of_a of_b = own a b of_a.known of_b.known

  abbrev Last : Record → Type 0
  Last = IsLast (λ (r : Record). r.from) (λ (r : Record). r.number) (CountsOn IsKnown day)

  is_one_in_force : IsOneInForce IsKnown day (in_force known day)
  is_one_in_force = rw filter-filter (record {
    some = λ r. (
      λ is. (let last = latest-last (λ r. r.from) (λ r. r.number) (is_candidate known day) (CountsOn IsKnown day) known candidates r is in
          record { counts = last.counts; begins_last = last.greatest; numbered_last = last.then_greatest }),
      λ last. last-latest (λ r. r.from) (λ r. r.number) (is_candidate known day) (CountsOn IsKnown day) known candidates own_number r
          (record { counts = last.counts; greatest = last.begins_last; then_greatest = last.numbered_last }),
    );
    none = (
      latest-none (λ r. r.from) (λ r. r.number) (is_candidate known day) (CountsOn IsKnown day) known candidates,
      none-latest (λ r. r.from) (λ r. r.number) (is_candidate known day) (CountsOn IsKnown day) known candidates,
    );
  })

-- records that are numbered have numbers of their own
pub numbers_own : (records : List Record) → AreNumbered records → (a b : Record) → Contains records a → Contains records b → a.number ≡ b.number → a ≡ b
numbers_own records numbered a b (k, within, is) (j, there, that) same =
    let at_k = numbered.number k a within in
    let at_j = numbered.number j b there in
    let place : k ≡ j = omega (arith, ap (λ (r : Record). r.number) is, ap (λ (r : Record). r.number) that, at_k, at_j, same) in
    sym is ∙ get_or_default records k a b within ∙ ap (λ (n : ℕ). get_or records n b) place ∙ that

pub one_now : (records : List Record) (day : ℕ) → AreNumbered records → IsOneInForce (Contains records) day (in_force records day)
one_now records day numbered = is_one_in_force records (Contains records) (λ r. (λ held. held, λ held. held)) (numbers_own records numbered) day

pub one_as_of : (records : List Record) (act day : ℕ) → AreNumbered records →
    IsOneInForce (λ r. Contains records r × (r.act ≤ act)) day (in_force (as_of act records) day)
one_as_of records act day numbered =
    is_one_in_force (as_of act records) (λ r. Contains records r × (r.act ≤ act))
    (λ r. (
      λ kept. (let both = filter-contains (λ r. nat_le r.act act) records r kept in (both.0, leb-true r.act act both.1)),
      λ both. Contains-filter (λ r. nat_le r.act act) records r both.0 (le-leb r.act act both.1),
    ))
    (λ a b of_a of_b. numbers_own records numbered a b of_a.0 of_b.0) day
