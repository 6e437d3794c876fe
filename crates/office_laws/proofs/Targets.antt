-- The admissions that an office counts against its target are just those of the fiscal year, each once.
use Rattle.std.proofs.Common.{◌≡◌, ◌≢◌, ◌∙◌, sym, ap, refl, subst, ℕ, suc, ◌-◌, ◌<◌, ◌≤◌, inl, inr, arith, true, Some, List, [], ◌∷◌, get_or, length, filter, AllPairs, All, ◌==◌}
use Rattle.std.specs.Prelude.{Contains}
use Rattle.std.specs.List.{flat_map}
use Rattle.std.proofs.lemmas.{Bool.false≢true, Bool.and_parts, Bool.and_from, Bool.eqb-true, Bool.eq-eqb, Bool.Decides.nat_tests, Grind.common_steps, List.get_or_default, List.Kept.AllPairs-filter}
use Rattle.std.proofs.lemmas.List.Elements.{All-nil, All-cons, All-weaker, All-contains, Contains-append_cases, Contains-append_left, Contains-append_right, Contains-get_or}
use Rattle.list_laws.proofs.{Elements.AllPairs-append, Filters.Contains-filter, Filters.filter-contains}
use Rattle.days_core.specs.Calendar.{month_of}
use Rattle.record_history.specs.{declared.records.Kind.Kind, declared.records.Record.Record, Records.is_live, Records.live_records}
use Rattle.record_history.proofs.Kept.{records_cases}
use Rattle.rent_table.specs.declared.plan.Plan.{Plan}
use Rattle.tenancy_rules.specs.Order.{is_move_in}
use Rattle.book_rows.specs.Book.{Book}
use Rattle.office_step.specs.{declared.call.Capacity.Capacity, Acts.acts_of, Acts.household_count, Candidates.fiscal_year, Candidates.is_admission, Known.Known, Known.known_of, Known.own_in, Step.IsReached}
use Rattle.office_step.specs.plain.Counting.{Counts}
use Rattle.office_step.proofs.Exactly.{Counting.lives, Options.risen_key}
use Rattle.office_laws.specs.Targets.{IsAdmission, TargetsAreCounted}
use Rattle.office_laws.proofs.{FiscalYears.has_fiscal_month, FiscalYears.one_year, Places.own_place, Reached.books_are_kept}

-- ---- the lists of a list, one after another

flat_held : {X Y : Type 0} (f : X → List Y) (xs : List X) (y : Y) → Contains (flat_map f xs) y → (x : X) × Contains xs x × Contains (f x) y
flat_held f [] y held = absurd (omega (arith, held.1))
flat_held f (first ∷ xs) y held = elim (Contains-append_cases (f first) (flat_map f xs) y held) [
  | inl here ↦ (first, (0, omega arith, refl), here)
  | inr later ↦ let rest = flat_held f xs y later in (rest.0, Contains-append_right (first ∷ []) xs rest.0 rest.1, rest.2)
]

held_flat : {X Y : Type 0} (f : X → List Y) (xs : List X) (x : X) (y : Y) → Contains xs x → Contains (f x) y → Contains (flat_map f xs) y
held_flat {X} {Y} f xs x y held = All-contains (λ (x : X). Contains (f x) y → Contains (flat_map f xs) y) xs x (each xs) held
  where
    each : (xs : List X) → All (λ (x : X). Contains (f x) y → Contains (flat_map f xs) y) xs
    each [] = All-nil (λ (x : X). Contains (f x) y → Contains (flat_map f []) y)
    each (first ∷ xs) =
        All-cons (λ (x : X). Contains (f x) y → Contains (flat_map f (first ∷ xs)) y) first xs (Contains-append_left (f first) (flat_map f xs) y)
        (All-weaker (λ (x : X). Contains (f x) y → Contains (flat_map f xs) y) (λ (x : X). Contains (f x) y → Contains (flat_map f (first ∷ xs)) y)
        (λ x later its. Contains-append_right (f first) (flat_map f xs) y (later its)) xs (each xs))

flat_pairs : {X Y : Type 0} (R : Y → Y → Type 0) (f : X → List Y) (xs : List X) → All (λ x. AllPairs R (f x)) xs →
    AllPairs (λ x next. (y later : Y) → Contains (f x) y → Contains (f next) later → R y later) xs → AllPairs R (flat_map f xs)
flat_pairs R f [] each pairs = λ i j d before within. absurd (omega (arith, within))
flat_pairs {X} {Y} R f (first ∷ xs) each pairs =
    AllPairs-append R (f first) (flat_map f xs) (each 0 first (omega arith))
    (flat_pairs R f xs (λ k d within. each (suc k) d (omega (arith, within))) (λ i j d before within. pairs (suc i) (suc j) d (omega (arith, before)) (omega (arith, within))))
    (λ k l d within inside.
    (let of = flat_held f xs (get_or (flat_map f xs) l d) (Contains-get_or (flat_map f xs) l d inside) in
    across (get_or (f first) k d) (get_or (flat_map f xs) l d) (Contains-get_or (f first) k d within) of.0 of.1 of.2))
  where
    across : (y later : Y) → Contains (f first) y → (x : X) → Contains xs x → Contains (f x) later → R y later
    across y later here x (k, within, same) there =
        pairs 0 (suc k) x (omega arith) (omega (arith, within)) y later here (subst (λ (x : X). Contains (f x) later) (sym same) there)

-- ---- what is an admission

moves_in : (kind : Kind) → is_move_in kind ≡ true → kind ≡ Kind.MI
moves_in Kind.MI is = refl
moves_in _ is = absurd (false≢true is)

module _ (capacity : Capacity) (book : Book) (reached : IsReached capacity book) where
  abbrev known : Known
  known = known_of book

  abbrev count : ℕ
  count = household_count (acts_of book.acts)

  -- a household's records are of it, and of the book
  of_household : (household : ℕ) (r : Record) → Contains (own_in known household) r → Contains book.records r × (r.household ≡ household)
  of_household household r held = elim (records_cases known.households household) [
    | inl none ↦ absurd (omega (arith, (subst (λ (own : List Record). Contains own r) none held).1))
    | inr there ↦
        let its = subst (λ (own : List Record). Contains own r)
        (own_place book.records count household there.0 there.1) held in
        let has = filter-contains (λ (r : Record). r.household == household) book.records r its in
        (has.0, eqb-true r.household household has.1)
  ]

  own_at : (k : ℕ) (d : List Record) → k < length known.households → own_in known (suc k) ≡ get_or known.households k d
  own_at k d within = grind (arith, common_steps, nat_tests, get_or_default known.households k [] d within)

  own_listed : (household : ℕ) (r : Record) → Contains (own_in known household) r → Contains known.households (own_in known household)
  own_listed household r held = elim (records_cases known.households household) [
    | inl none ↦ absurd (omega (arith, (subst (λ (own : List Record). Contains own r) none held).1))
    | inr there ↦
        let at : get_or known.households (household - 1) [] ≡ own_in known household = grind (arith, common_steps, nat_tests, there.0) in
        let within : household - 1 < length known.households = omega (arith, there.0, there.1) in
        (household - 1, within, get_or_default known.households (household - 1) (own_in known household) [] within ∙ at)
  ]

  -- ---- each once

  act_once : (r other : Record) → Contains book.records r → Contains book.records other → r.act ≡ other.act → r ≡ other
  act_once = risen_key (λ (r : Record). r.act) book.records (books_are_kept capacity book reached).made.records_rise

  apart_within : All (λ own. AllPairs (λ (r other : Record). r.act ≢ other.act) (live_records own)) known.households
  apart_within k d within =
      subst (λ (own : List Record). AllPairs (λ (r other : Record). r.act ≢ other.act) (live_records own)) (own_at k d within)
      (AllPairs-filter (λ (r other : Record). r.act ≢ other.act) (is_live (own_in known (suc k))) (own_in known (suc k)) (own_apart (suc k)))
    where
      own_apart : (household : ℕ) → AllPairs (λ (r other : Record). r.act ≢ other.act) (own_in known household)
      own_apart household = elim (records_cases known.households household) [
        | inl none ↦ subst (λ (own : List Record). AllPairs (λ (r other : Record). r.act ≢ other.act) own) (sym none) (λ i j d before within. absurd (omega (arith, within)))
        | inr there ↦
            subst (λ (own : List Record). AllPairs (λ (r other : Record). r.act ≢ other.act) own)
            (sym (own_place book.records count household there.0 there.1))
            (AllPairs-filter (λ (r other : Record). r.act ≢ other.act) (λ (r : Record). r.household == household) book.records
            (λ i j d before within same. omega (arith, (books_are_kept capacity book reached).made.records_rise i j d before within, same)))
      ]

  apart_across : AllPairs (λ own other. (r later : Record) → Contains (live_records own) r → Contains (live_records other) later → r.act ≢ later.act) known.households
  apart_across i j d before within r later here there same =
      let one = of_household (suc i) r (held i (omega (arith, before, within)) r here) in
      let two = of_household (suc j) later (held j within later there) in
      omega (arith, before, one.1, two.1, ap (λ (r : Record). r.household) (act_once r later one.0 two.0 same))
    where
      held : (k : ℕ) → k < length known.households → (r : Record) → Contains (live_records (get_or known.households k d)) r → Contains (own_in known (suc k)) r
      held k within r live =
          subst (λ (own : List Record). Contains own r) (sym (own_at k d within)) (filter-contains (is_live (get_or known.households k d)) (get_or known.households k d) r live).0

  -- ---- just those

  module _ (plan : Plan) (day : ℕ) (is_plan : known.plan ≡ Some plan) where
    abbrev twelve : (1 ≤ plan.fiscal_month) × (plan.fiscal_month ≤ 12)
    twelve = has_fiscal_month capacity book reached plan is_plan

    counted : (r : Record) → Contains (flat_map live_records known.households) r → is_admission plan day r ≡ true → IsAdmission known plan day r
    counted r held passes =
        let of = flat_held live_records known.households r held in
        let parts = and_parts (is_move_in r.kind) (fiscal_year plan (month_of r.from) == fiscal_year plan (month_of day)) passes in
        let place = of.1 in record {
          household = suc place.0;
          counts = subst (λ (own : List Record). Counts own r) (sym (own_at place.0 of.0 place.1 ∙ place.2)) ((lives of.0 r).0 of.2);
          move_in = moves_in r.kind parts.0;
          of_year = (one_year plan twelve.0 twelve.1 (month_of r.from) (month_of day)).0
              (eqb-true (fiscal_year plan (month_of r.from)) (fiscal_year plan (month_of day)) parts.1);
        }

    counts_so : (r : Record) → IsAdmission known plan day r → Contains (flat_map live_records known.households) r × (is_admission plan day r ≡ true)
    counts_so r is = (
      held_flat live_records known.households (own_in known is.household) r (own_listed is.household r is.counts.held) ((lives (own_in known is.household) r).1 is.counts),
      and_from (is_move_in r.kind) (fiscal_year plan (month_of r.from) == fiscal_year plan (month_of day)) (ap is_move_in is.move_in)
          (eq-eqb (fiscal_year plan (month_of r.from)) (fiscal_year plan (month_of day))
          ((one_year plan twelve.0 twelve.1 (month_of r.from) (month_of day)).1 is.of_year)),
    )

pub targets_are_counted : TargetsAreCounted
targets_are_counted capacity book reached plan day is_plan =
    let all : List Record = flat_map live_records (known_of book).households in record {
      method = refl;
      expected = refl;
      admissions = filter (is_admission plan day) all;
      just_those = λ r. (
        λ held. (let has = filter-contains (is_admission plan day) all r held in counted capacity book reached plan day is_plan r has.0 has.1),
        λ is. (let has = counts_so capacity book reached plan day is_plan r is in Contains-filter (is_admission plan day) all r has.0 has.1),
      );
      once = AllPairs-filter (λ (r other : Record). r.act ≢ other.act) (is_admission plan day) all
          (flat_pairs (λ (r other : Record). r.act ≢ other.act) live_records (known_of book).households (apart_within capacity book reached) (apart_across capacity book reached));
      admitted = refl;
      extremely = refl;
    }
