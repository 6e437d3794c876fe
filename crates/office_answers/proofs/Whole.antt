-- Who is listed as due, and in which order; and what a voucher comes to.
use Rattle.std.proofs.Common.{◌≡◌, ◌≢◌, sym, ap, refl, inl, inr, ℕ, ◌+◌, ◌<◌, ◌≤◌, ◌+ℤ◌, arith, Bool, true, false, List, [], ◌∷◌, Option, Some, None, length, filter, not, if◌then◌else◌, option_to_list, All, AllPairs}
use Rattle.std.specs.Prelude.{◌↔◌, ◌==◌, nat_le, option_and_then, Contains, IsSomeAnd}
use Rattle.std.specs.{List.range_with_len, List.flat_map, Option.option_map_or}
use Rattle.std.proofs.lemmas.{Bool.le-leb, Bool.leb-true, Bool.eq-eqb, Bool.eqb-true, Option.cond_some, Int.ints, List.Kept.AllPairs-filter}
use Rattle.std.proofs.lemmas.List.Elements.{All-filter, All-contains, filter_passes}
use Rattle.list_laws.proofs.{Filters.Contains-filter, Options.All-option, Options.AllPairs-option, Pieces.all_pieces, Pieces.Contains-pieces, Pieces.AllPairs-pieces, Pieces.filter_map-pieces}
use Rattle.record_history.specs.{declared.records.Kind.Kind, declared.records.Record.Record, Records.in_force, Held.records_of}
use Rattle.due_dates.specs.Stale.{ends_assistance}
use Rattle.voucher_core.specs.{declared.line.Line.Line, Lines.total}
use Rattle.office_answers.specs.{declared.answer.DueDay.DueDay, DueList.horizon, DueList.due_by, DueList.due_of, DueList.due_days, DueList.due_on, DueList.due_list, Vouchers.lines_of_closing}
use Rattle.office_answers.specs.Laws.{IsDue, ComesBefore, IsDueList, DueListIsWhole, VouchersTotal}

-- ---- one household

kind_plain : (kind : Kind) → (not (ends_assistance kind) ≡ true) ↔ ((kind ≢ Kind.MO) × (kind ≢ Kind.TM))
kind_plain Kind.MO = (λ is. absurd (cc), λ both. absurd (both.0 refl))
kind_plain Kind.TM = (λ is. absurd (cc), λ both. absurd (both.1 refl))
kind_plain _ = (λ is. (λ same. absurd (cc), λ same. absurd (cc)), λ both. refl)

assisted_plain : (found : Option Record) →
    (option_map_or (λ r. not (ends_assistance r.kind)) found false ≡ true) ↔ IsSomeAnd found (λ r. (r.kind ≢ Kind.MO) × (r.kind ≢ Kind.TM))
assisted_plain None = (λ is. absurd (cc), λ none. absurd none)
assisted_plain (Some r) = kind_plain r.kind

-- what is due of a household, from its parts
due_parts : (assisted : Bool) (right : Option ℕ) (last household : ℕ) (due : DueDay) →
    (if assisted then option_and_then (due_by last household) right else None) ≡ Some due →
    (assisted ≡ true) × (right ≡ Some due.day) × (due.household ≡ household) × (due.day ≤ last)
due_parts false right last household due is = absurd (cc)
due_parts true None last household due is = absurd (cc)
due_parts true (Some day) last household due is =
    let both = cond_some (nat_le day last) (record { day = day; household = household }) due is in
    let same : day ≡ due.day = ap (λ (d : DueDay). d.day) both.1 in
    (refl, ap (λ (d : ℕ). Some d) same, sym (ap (λ (d : DueDay). d.household) both.1), omega (arith, same, leb-true day last both.0))

module _ (households : List (List Record)) (asked : ℕ) where
  abbrev piece : ℕ → List DueDay
  piece household = option_to_list (due_of households asked household)

  is_due : (household : ℕ) (due : DueDay) → 1 ≤ household → household < 1 + length households → due_of households asked household ≡ Some due →
      IsDue households asked due
  is_due household due low high is =
      let parts = due_parts _ _ (horizon asked) household due is in
      record {
        first = omega (arith, parts.2, low);
        there = omega (arith, parts.2, high);
        assisted = rw parts.2 ((assisted_plain (in_force (records_of households household) asked)).0 parts.0);
        rightful = rw parts.2 parts.1;
        soon = parts.3;
      }

  -- ---- all households

  days : due_days households asked ≡ flat_map piece (range_with_len 1 (length households))
  days = filter_map-pieces (due_of households asked) (range_with_len 1 (length households))

  all_due : All (IsDue households asked) (due_days households asked)
  all_due =
      rw days
      (all_pieces (IsDue households asked) piece 1 (length households)
      (λ k low high. All-option (IsDue households asked) (due_of households asked k) (λ due is. is_due k due low high is)))

  each_due : (due : DueDay) → IsDue households asked due → Contains (due_days households asked) due
  each_due due is =
      rw days
      (Contains-pieces piece 1 (length households) due.household due is.first (omega (arith, is.there)) (rw found (0, omega arith, refl)))
    where
      found : due_of households asked due.household ≡ Some due
      found =
          rw (
            (assisted_plain (in_force (records_of households due.household) asked)).1 is.assisted,
            is.rightful,
            le-leb due.day (asked + 120) is.soon,
          ) refl

  by_household : AllPairs (λ due next. due.household < next.household) (due_days households asked)
  by_household =
      rw days
      (AllPairs-pieces (λ (due : DueDay). due.household) (λ (due : DueDay). Unit {0}) (λ (due next : DueDay). due.household < next.household) piece
      (λ k. All-option (λ (due : DueDay). (due.household ≡ k) × Unit {0}) (due_of households asked k) (λ due is. ((due_parts _ _ (horizon asked) k due is).2, tt)))
      (λ due next _ _ lower. lower)
      (λ k. AllPairs-option (λ (due next : DueDay). due.household < next.household) (due_of households asked k)) 1 (length households))

  -- ---- day by day

  on_day : (day : ℕ) → All (λ due. due.day ≡ day) (due_on (due_days households asked) day)
  on_day day = λ k d within. eqb-true _ day (filter_passes (λ (due : DueDay). due.day == day) (due_days households asked) k d within)

  pub is_whole : IsDueList households asked (due_list households asked)
  is_whole = record {
    listed = λ due. (
      λ there.
          All-contains (IsDue households asked) (due_list households asked) due
          (all_pieces (IsDue households asked) (due_on (due_days households asked)) 0 (horizon asked + 1)
          (λ day _ _. All-filter (λ (due : DueDay). due.day == day) (IsDue households asked) (due_days households asked) all_due))
          there,
      λ is.
          Contains-pieces (due_on (due_days households asked)) 0 (horizon asked + 1) due.day due (omega arith) (omega (arith, is.soon))
          (Contains-filter (λ (other : DueDay). other.day == due.day) (due_days households asked) due (each_due due is) (eq-eqb due.day due.day refl)),
    );
    order =
        AllPairs-pieces (λ (due : DueDay). due.day) (λ (due : DueDay). Unit {0}) ComesBefore (due_on (due_days households asked))
        (λ day k d within. (on_day day k d within, tt))
        (λ due next _ _ earlier. inl earlier)
        (λ day i j d before within. inr (
          omega (arith, on_day day i d (omega (arith, before, within)), on_day day j d within),
          AllPairs-filter (λ (due next : DueDay). due.household < next.household) (λ (due : DueDay). due.day == day) (due_days households asked) by_household i j d before within,
        )) 0 (horizon asked + 1);
  }

pub due_list_is_whole : DueListIsWhole
due_list_is_whole = is_whole

-- ---- vouchers

-- what passes a test and what doesn't come together to all
total_splits : (p : Line → Bool) (lines : List Line) → total (filter p lines) +ℤ total (filter (λ l. not (p l)) lines) ≡ total lines
total_splits p [] = omega (arith, ints)
total_splits p (l ∷ lines) = by_test (p l) refl (total_splits p lines)
  where
    by_test : (test : Bool) → p l ≡ test → total (filter p lines) +ℤ total (filter (λ m. not (p m)) lines) ≡ total lines →
        total (filter p (l ∷ lines)) +ℤ total (filter (λ m. not (p m)) (l ∷ lines)) ≡ l.amount +ℤ total lines
    by_test true is rest = rw is (omega (arith, ints, rest))
    by_test false is rest = rw is (omega (arith, ints, rest))

pub vouchers_total : VouchersTotal
vouchers_total month lines = (total_splits (λ (l : Line). l.for_month == month) (lines_of_closing month lines), refl)
