-- The records that a line names by their numbers are those that were in force, in plain facts.
use Rattle.std.proofs.Common.{◌≡◌, ◌∙◌, ap, ℕ, ◌≤◌, ◌<◌, inl, inr, arith, List, [], Option}
use Rattle.std.specs.Option.{option_map_or}
use Rattle.std.proofs.lemmas.Bool.{cases_lt}
use Rattle.record_history.specs.{declared.records.Record.Record, Held.AreNumbered, Records.as_of, Runs.number_on}
use Rattle.record_history.proofs.ForceLemmas.{one_as_of}
use Rattle.voucher_core.specs.{declared.line.Line.Line, Naming.NamesItsPair}
use Rattle.book_rows.specs.Book.{Book}
use Rattle.office_step.specs.{Known.known_of, Known.own_in, Made.last_close}
use Rattle.office_laws.specs.{InPlace.book_before, Upheld.Closes, Upheld.IsOfInForce, Upheld.NamesItsRecords}

-- A line is of a closing of its month. One for an earlier month names, on each of its days, the record in force as of the
-- closing before and the one as of its own; one for the closed month names that of its own alone.
pub record NamesItsPairs (book : Book) (l : Line) : Type 0 where
  pub closing : Closes book l.act l.month
  pub months : l.for_month ≤ l.month
  pub earlier : l.for_month < l.month →
      NamesItsPair (own_in (known_of book) l.household) (as_of (last_close (known_of (book_before book l.act))) (own_in (known_of book) l.household))
      (as_of l.act (own_in (known_of book) l.household)) l
  pub none_before : l.for_month ≡ l.month → l.old ≡ 0
  pub closed : l.for_month ≡ l.month → NamesItsPair (own_in (known_of book) l.household) [] (as_of l.act (own_in (known_of book) l.household)) l

of_in_force : (own : List Record) (act day number : ℕ) → AreNumbered own → number ≡ number_on (as_of act own) day → IsOfInForce own act day number
of_in_force own act day number numbered is = record {
  some = λ r at. is ∙ ap (λ (found : Option Record). option_map_or (λ r. r.number) found 0) (((one_as_of own act day numbered).some r).1 at);
  none = λ never. is ∙ ap (λ (found : Option Record). option_map_or (λ r. r.number) found 0) ((one_as_of own act day numbered).none.1 never);
}

module _ (book : Book) (l : Line) (numbered : AreNumbered (own_in (known_of book) l.household)) (is : NamesItsPairs book l) where
  abbrev own : List Record
  own = own_in (known_of book) l.household

  abbrev last_before : ℕ
  last_before = last_close (known_of (book_before book l.act))

  of_pair : (before : List Record) → NamesItsPair own before (as_of l.act own) l →
      (l.for_month < l.month → (day : ℕ) → l.first ≤ day → day ≤ l.last → IsOfInForce own last_before day l.old) → NamesItsRecords book l
  of_pair before pair old = record {
    closing = is.closing;
    months = is.months;
    from = pair.from;
    in_order = pair.in_order;
    to = pair.to;
    new = λ day from to. of_in_force own l.act day l.new numbered (pair.new day from to);
    old = old;
    none_before = is.none_before;
    amount = pair.amount;
    not_for_nothing = pair.not_for_nothing;
  }

  pub in_plain_facts : NamesItsRecords book l
  in_plain_facts = elim (cases_lt l.for_month l.month) [
    | inl before ↦ (let pair = is.earlier before in
        of_pair (as_of last_before own) pair (λ _ day from to. of_in_force own last_before day l.old numbered (pair.old day from to)))
    | inr after ↦
        let same : l.for_month ≡ l.month = omega (arith, is.months, after) in of_pair [] (is.closed same) (λ before. absurd (omega (arith, before, after)))
  ]
