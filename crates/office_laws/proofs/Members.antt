-- Of the family of each record of a book some are eligible.
use Rattle.office_laws.proofs.Words.{◌≡◌, ◌∙◌, sym, ap, refl, subst, ℕ, ◌+◌, ◌≤◌, arith, Some, None, length, length_push, All, All-push, All-weaker, common_steps, nat_tests, Record, Command, Known, known_of, own_in, record_of, no_such, matter_of, Book, Capacity, IsReached}
use Rattle.certified_figures.specs.Figures.{AreEligible}
use Rattle.office_step.specs.{Eligible.eligible_of_record, Eligible.AllEligible, After.eligible_next, Against.facts_rule}
use Rattle.office_step.proofs.Members.{eligible_made, eligible_stays, eligible_last}
use Rattle.office_laws.proofs.{Inversion.passes, Known.next, Known.by_acts, Own.owned, Own.all_owned, Makes.record_names_act}

abbrev IsCounted : Known → Record → Type 0
IsCounted known r = (r.act ≤ known.count) × AreEligible (eligible_of_record known.eligible r) r.size

pub record AreCounted (known : Known) : Type 0 where
  pub long : length known.eligible ≡ known.count
  pub each : (household : ℕ) → All (IsCounted known) (own_in known household)

eligible_in_all : (known : Known) → AreCounted known → AllEligible known.eligible known.households
eligible_in_all known counted =
    all_owned (All (λ r. AreEligible (eligible_of_record known.eligible r) r.size)) known.households
    (λ household. All-weaker (IsCounted known) (λ r. AreEligible (eligible_of_record known.eligible r) r.size) (λ r is. is.1) (own_in known household) (counted.each household))

module _ (known : Known) (asked : Command) (named : no_such (matter_of known asked) ≡ None) (free : facts_rule (matter_of known asked) ≡ None) (counted : AreCounted known) where
  old_counted : (r : Record) → IsCounted known r → IsCounted (next known asked) r
  old_counted r is = (
    omega (arith, is.0),
    subst (λ (n : ℕ). AreEligible n r.size) (sym (eligible_stays known.eligible (eligible_next known asked (record_of known asked)) r (omega (arith, is.0, counted.long)))) is.1,
  )

  new_counted : (r : Record) → record_of known asked ≡ Some r → IsCounted (next known asked) r
  new_counted r is =
      let act : r.act ≡ known.count + 1 = record_names_act known asked r is in (
        omega (arith, act),
        subst (λ (n : ℕ). AreEligible n r.size)
            (sym (eligible_last known.eligible (eligible_next known asked (record_of known asked)) r (omega (arith, act, counted.long))
            ∙ ap (eligible_next known asked) is))
            (eligible_made known asked r (eligible_in_all known counted) free is),
      )

  counted_more : AreCounted (next known asked)
  counted_more = record {
    long = length_push known.eligible (eligible_next known asked (record_of known asked)) ∙ ap (λ (n : ℕ). n + 1) counted.long;
    each = λ household. owned (All (IsCounted (next known asked))) known asked named household
        (All-weaker (IsCounted known) (IsCounted (next known asked)) old_counted (own_in known household) (counted.each household))
        (λ r is same. All-push (IsCounted (next known asked)) (own_in known r.household) r
        (All-weaker (IsCounted known) (IsCounted (next known asked)) old_counted (own_in known r.household) (counted.each r.household)) (new_counted r is));
  }

pub are_counted : (capacity : Capacity) (book : Book) → IsReached capacity book → AreCounted (known_of book)
are_counted capacity =
    by_acts AreCounted capacity (record { long = refl; each = λ household k d within. grind (arith, common_steps, nat_tests, within) })
    (λ book rows reached appends counted.
    (let free = passes capacity book rows appends in
    counted_more (known_of book) appends.call.command free.no_such free.facts_rule counted))

pub all_eligible : (capacity : Capacity) (book : Book) → IsReached capacity book → AllEligible (known_of book).eligible (known_of book).households
all_eligible capacity book reached = eligible_in_all (known_of book) (are_counted capacity book reached)
