-- Two months have one number of a fiscal year exactly where no first month of such a year lies between them.
use Rattle.std.proofs.Common.{◌≡◌, ◌∙◌, ap, refl, subst, ℕ, zero, suc, ◌+◌, ◌-◌, ◌*◌, ◌/◌, ◌%◌, ◌≤◌, arith, true, Option, Some, List, [], ◌∷◌}
use Rattle.std.specs.Prelude.{Contains, IsSomeAnd}
use Rattle.std.specs.List.{filter_map}
use Rattle.std.proofs.lemmas.{Bool.and_parts, Bool.Decides.nat_tests, Grind.common_steps, List.Elements.All-contains, Option.same_Some}
use Rattle.list_laws.proofs.Options.{option_map_some}
use Rattle.rent_table.specs.declared.plan.Plan.{Plan}
use Rattle.book_rows.specs.{declared.command.Command.Command, declared.rows.ActRow.ActRow, Book.Book, Fit.is_within, Fit.is_fit, Fit.is_plan}
use Rattle.command_forms.specs.Commands.{command_in}
use Rattle.office_step.specs.{declared.call.Capacity.Capacity, Acts.Act, Acts.act_of, Acts.acts_of, Acts.first_in, Acts.plan_in, Candidates.fiscal_year, Known.known_of, Step.IsReached}
use Rattle.office_laws.specs.Targets.{LieInOneYear}
use Rattle.office_laws.proofs.{Reached.books_are_kept, Requests.given_of}

module _ (starts month other : ℕ) (least : 1 ≤ starts) (most : starts ≤ 12) where
  -- a year that begins by the one month has begun by the other, where that has no smaller number
  begun : (month + 13 - starts) / 12 ≤ (other + 13 - starts) / 12 → (first : ℕ) → first % 12 + 1 ≡ starts → first ≤ month → first ≤ other
  begun no_less first begins by = omega (arith, no_less, begins, by, least, most)

  -- and the other way round
  no_less : ((first : ℕ) → first % 12 + 1 ≡ starts → first ≤ month → first ≤ other) → (month + 13 - starts) / 12 ≤ (other + 13 - starts) / 12
  no_less carries = by_year ((month + 13 - starts) / 12) refl
    where
      by_year : (year : ℕ) → (month + 13 - starts) / 12 ≡ year → year ≤ (other + 13 - starts) / 12
      by_year zero is = omega arith
      by_year (suc year) is =
          let by : 12 * year + (starts - 1) ≤ other = carries (12 * year + (starts - 1)) (omega (arith, least, most)) (omega (arith, is, least, most)) in
          omega (arith, by, least, most)

pub one_year : (plan : Plan) → 1 ≤ plan.fiscal_month → plan.fiscal_month ≤ 12 → (month other : ℕ) →
    (fiscal_year plan month ≡ fiscal_year plan other → LieInOneYear plan month other) × (LieInOneYear plan month other → fiscal_year plan month ≡ fiscal_year plan other)
one_year plan least most month other = (
  λ same first begins. (
    begun plan.fiscal_month month other least most (omega (arith, same)) first begins,
    begun plan.fiscal_month other month least most (omega (arith, same)) first begins,
  ),
  λ lie.
      (let one = no_less plan.fiscal_month month other least most (λ first begins. (lie first begins).0) in
      let two = no_less plan.fiscal_month other month least most (λ first begins. (lie first begins).1) in
      omega (arith, one, two)),
)

-- ---- the plan of a book

first_held : {X : Type 0} (xs : List X) (x : X) → first_in xs ≡ Some x → Contains xs x
first_held [] x is = absurd (cc)
first_held (y ∷ ys) x is = (0, omega arith, same_Some y x is)

plan_by : (asked : Command) (plan : Plan) → plan_in asked ≡ Some plan → is_fit asked ≡ true → is_plan plan ≡ true
plan_by (Command.Plan given) plan is fit = subst (λ (plan : Plan). is_plan plan ≡ true) (same_Some given plan is) fit
plan_by _ plan is fit = absurd (cc)

plan_is_fit : (capacity : Capacity) (book : Book) → IsReached capacity book → (plan : Plan) → (known_of book).plan ≡ Some plan → is_plan plan ≡ true
plan_is_fit capacity book reached plan is =
    let by = given_of (λ (act : Act). plan_in act.command) (acts_of book.acts) plan
    (first_held (filter_map (λ (act : Act). plan_in act.command) (acts_of book.acts)) plan is) in
    let row = given_of act_of book.acts by.0 by.1 in
    option_map_some _ (command_in row.0.body) by.0 row.2 (λ asked reads same.
    plan_by asked plan (ap (λ (act : Act). plan_in act.command) same ∙ by.2)
    (subst (λ (o : Option Command). IsSomeAnd o (λ asked. is_fit asked ≡ true)) reads
    (All-contains (λ (row : ActRow). IsSomeAnd (command_in row.body) (λ asked. is_fit asked ≡ true)) book.acts row.0 (books_are_kept capacity book reached).acts.fit row.1)))

-- its fiscal year begins with one of twelve months
pub has_fiscal_month : (capacity : Capacity) (book : Book) → IsReached capacity book → (plan : Plan) → (known_of book).plan ≡ Some plan →
    (1 ≤ plan.fiscal_month) × (plan.fiscal_month ≤ 12)
has_fiscal_month capacity book reached plan is =
    let within : is_within 1 12 plan.fiscal_month ≡ true =
    (and_parts _ _ (and_parts _ _ (and_parts _ _ (plan_is_fit capacity book reached plan is)).1).1).0 in
    (grind (arith, common_steps, nat_tests, within), grind (arith, common_steps, nat_tests, within))
