-- 21: the month that is next to close.
use Rattle.std.proofs.Common.{◌≡◌, sym, refl, ℕ, inl, inr, Option, Some, None}
use Rattle.std.specs.Prelude.{nat_eq}
use Rattle.std.specs.Option.{option_eq}
use Rattle.std.proofs.lemmas.Bool.{cases_lt, lt-ltb, le-ltb}
use Rattle.days_core.specs.OfficeDays.{last_office_month}
use Rattle.rent_table.specs.declared.plan.Plan.{Plan}
use Rattle.office_step.specs.{declared.known.Closed.Closed, declared.refusal.Refusal.Refusal, Known.Known, Refusals.refused_unless, Against.next_month}
use Rattle.office_step.proofs.Exactly.Options.{refused_unless-some, and_then-some, another, no_other}
use Rattle.office_step.specs.plain.Months.{IsNextToClose, WrongMonthIsPlain}

its_next : (known : Known) → IsNextToClose known (next_month known)
its_next known = record {
  before = λ none. rw none refl;
  first = λ plan planned none. rw (planned, none) refl;
  after = λ plan closing planned closed less. rw (planned, closed, lt-ltb closing.month last_office_month less) refl;
  over = λ plan closing planned closed more. rw (planned, closed, le-ltb closing.month last_office_month more) refl;
}

-- there is one next month
one_next : (known : Known) (next : Option ℕ) → IsNextToClose known next → next_month known ≡ next
one_next known next is = by_plan known.plan refl known.closing refl
  where
    by_plan : (plan : Option Plan) → known.plan ≡ plan → (closing : Option Closed) → known.closing ≡ closing → next_month known ≡ next
    by_plan None planned closing closed = rw planned (sym (is.before planned))
    by_plan (Some plan) planned None closed = rw (planned, closed) (sym (is.first plan planned closed))
    by_plan (Some plan) planned (Some closing) closed = elim (cases_lt closing.month last_office_month) [
      | inl less ↦ rw (planned, closed, lt-ltb closing.month last_office_month less) (sym (is.after plan closing planned closed less))
      | inr more ↦ rw (planned, closed, le-ltb closing.month last_office_month more) (sym (is.over plan closing planned closed more))
    ]

pub wrong_month_is_plain : WrongMonthIsPlain
wrong_month_is_plain about refusal = (
  λ is. (let closes = and_then-some (λ month. refused_unless (option_eq nat_eq (next_month about.known) (Some month)) (Refusal.WrongMonth (next_month about.known))) about.month refusal is in
      let has = refused_unless-some (option_eq nat_eq (next_month about.known) (Some closes.0)) (Refusal.WrongMonth (next_month about.known)) refusal closes.2 in record {
        month = closes.0;
        next = next_month about.known;
        told = has.1;
        closes = closes.1;
        its = its_next about.known;
        another = another (next_month about.known) closes.0 has.0;
      }),
  λ stands. rw (stands.closes, one_next about.known stands.next stands.its, no_other stands.next stands.month stands.another, stands.told) refl,
)
