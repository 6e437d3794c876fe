-- What an assess object is answered with, from its bytes to a line of JSON.
use Rattle.std.specs.Prelude.{ℕ, List, [], ◌∷◌, ◌++◌, Option, Some, None, Result, Ok, Err, codes}
use Rattle.serde_json.specs.Data.{Data, object, string, member, no_members}
use Rattle.serde_json.specs.Written.{compact_text}
use Rattle.json_form.specs.Written.{number_data, refused, bad_form_data}
use Rattle.facts_core.specs.Rules.{eligible_members, broken_rule}
use Rattle.income_rules.specs.Annual.{annual_income_of}
use Rattle.deduction_rules.specs.Deductions.{adjusted_income_of}
use Rattle.payment_rules.specs.{declared.figures.Payment.Payment, Payment.payment_of}
use Rattle.certified_figures.specs.Figures.{size_of}
use Rattle.assess_command.specs.{declared.household.Household.Household, declared.answer.Assessed.Assessed, Household.household_from}

-- ---- the payment

-- the annual income of the household
abbrev pub household_annual : Household → ℕ
household_annual h = (annual_income_of h.facts h.day h.passbook).total

-- its adjusted income
abbrev pub household_adjusted : Household → ℕ
household_adjusted h = adjusted_income_of h.facts (household_annual h) h.day

-- what it pays, and what the office claims
abbrev pub household_payment : Household → Payment
household_payment h =
    payment_of (household_annual h) (household_adjusted h) h.facts.welfare h.facts.exempt h.rents (eligible_members h.facts) (size_of h.facts)

-- ---- objects of JSON, with their members in the byte order of their names

abbrev pub figures : ℕ → ℕ → Payment → Data
figures annual adjusted payment = object (
    member (codes "adjusted") (number_data adjusted) (
    member (codes "annual") (number_data annual) (
    member (codes "assistance") (number_data payment.assistance) (
    member (codes "reimbursement") (number_data payment.reimbursement) (
    member (codes "tenant_rent") (number_data payment.tenant_rent) (
    member (codes "ttp") (number_data payment.ttp) no_members))))))

-- the rule that the facts break, under the number of this refusal
abbrev pub bad_facts : ℕ → Data
bad_facts rule = refused (object (
    member (codes "kind") (string (codes "FactsRule")) (
    member (codes "number") (number_data 8) (
    member (codes "rule") (number_data rule) no_members))))

-- ---- the answer

-- a line of JSON, with its line end
abbrev pub line : Data → List ℕ
line d = compact_text d ++ 10 ∷ []

abbrev pub answer_by_rule : Household → Option ℕ → Assessed
answer_by_rule h None = Assessed.Paid (line (figures (household_annual h) (household_adjusted h) (household_payment h)))
answer_by_rule h (Some rule) = Assessed.Refused (line (bad_facts rule))

abbrev pub answer_to : Result Household (List ℕ) → Assessed
answer_to (Ok h) = answer_by_rule h (broken_rule h.facts h.day)
answer_to (Err path) = Assessed.Refused (line (bad_form_data path))

-- What the bytes are answered with: the payment of the household that they are, or the refusal by the first bad path or
-- by the least rule that is broken.
abbrev pub assessed : List ℕ → Assessed
assessed bytes = answer_to (household_from bytes)
