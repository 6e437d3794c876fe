-- What a record certifies of a household (24 CFR 5.520, 5.609, 5.611, 5.628; Handbook 4350.3 REV-1, chapters 5 and 7).
use Rattle.std.specs.Prelude.{ℕ, ◌≤◌, ◌==◌, if◌then◌else◌, not, length, count_by}
use Rattle.days_core.specs.{declared.rents.Rents.Rents, RentBounds.most_gross_rent}
use Rattle.facts_core.specs.{declared.facts.Facts.Facts, Rules.is_aide, Rules.eligible_members}
use Rattle.income_rules.specs.Annual.{annual_income_of}
use Rattle.deduction_rules.specs.Deductions.{adjusted_income_of}
use Rattle.payment_rules.specs.Payment.{total_tenant_payment_of, assistance_of}
use Rattle.record_history.specs.declared.records.Record.{Record}
use Rattle.certified_figures.specs.declared.figures.Figures.{Figures}

-- those who live in the unit, live-in aides among them (own rule)
abbrev pub persons_of : Facts → ℕ
persons_of facts = length facts.members

-- the members of the family, by whose number its income limits go: all but live-in aides (24 CFR 5.403)
abbrev pub size_of : Facts → ℕ
size_of facts = count_by (λ member. not (is_aide member.relation)) facts.members

-- the annual income on the day, by a passbook rate in hundredths of a percent
abbrev pub annual_of : Facts → ℕ → ℕ → ℕ
annual_of facts day passbook = (annual_income_of facts day passbook).total

-- what the deductions of the day leave of it
abbrev pub adjusted_of : Facts → ℕ → ℕ → ℕ
adjusted_of facts day passbook = adjusted_income_of facts (annual_of facts day passbook) day

-- the total tenant payment by the two
abbrev pub ttp_of : Facts → ℕ → ℕ → ℕ
ttp_of facts day passbook =
    total_tenant_payment_of (annual_of facts day passbook) (adjusted_of facts day passbook) facts.welfare facts.exempt

-- what the facts of a household come to on the day, in a unit with these rents
abbrev pub figures_of : Facts → ℕ → ℕ → Rents → Figures
figures_of facts day passbook rents = record {
  persons = persons_of facts;
  size = size_of facts;
  annual = annual_of facts day passbook;
  adjusted = adjusted_of facts day passbook;
  ttp = ttp_of facts day passbook;
  rents = rents;
  assistance = assistance_of (ttp_of facts day passbook) rents (eligible_members facts) (size_of facts);
}

-- what the office claims by what another record certified of a family of whom so many are eligible: nothing if that
-- certified nobody
abbrev pub carried_assistance : Record → ℕ → Rents → ℕ
carried_assistance held eligible rents = if held.size == 0 then 0 else assistance_of held.ttp rents eligible held.size

-- what another record certified, split anew by these rents: for a gross rent change and for a transfer
abbrev pub carried_figures : Record → ℕ → Rents → Figures
carried_figures held eligible rents = record {
  persons = held.persons;
  size = held.size;
  annual = held.annual;
  adjusted = held.adjusted;
  ttp = held.ttp;
  rents = rents;
  assistance = carried_assistance held eligible rents;
}

-- nothing: of a move-out, a termination and a withdrawal
abbrev pub no_figures : Figures
no_figures = record {
  persons = 0;
  size = 0;
  annual = 0;
  adjusted = 0;
  ttp = 0;
  rents = record { contract_rent = 0; utility = 0 };
  assistance = 0;
}

-- of a family of that size so many are eligible: one at least, if there is a family
pub record AreEligible (eligible size : ℕ) : Type 0 where
  pub some : 1 ≤ size → 1 ≤ eligible
  pub among : eligible ≤ size
  pub few : size ≤ 12

-- the household is a family for which there are income limits, and some person lives in the unit
pub record IsFamily (figures : Figures) : Type 0 where
  pub one : 1 ≤ figures.size
  pub few : figures.size ≤ 12
  pub persons : figures.size ≤ figures.persons
  pub few_persons : figures.persons ≤ 16

-- the amounts that a record may hold
pub record FitsRecord (figures : Figures) : Type 0 where
  pub contract_rent : figures.rents.contract_rent ≤ 99999
  pub utility : figures.rents.utility ≤ 9999
  pub assistance : figures.assistance ≤ most_gross_rent
