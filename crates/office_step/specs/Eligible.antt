-- How many of a family are eligible for assistance (24 CFR 5.520), of each record by the act that made it.
use Rattle.std.specs.Prelude.{ℕ, ◌==◌, nat_lt, Option, List, [], ◌∷◌, ◌++◌, All, filter, find, fold, unwrap_or}
use Rattle.std.specs.Option.{option_map_or}
use Rattle.facts_core.specs.Rules.{eligible_members}
use Rattle.record_history.specs.declared.records.Record.{Record}
use Rattle.certified_figures.specs.Figures.{AreEligible}
use Rattle.office_step.specs.{Acts.Act, Acts.at_number, Households.own_of, Households.continued}
use Rattle.office_step.specs.Basis.{Basis, from_facts, carried, nothing, basis_of}

-- the eligible members of a record, where each act has the number of its own
abbrev pub eligible_of_record : List ℕ → Record → ℕ
eligible_of_record numbers r = unwrap_or (at_number numbers r.act) 0

-- those of a record on that basis: of its facts, or of the record from which it carries over what was certified
abbrev pub eligible_by : List ℕ → Option Record → Basis → ℕ
eligible_by numbers held (from_facts facts) = eligible_members facts
eligible_by numbers held carried = option_map_or (eligible_of_record numbers) held 0
eligible_by numbers held nothing = 0

-- the record that this one continues, by the records of the acts before its own
abbrev pub continued_by : List Record → Record → Option Record
continued_by records r = continued (own_of (filter (λ other. nat_lt other.act r.act) records) r.household) r.from

-- those of the record that the act made, and 0 if it made none
abbrev pub eligible_in : List Record → List ℕ → Act → ℕ
eligible_in records before act =
    option_map_or (λ r. eligible_by before (continued_by records r) (basis_of act.command)) (find (λ r. r.act == act.n) records) 0

-- those of each act in turn
abbrev pub eligible_of : List Record → List Act → List ℕ
eligible_of records acts = fold (λ before act. before ++ eligible_in records before act ∷ []) [] acts

-- of each record's family some are eligible, and no more than it has members
abbrev pub AllEligible : List ℕ → List (List Record) → Type 0
AllEligible numbers households = All (All (λ r. AreEligible (eligible_of_record numbers r) r.size)) households
