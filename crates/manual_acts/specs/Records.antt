-- The records that acts of docs/ACTS.md make. Figures are those of one person, in dollars as the page tells them.
use Rattle.std.specs.Prelude.{ℕ, true, false, Some, None}
use Rattle.days_core.specs.declared.rents.Rents.{Rents}
use Rattle.record_history.specs.declared.records.{Kind.Kind, Record.Record}
use Rattle.manual_acts.specs.Days.{on_2024_01_01, on_2024_02_01, on_2024_02_10, on_2024_02_20, on_2024_03_05, on_2024_04_01, on_2024_07_01, on_2025_01_01, on_2025_03_01, on_2025_03_20, on_2025_04_01, on_2025_04_16}

abbrev pub rents : ℕ → ℕ → Rents
rents contract_rent utility = record { contract_rent = contract_rent; utility = utility }

-- a record of that household, number and act, of a kind, from a day on and in a unit, that certifies nothing
abbrev pub entry : ℕ → ℕ → ℕ → Kind → ℕ → ℕ → Record
entry household number act kind from unit = record {
  household = household;
  number = number;
  act = act;
  kind = kind;
  from = from;
  corrects = 0;
  unit = unit;
  persons = 0;
  size = 0;
  extremely = false;
  annual = 0;
  adjusted = 0;
  ttp = 0;
  rents = rents 0 0;
  assistance = 0;
  dates = None;
}

-- it certifies one person by that annual and adjusted income, payment, contract rent and assistance
abbrev pub certifying : ℕ → ℕ → ℕ → ℕ → ℕ → Record → Record
certifying annual adjusted ttp contract_rent assistance r =
    record r { persons = 1; size = 1; annual = annual; adjusted = adjusted; ttp = ttp; rents = rents contract_rent 60; assistance = assistance }

-- ---- of Ada Reed, household 1

abbrev pub started : Record
started = certifying 9600 8488 212 700 548 (entry 1 1 10 Kind.IC on_2024_01_01 1)

abbrev pub raised : Record
raised = record (certifying 11520 10466 262 700 498 (entry 1 2 14 Kind.IR on_2024_04_01 1)) {
  dates = Some (record { event = on_2024_02_10; notice = on_2024_02_20; done = on_2024_03_05 });
}

abbrev pub corrected : Record
corrected = record (certifying 9600 8288 207 700 553 (entry 1 3 15 Kind.IC on_2024_01_01 1)) { corrects = 1 }

abbrev pub withdrawn : Record
withdrawn = record (entry 1 4 17 Kind.WD on_2024_04_01 0) { corrects = 2 }

abbrev pub of_new_rents : Record
of_new_rents = certifying 9600 8288 207 720 573 (entry 1 5 19 Kind.GR on_2024_07_01 1)

abbrev pub certified_anew : Record
certified_anew = certifying 11520 10466 262 720 518 (entry 1 6 21 Kind.AR on_2025_01_01 1)

abbrev pub moved_out : Record
moved_out = entry 1 7 26 Kind.MO on_2025_04_16 1

-- ---- of Bo Lund, household 2

abbrev pub admitted : Record
admitted = record (certifying 9000 9000 225 700 535 (entry 2 1 11 Kind.MI on_2024_02_01 2)) { extremely = true }

abbrev pub of_new_rents_too : Record
of_new_rents_too = certifying 9000 9000 225 720 555 (entry 2 2 20 Kind.GR on_2024_07_01 2)

abbrev pub transferred : Record
transferred = certifying 9000 9000 225 720 555 (entry 2 3 23 Kind.UT on_2025_01_01 3)

abbrev pub terminated : Record
terminated = entry 2 4 24 Kind.TM on_2025_03_01 3

abbrev pub resumed : Record
resumed = record (certifying 9000 9000 225 720 555 (entry 2 5 25 Kind.IC on_2025_04_01 3)) {
  dates = Some (record { event = on_2025_03_20; notice = on_2025_03_20; done = on_2025_03_20 });
}
