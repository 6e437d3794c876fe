-- What docs/FIRST-MONTH.md tells of an office's first year, act by act. An office takes it.
use Rattle.std.specs.Prelude.{true, pos, neg_ℤ, Some, List, [], ◌∷◌, codes}
use Rattle.record_history.specs.declared.records.{Kind.Kind, Record.Record}
use Rattle.voucher_core.specs.declared.line.Line.{Line}
use Rattle.office_step.specs.{declared.call.Capacity.Capacity, declared.reply.Made.Made}
use Rattle.manual_acts.specs.Days.{january, february, march, april, may, june, july, august, september, october, november, december, january_2025, february_2025, on_2024_01_01, on_2024_01_02, on_2024_01_31, on_2024_02_01, on_2024_02_05, on_2024_02_10, on_2024_02_20, on_2024_02_29, on_2024_03_01, on_2024_03_29, on_2024_03_31, on_2024_04_01, on_2024_04_12, on_2024_04_15, on_2024_04_30, on_2024_05_01, on_2024_05_10, on_2024_05_31, on_2024_06_01, on_2024_06_28, on_2024_06_30, on_2024_07_01, on_2024_07_31, on_2024_08_01, on_2024_08_30, on_2024_08_31, on_2024_09_01, on_2024_09_30, on_2024_10_01, on_2024_10_31, on_2024_11_01, on_2024_11_20, on_2024_11_29, on_2024_11_30, on_2024_12_01, on_2024_12_31, on_2025_01_01, on_2025_01_31, on_2025_02_01, on_2025_02_14, on_2025_02_15, on_2025_02_17, on_2025_02_28}
use Rattle.manual_acts.specs.Commands.{reed, earning, plan, unit, rents, limits, apply, start, admit, interim, correct, annual, move_out}
use Rattle.manual_acts.specs.Records.{entry, certifying}
use Rattle.manual_acts.specs.Taken.{Told, HasRoom, Takes, sets, makes, closes, line}

-- ---- records

abbrev pub started : Record
started = certifying 9600 8488 212 700 548 (entry 1 1 4 Kind.IC on_2024_01_01 1)

abbrev pub raised : Record
raised = record (certifying 11520 10466 262 700 498 (entry 1 2 13 Kind.IR on_2024_03_01 1)) {
  dates = Some (record { event = on_2024_02_10; notice = on_2024_04_12; done = on_2024_04_15 });
}

abbrev pub certified_anew : Record
certified_anew = certifying 11800 10854 271 700 489 (entry 1 3 22 Kind.AR on_2025_01_01 1)

abbrev pub admitted : Record
admitted = record (certifying 9000 9000 225 700 535 (entry 2 1 10 Kind.MI on_2024_03_01 2)) { extremely = true }

abbrev pub corrected : Record
corrected = record (certifying 8400 8400 210 700 550 (entry 2 2 15 Kind.MI on_2024_03_01 2)) { corrects = 1; extremely = true }

abbrev pub moved_out : Record
moved_out = entry 2 3 26 Kind.MO on_2025_02_15 2

-- ---- lines

abbrev pub january_lines : List Line
january_lines =
    line 5 january 1 1 january on_2024_01_01 on_2024_01_31 0 1 (pos 548) ∷ []

abbrev pub february_lines : List Line
february_lines =
    line 11 february 1 1 february on_2024_02_01 on_2024_02_29 0 1 (pos 548) ∷ []

abbrev pub march_lines : List Line
march_lines =
    line 12 march 1 1 march on_2024_03_01 on_2024_03_31 0 1 (pos 548)
    ∷ line 12 march 2 2 march on_2024_03_01 on_2024_03_31 0 1 (pos 535) ∷ []

-- 50 less for March, by the interim
abbrev pub april_lines : List Line
april_lines =
    line 14 april 1 1 march on_2024_03_01 on_2024_03_31 1 2 (neg_ℤ (pos 50))
    ∷ line 14 april 2 1 april on_2024_04_01 on_2024_04_30 0 2 (pos 498)
    ∷ line 14 april 3 2 april on_2024_04_01 on_2024_04_30 0 1 (pos 535) ∷ []

-- 15 more for March and for April, by the correction
abbrev pub may_lines : List Line
may_lines =
    line 16 may 1 2 march on_2024_03_01 on_2024_03_31 1 2 (pos 15)
    ∷ line 16 may 2 2 april on_2024_04_01 on_2024_04_30 1 2 (pos 15)
    ∷ line 16 may 3 1 may on_2024_05_01 on_2024_05_31 0 2 (pos 498)
    ∷ line 16 may 4 2 may on_2024_05_01 on_2024_05_31 0 2 (pos 550) ∷ []

abbrev pub june_lines : List Line
june_lines =
    line 17 june 1 1 june on_2024_06_01 on_2024_06_30 0 2 (pos 498)
    ∷ line 17 june 2 2 june on_2024_06_01 on_2024_06_30 0 2 (pos 550) ∷ []

abbrev pub july_lines : List Line
july_lines =
    line 18 july 1 1 july on_2024_07_01 on_2024_07_31 0 2 (pos 498)
    ∷ line 18 july 2 2 july on_2024_07_01 on_2024_07_31 0 2 (pos 550) ∷ []

abbrev pub august_lines : List Line
august_lines =
    line 19 august 1 1 august on_2024_08_01 on_2024_08_31 0 2 (pos 498)
    ∷ line 19 august 2 2 august on_2024_08_01 on_2024_08_31 0 2 (pos 550) ∷ []

abbrev pub september_lines : List Line
september_lines =
    line 20 september 1 1 september on_2024_09_01 on_2024_09_30 0 2 (pos 498)
    ∷ line 20 september 2 2 september on_2024_09_01 on_2024_09_30 0 2 (pos 550) ∷ []

abbrev pub october_lines : List Line
october_lines =
    line 21 october 1 1 october on_2024_10_01 on_2024_10_31 0 2 (pos 498)
    ∷ line 21 october 2 2 october on_2024_10_01 on_2024_10_31 0 2 (pos 550) ∷ []

abbrev pub november_lines : List Line
november_lines =
    line 23 november 1 1 november on_2024_11_01 on_2024_11_30 0 2 (pos 498)
    ∷ line 23 november 2 2 november on_2024_11_01 on_2024_11_30 0 2 (pos 550) ∷ []

abbrev pub december_lines : List Line
december_lines =
    line 24 december 1 1 december on_2024_12_01 on_2024_12_31 0 2 (pos 498)
    ∷ line 24 december 2 2 december on_2024_12_01 on_2024_12_31 0 2 (pos 550) ∷ []

abbrev pub january_2025_lines : List Line
january_2025_lines =
    line 25 january_2025 1 1 january_2025 on_2025_01_01 on_2025_01_31 0 3 (pos 489)
    ∷ line 25 january_2025 2 2 january_2025 on_2025_01_01 on_2025_01_31 0 2 (pos 550) ∷ []

-- 14 of 28 days for the household that left
abbrev pub february_2025_lines : List Line
february_2025_lines =
    line 27 february_2025 1 1 february_2025 on_2025_02_01 on_2025_02_28 0 3 (pos 489)
    ∷ line 27 february_2025 2 2 february_2025 on_2025_02_01 on_2025_02_14 0 2 (pos 275) ∷ []

-- ---- the acts of the page, in its order; request 5 is refused, and makes no act

abbrev pub year : List Told
year =
    sets 1 on_2024_01_02 plan Made.Nothing
    ∷ sets 2 on_2024_01_02 (unit (codes "A-101")) (Made.Unit 1)
    ∷ sets 3 on_2024_01_02 (rents on_2024_01_01 700) Made.Nothing
    ∷ makes 4 on_2024_01_02 start started (Made.Certified 548 1 1 0 152 212)
    ∷ closes 6 on_2024_01_31 january january_lines (Made.Closed (pos 548) 1 january)
    ∷ sets 7 on_2024_02_05 (unit (codes "A-102")) (Made.Unit 2)
    ∷ sets 8 on_2024_02_05 limits Made.Nothing
    ∷ sets 9 on_2024_02_05 (apply (codes "Bo Lund") [] 20000) (Made.Applicant 1)
    ∷ sets 10 on_2024_02_05 (apply (codes "Cy Moss") (2 ∷ []) 9000) (Made.Applicant 2)
    ∷ makes 11 on_2024_02_20 (admit 2 on_2024_03_01) admitted (Made.Certified 535 2 1 0 165 225)
    ∷ closes 12 on_2024_02_29 february february_lines (Made.Closed (pos 548) 1 february)
    ∷ closes 13 on_2024_03_29 march march_lines (Made.Closed (pos 1083) 2 march)
    ∷ makes 14 on_2024_04_15 (interim on_2024_04_12 on_2024_04_15 on_2024_03_01) raised (Made.Certified 498 1 2 0 202 262)
    ∷ closes 15 on_2024_04_30 april april_lines (Made.Closed (pos 983) 3 april)
    ∷ makes 16 on_2024_05_10 (correct 2 1 on_2024_03_01 (earning 8400)) corrected (Made.Certified 550 2 2 0 150 210)
    ∷ closes 17 on_2024_05_31 may may_lines (Made.Closed (pos 1078) 4 may)
    ∷ closes 18 on_2024_06_28 june june_lines (Made.Closed (pos 1048) 2 june)
    ∷ closes 19 on_2024_07_31 july july_lines (Made.Closed (pos 1048) 2 july)
    ∷ closes 20 on_2024_08_30 august august_lines (Made.Closed (pos 1048) 2 august)
    ∷ closes 21 on_2024_09_30 september september_lines (Made.Closed (pos 1048) 2 september)
    ∷ closes 22 on_2024_10_31 october october_lines (Made.Closed (pos 1048) 2 october)
    ∷ makes 23 on_2024_11_20 (annual 2 (reed 11800 900)) certified_anew (Made.Certified 489 1 3 0 211 271)
    ∷ closes 24 on_2024_11_29 november november_lines (Made.Closed (pos 1048) 2 november)
    ∷ closes 25 on_2024_12_31 december december_lines (Made.Closed (pos 1048) 2 december)
    ∷ closes 26 on_2025_01_31 january_2025 january_2025_lines (Made.Closed (pos 1039) 2 january_2025)
    ∷ makes 27 on_2025_02_17 (move_out 2 2 on_2025_02_14) moved_out (Made.Certified 0 2 3 0 0 0)
    ∷ closes 28 on_2025_02_28 february_2025 february_2025_lines (Made.Closed (pos 764) 2 february_2025)
    ∷ []

abbrev pub YearIsTaken : Type 0
YearIsTaken = (capacity : Capacity) → HasRoom capacity → Takes capacity year
