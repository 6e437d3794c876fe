-- What docs/ACTS.md tells, act by act. An office takes it.
use Rattle.std.specs.Prelude.{pos, List, [], ◌∷◌, codes}
use Rattle.voucher_core.specs.declared.line.Line.{Line}
use Rattle.office_step.specs.{declared.call.Capacity.Capacity, declared.reply.Made.Made}
use Rattle.manual_acts.specs.Days.{january, february, march, on_2024_01_01, on_2024_01_02, on_2024_01_03, on_2024_01_22, on_2024_01_31, on_2024_02_01, on_2024_02_20, on_2024_02_29, on_2024_03_01, on_2024_03_05, on_2024_03_20, on_2024_03_29, on_2024_03_31, on_2024_04_01, on_2024_06_10, on_2024_07_01, on_2024_11_20, on_2024_12_02, on_2024_12_09, on_2025_02_10, on_2025_03_20, on_2025_04_15, on_2025_04_20}
use Rattle.manual_acts.specs.Commands.{reed, plan, unit, rents, limits, apply, remove, start, admit, interim, correct, withdraw, gross, annual, ask_transfer, transfer, terminate, resume, move_out}
use Rattle.manual_acts.specs.Records.{started, raised, corrected, withdrawn, of_new_rents, certified_anew, moved_out, admitted, of_new_rents_too, transferred, terminated, resumed}
use Rattle.manual_acts.specs.Taken.{Told, HasRoom, Takes, sets, makes, closes, line}

-- ---- lines

abbrev pub january_lines : List Line
january_lines = line 12 january 1 1 january on_2024_01_01 on_2024_01_31 0 1 (pos 548) ∷ []

abbrev pub february_lines : List Line
february_lines =
    line 13 february 1 1 february on_2024_02_01 on_2024_02_29 0 1 (pos 548)
    ∷ line 13 february 2 2 february on_2024_02_01 on_2024_02_29 0 1 (pos 535) ∷ []

-- with five dollars more for each month before, by the correction
abbrev pub march_lines : List Line
march_lines =
    line 16 march 1 1 january on_2024_01_01 on_2024_01_31 1 3 (pos 5)
    ∷ line 16 march 2 1 february on_2024_02_01 on_2024_02_29 1 3 (pos 5)
    ∷ line 16 march 3 1 march on_2024_03_01 on_2024_03_31 0 3 (pos 553)
    ∷ line 16 march 4 2 march on_2024_03_01 on_2024_03_31 0 1 (pos 535) ∷ []

-- ---- the acts of the page, in its order

abbrev pub page : List Told
page =
    sets 1 on_2024_01_02 plan Made.Nothing
    ∷ sets 2 on_2024_01_02 (unit (codes "A-101")) (Made.Unit 1)
    ∷ sets 3 on_2024_01_02 (unit (codes "A-102")) (Made.Unit 2)
    ∷ sets 4 on_2024_01_02 (unit (codes "A-103")) (Made.Unit 3)
    ∷ sets 5 on_2024_01_02 (rents on_2024_01_01 700) Made.Nothing
    ∷ sets 6 on_2024_01_02 limits Made.Nothing
    ∷ sets 7 on_2024_01_02 (apply (codes "Bo Lund") (1 ∷ []) 9000) (Made.Applicant 1)
    ∷ sets 8 on_2024_01_02 (apply (codes "Cy Moss") [] 20000) (Made.Applicant 2)
    ∷ sets 9 on_2024_01_03 remove Made.Nothing
    ∷ makes 10 on_2024_01_03 start started (Made.Certified 548 1 1 0 152 212)
    ∷ makes 11 on_2024_01_22 (admit 1 on_2024_02_01) admitted (Made.Certified 535 2 1 0 165 225)
    ∷ closes 12 on_2024_01_31 january january_lines (Made.Closed (pos 548) 1 january)
    ∷ closes 13 on_2024_02_29 february february_lines (Made.Closed (pos 1083) 2 february)
    ∷ makes 14 on_2024_03_05 (interim on_2024_02_20 on_2024_03_05 on_2024_04_01) raised (Made.Certified 498 1 2 0 202 262)
    ∷ makes 15 on_2024_03_20 (correct 1 2 on_2024_01_01 (reed 9600 1200)) corrected (Made.Certified 553 1 3 0 147 207)
    ∷ closes 16 on_2024_03_29 march march_lines (Made.Closed (pos 1098) 4 march)
    ∷ makes 17 on_2024_03_29 withdraw withdrawn (Made.Certified 0 1 4 0 0 0)
    ∷ sets 18 on_2024_06_10 (rents on_2024_07_01 720) Made.Nothing
    ∷ makes 19 on_2024_06_10 (gross 1 4) of_new_rents (Made.Certified 573 1 5 0 147 207)
    ∷ makes 20 on_2024_06_10 (gross 2 1) of_new_rents_too (Made.Certified 555 2 2 0 165 225)
    ∷ makes 21 on_2024_11_20 (annual 5 (reed 11520 1000)) certified_anew (Made.Certified 518 1 6 0 202 262)
    ∷ sets 22 on_2024_12_02 ask_transfer Made.Nothing
    ∷ makes 23 on_2024_12_09 transfer transferred (Made.Certified 555 2 3 0 165 225)
    ∷ makes 24 on_2025_02_10 terminate terminated (Made.Certified 0 2 4 0 0 0)
    ∷ makes 25 on_2025_03_20 resume resumed (Made.Certified 555 2 5 0 165 225)
    ∷ makes 26 on_2025_04_20 (move_out 1 6 on_2025_04_15) moved_out (Made.Certified 0 1 7 0 0 0)
    ∷ []

abbrev pub PageIsTaken : Type 0
PageIsTaken = (capacity : Capacity) → HasRoom capacity → Takes capacity page
