-- Each act of docs/ACTS.md, by its number, and what an office knows after it.
use Rattle.std.proofs.Common.{[], ◌∷◌, pos}
use Rattle.std.specs.Prelude.{codes}
use Rattle.book_rows.specs.Book.{empty_book}
use Rattle.office_step.specs.{declared.reply.Made.Made, Known.Known, Known.known_of}
use Rattle.manual_acts.specs.Days.{january, february, march, on_2024_01_01, on_2024_01_02, on_2024_01_03, on_2024_01_22, on_2024_01_31, on_2024_02_01, on_2024_02_20, on_2024_02_29, on_2024_03_05, on_2024_03_20, on_2024_03_29, on_2024_04_01, on_2024_06_10, on_2024_07_01, on_2024_11_20, on_2024_12_02, on_2024_12_09, on_2025_02_10, on_2025_03_20, on_2025_04_15, on_2025_04_20}
use Rattle.manual_acts.specs.Commands.{reed, plan, unit, rents, limits, apply, remove, start, admit, interim, correct, withdraw, gross, annual, ask_transfer, transfer, terminate, resume, move_out}
use Rattle.manual_acts.specs.Records.{admitted, certified_anew, corrected, moved_out, of_new_rents, of_new_rents_too, raised, resumed, started, terminated, transferred, withdrawn}
use Rattle.manual_acts.specs.Page.{january_lines, february_lines, march_lines}
use Rattle.manual_acts.specs.Taken.{Told, sets, makes, closes}
use Rattle.manual_acts.proofs.Goes.{known_then}

abbrev pub known_0 : Known
known_0 = known_of empty_book

abbrev pub act_1 : Told
act_1 = sets 1 on_2024_01_02 plan Made.Nothing

abbrev pub known_1 : Known
known_1 = known_then known_0 act_1

abbrev pub act_2 : Told
act_2 = sets 2 on_2024_01_02 (unit (codes "A-101")) (Made.Unit 1)

abbrev pub known_2 : Known
known_2 = known_then known_1 act_2

abbrev pub act_3 : Told
act_3 = sets 3 on_2024_01_02 (unit (codes "A-102")) (Made.Unit 2)

abbrev pub known_3 : Known
known_3 = known_then known_2 act_3

abbrev pub act_4 : Told
act_4 = sets 4 on_2024_01_02 (unit (codes "A-103")) (Made.Unit 3)

abbrev pub known_4 : Known
known_4 = known_then known_3 act_4

abbrev pub act_5 : Told
act_5 = sets 5 on_2024_01_02 (rents on_2024_01_01 700) Made.Nothing

abbrev pub known_5 : Known
known_5 = known_then known_4 act_5

abbrev pub act_6 : Told
act_6 = sets 6 on_2024_01_02 limits Made.Nothing

abbrev pub known_6 : Known
known_6 = known_then known_5 act_6

abbrev pub act_7 : Told
act_7 = sets 7 on_2024_01_02 (apply (codes "Bo Lund") (1 ∷ []) 9000) (Made.Applicant 1)

abbrev pub known_7 : Known
known_7 = known_then known_6 act_7

abbrev pub act_8 : Told
act_8 = sets 8 on_2024_01_02 (apply (codes "Cy Moss") [] 20000) (Made.Applicant 2)

abbrev pub known_8 : Known
known_8 = known_then known_7 act_8

abbrev pub act_9 : Told
act_9 = sets 9 on_2024_01_03 remove Made.Nothing

abbrev pub known_9 : Known
known_9 = known_then known_8 act_9

abbrev pub act_10 : Told
act_10 = makes 10 on_2024_01_03 start started (Made.Certified 548 1 1 0 152 212)

abbrev pub known_10 : Known
known_10 = known_then known_9 act_10

abbrev pub act_11 : Told
act_11 = makes 11 on_2024_01_22 (admit 1 on_2024_02_01) admitted (Made.Certified 535 2 1 0 165 225)

abbrev pub known_11 : Known
known_11 = known_then known_10 act_11

abbrev pub act_12 : Told
act_12 = closes 12 on_2024_01_31 january january_lines (Made.Closed (pos 548) 1 january)

abbrev pub known_12 : Known
known_12 = known_then known_11 act_12

abbrev pub act_13 : Told
act_13 = closes 13 on_2024_02_29 february february_lines (Made.Closed (pos 1083) 2 february)

abbrev pub known_13 : Known
known_13 = known_then known_12 act_13

abbrev pub act_14 : Told
act_14 = makes 14 on_2024_03_05 (interim on_2024_02_20 on_2024_03_05 on_2024_04_01) raised (Made.Certified 498 1 2 0 202 262)

abbrev pub known_14 : Known
known_14 = known_then known_13 act_14

abbrev pub act_15 : Told
act_15 = makes 15 on_2024_03_20 (correct 1 2 on_2024_01_01 (reed 9600 1200)) corrected (Made.Certified 553 1 3 0 147 207)

abbrev pub known_15 : Known
known_15 = known_then known_14 act_15

abbrev pub act_16 : Told
act_16 = closes 16 on_2024_03_29 march march_lines (Made.Closed (pos 1098) 4 march)

abbrev pub known_16 : Known
known_16 = known_then known_15 act_16

abbrev pub act_17 : Told
act_17 = makes 17 on_2024_03_29 withdraw withdrawn (Made.Certified 0 1 4 0 0 0)

abbrev pub known_17 : Known
known_17 = known_then known_16 act_17

abbrev pub act_18 : Told
act_18 = sets 18 on_2024_06_10 (rents on_2024_07_01 720) Made.Nothing

abbrev pub known_18 : Known
known_18 = known_then known_17 act_18

abbrev pub act_19 : Told
act_19 = makes 19 on_2024_06_10 (gross 1 4) of_new_rents (Made.Certified 573 1 5 0 147 207)

abbrev pub known_19 : Known
known_19 = known_then known_18 act_19

abbrev pub act_20 : Told
act_20 = makes 20 on_2024_06_10 (gross 2 1) of_new_rents_too (Made.Certified 555 2 2 0 165 225)

abbrev pub known_20 : Known
known_20 = known_then known_19 act_20

abbrev pub act_21 : Told
act_21 = makes 21 on_2024_11_20 (annual 5 (reed 11520 1000)) certified_anew (Made.Certified 518 1 6 0 202 262)

abbrev pub known_21 : Known
known_21 = known_then known_20 act_21

abbrev pub act_22 : Told
act_22 = sets 22 on_2024_12_02 ask_transfer Made.Nothing

abbrev pub known_22 : Known
known_22 = known_then known_21 act_22

abbrev pub act_23 : Told
act_23 = makes 23 on_2024_12_09 transfer transferred (Made.Certified 555 2 3 0 165 225)

abbrev pub known_23 : Known
known_23 = known_then known_22 act_23

abbrev pub act_24 : Told
act_24 = makes 24 on_2025_02_10 terminate terminated (Made.Certified 0 2 4 0 0 0)

abbrev pub known_24 : Known
known_24 = known_then known_23 act_24

abbrev pub act_25 : Told
act_25 = makes 25 on_2025_03_20 resume resumed (Made.Certified 555 2 5 0 165 225)

abbrev pub known_25 : Known
known_25 = known_then known_24 act_25

abbrev pub act_26 : Told
act_26 = makes 26 on_2025_04_20 (move_out 1 6 on_2025_04_15) moved_out (Made.Certified 0 1 7 0 0 0)

abbrev pub known_26 : Known
known_26 = known_then known_25 act_26
