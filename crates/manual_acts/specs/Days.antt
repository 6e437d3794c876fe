-- The days that the manual tells, numbered from 1880-01-01, and the months that it closes, numbered from 1880-01.
use Rattle.std.specs.Prelude.{ℕ, ◌≡◌}
use Rattle.days_core.specs.Calendar.{day_number}

abbrev pub january : ℕ
january = 1728

abbrev pub february : ℕ
february = 1729

abbrev pub march : ℕ
march = 1730

abbrev pub april : ℕ
april = 1731

abbrev pub may : ℕ
may = 1732

abbrev pub june : ℕ
june = 1733

abbrev pub july : ℕ
july = 1734

abbrev pub august : ℕ
august = 1735

abbrev pub september : ℕ
september = 1736

abbrev pub october : ℕ
october = 1737

abbrev pub november : ℕ
november = 1738

abbrev pub december : ℕ
december = 1739

abbrev pub january_2025 : ℕ
january_2025 = 1740

abbrev pub february_2025 : ℕ
february_2025 = 1741

abbrev pub on_1953_06_01 : ℕ
on_1953_06_01 = 26814

abbrev pub on_1980_01_01 : ℕ
on_1980_01_01 = 36524

abbrev pub on_2024_01_01 : ℕ
on_2024_01_01 = 52595

abbrev pub on_2024_01_02 : ℕ
on_2024_01_02 = 52596

abbrev pub on_2024_01_03 : ℕ
on_2024_01_03 = 52597

abbrev pub on_2024_01_22 : ℕ
on_2024_01_22 = 52616

abbrev pub on_2024_01_31 : ℕ
on_2024_01_31 = 52625

abbrev pub on_2024_02_01 : ℕ
on_2024_02_01 = 52626

abbrev pub on_2024_02_05 : ℕ
on_2024_02_05 = 52630

abbrev pub on_2024_02_10 : ℕ
on_2024_02_10 = 52635

abbrev pub on_2024_02_20 : ℕ
on_2024_02_20 = 52645

abbrev pub on_2024_02_29 : ℕ
on_2024_02_29 = 52654

abbrev pub on_2024_03_01 : ℕ
on_2024_03_01 = 52655

abbrev pub on_2024_03_05 : ℕ
on_2024_03_05 = 52659

abbrev pub on_2024_03_20 : ℕ
on_2024_03_20 = 52674

abbrev pub on_2024_03_29 : ℕ
on_2024_03_29 = 52683

abbrev pub on_2024_03_31 : ℕ
on_2024_03_31 = 52685

abbrev pub on_2024_04_01 : ℕ
on_2024_04_01 = 52686

abbrev pub on_2024_04_12 : ℕ
on_2024_04_12 = 52697

abbrev pub on_2024_04_15 : ℕ
on_2024_04_15 = 52700

abbrev pub on_2024_04_30 : ℕ
on_2024_04_30 = 52715

abbrev pub on_2024_05_01 : ℕ
on_2024_05_01 = 52716

abbrev pub on_2024_05_10 : ℕ
on_2024_05_10 = 52725

abbrev pub on_2024_05_31 : ℕ
on_2024_05_31 = 52746

abbrev pub on_2024_06_01 : ℕ
on_2024_06_01 = 52747

abbrev pub on_2024_06_10 : ℕ
on_2024_06_10 = 52756

abbrev pub on_2024_06_28 : ℕ
on_2024_06_28 = 52774

abbrev pub on_2024_06_30 : ℕ
on_2024_06_30 = 52776

abbrev pub on_2024_07_01 : ℕ
on_2024_07_01 = 52777

abbrev pub on_2024_07_31 : ℕ
on_2024_07_31 = 52807

abbrev pub on_2024_08_01 : ℕ
on_2024_08_01 = 52808

abbrev pub on_2024_08_30 : ℕ
on_2024_08_30 = 52837

abbrev pub on_2024_08_31 : ℕ
on_2024_08_31 = 52838

abbrev pub on_2024_09_01 : ℕ
on_2024_09_01 = 52839

abbrev pub on_2024_09_30 : ℕ
on_2024_09_30 = 52868

abbrev pub on_2024_10_01 : ℕ
on_2024_10_01 = 52869

abbrev pub on_2024_10_31 : ℕ
on_2024_10_31 = 52899

abbrev pub on_2024_11_01 : ℕ
on_2024_11_01 = 52900

abbrev pub on_2024_11_20 : ℕ
on_2024_11_20 = 52919

abbrev pub on_2024_11_29 : ℕ
on_2024_11_29 = 52928

abbrev pub on_2024_11_30 : ℕ
on_2024_11_30 = 52929

abbrev pub on_2024_12_01 : ℕ
on_2024_12_01 = 52930

abbrev pub on_2024_12_02 : ℕ
on_2024_12_02 = 52931

abbrev pub on_2024_12_09 : ℕ
on_2024_12_09 = 52938

abbrev pub on_2024_12_31 : ℕ
on_2024_12_31 = 52960

abbrev pub on_2025_01_01 : ℕ
on_2025_01_01 = 52961

abbrev pub on_2025_01_31 : ℕ
on_2025_01_31 = 52991

abbrev pub on_2025_02_01 : ℕ
on_2025_02_01 = 52992

abbrev pub on_2025_02_10 : ℕ
on_2025_02_10 = 53001

abbrev pub on_2025_02_14 : ℕ
on_2025_02_14 = 53005

abbrev pub on_2025_02_15 : ℕ
on_2025_02_15 = 53006

abbrev pub on_2025_02_17 : ℕ
on_2025_02_17 = 53008

abbrev pub on_2025_02_28 : ℕ
on_2025_02_28 = 53019

abbrev pub on_2025_03_01 : ℕ
on_2025_03_01 = 53020

abbrev pub on_2025_03_20 : ℕ
on_2025_03_20 = 53039

abbrev pub on_2025_04_01 : ℕ
on_2025_04_01 = 53051

abbrev pub on_2025_04_15 : ℕ
on_2025_04_15 = 53065

abbrev pub on_2025_04_16 : ℕ
on_2025_04_16 = 53066

abbrev pub on_2025_04_20 : ℕ
on_2025_04_20 = 53070

-- each number is that of its date
pub record DaysAreDates : Type 0 where
  pub is_1953_06_01 : day_number 1953 6 1 ≡ on_1953_06_01
  pub is_1980_01_01 : day_number 1980 1 1 ≡ on_1980_01_01
  pub is_2024_01_01 : day_number 2024 1 1 ≡ on_2024_01_01
  pub is_2024_01_02 : day_number 2024 1 2 ≡ on_2024_01_02
  pub is_2024_01_03 : day_number 2024 1 3 ≡ on_2024_01_03
  pub is_2024_01_22 : day_number 2024 1 22 ≡ on_2024_01_22
  pub is_2024_01_31 : day_number 2024 1 31 ≡ on_2024_01_31
  pub is_2024_02_01 : day_number 2024 2 1 ≡ on_2024_02_01
  pub is_2024_02_05 : day_number 2024 2 5 ≡ on_2024_02_05
  pub is_2024_02_10 : day_number 2024 2 10 ≡ on_2024_02_10
  pub is_2024_02_20 : day_number 2024 2 20 ≡ on_2024_02_20
  pub is_2024_02_29 : day_number 2024 2 29 ≡ on_2024_02_29
  pub is_2024_03_01 : day_number 2024 3 1 ≡ on_2024_03_01
  pub is_2024_03_05 : day_number 2024 3 5 ≡ on_2024_03_05
  pub is_2024_03_20 : day_number 2024 3 20 ≡ on_2024_03_20
  pub is_2024_03_29 : day_number 2024 3 29 ≡ on_2024_03_29
  pub is_2024_03_31 : day_number 2024 3 31 ≡ on_2024_03_31
  pub is_2024_04_01 : day_number 2024 4 1 ≡ on_2024_04_01
  pub is_2024_04_12 : day_number 2024 4 12 ≡ on_2024_04_12
  pub is_2024_04_15 : day_number 2024 4 15 ≡ on_2024_04_15
  pub is_2024_04_30 : day_number 2024 4 30 ≡ on_2024_04_30
  pub is_2024_05_01 : day_number 2024 5 1 ≡ on_2024_05_01
  pub is_2024_05_10 : day_number 2024 5 10 ≡ on_2024_05_10
  pub is_2024_05_31 : day_number 2024 5 31 ≡ on_2024_05_31
  pub is_2024_06_01 : day_number 2024 6 1 ≡ on_2024_06_01
  pub is_2024_06_10 : day_number 2024 6 10 ≡ on_2024_06_10
  pub is_2024_06_28 : day_number 2024 6 28 ≡ on_2024_06_28
  pub is_2024_06_30 : day_number 2024 6 30 ≡ on_2024_06_30
  pub is_2024_07_01 : day_number 2024 7 1 ≡ on_2024_07_01
  pub is_2024_07_31 : day_number 2024 7 31 ≡ on_2024_07_31
  pub is_2024_08_01 : day_number 2024 8 1 ≡ on_2024_08_01
  pub is_2024_08_30 : day_number 2024 8 30 ≡ on_2024_08_30
  pub is_2024_08_31 : day_number 2024 8 31 ≡ on_2024_08_31
  pub is_2024_09_01 : day_number 2024 9 1 ≡ on_2024_09_01
  pub is_2024_09_30 : day_number 2024 9 30 ≡ on_2024_09_30
  pub is_2024_10_01 : day_number 2024 10 1 ≡ on_2024_10_01
  pub is_2024_10_31 : day_number 2024 10 31 ≡ on_2024_10_31
  pub is_2024_11_01 : day_number 2024 11 1 ≡ on_2024_11_01
  pub is_2024_11_20 : day_number 2024 11 20 ≡ on_2024_11_20
  pub is_2024_11_29 : day_number 2024 11 29 ≡ on_2024_11_29
  pub is_2024_11_30 : day_number 2024 11 30 ≡ on_2024_11_30
  pub is_2024_12_01 : day_number 2024 12 1 ≡ on_2024_12_01
  pub is_2024_12_02 : day_number 2024 12 2 ≡ on_2024_12_02
  pub is_2024_12_09 : day_number 2024 12 9 ≡ on_2024_12_09
  pub is_2024_12_31 : day_number 2024 12 31 ≡ on_2024_12_31
  pub is_2025_01_01 : day_number 2025 1 1 ≡ on_2025_01_01
  pub is_2025_01_31 : day_number 2025 1 31 ≡ on_2025_01_31
  pub is_2025_02_01 : day_number 2025 2 1 ≡ on_2025_02_01
  pub is_2025_02_10 : day_number 2025 2 10 ≡ on_2025_02_10
  pub is_2025_02_14 : day_number 2025 2 14 ≡ on_2025_02_14
  pub is_2025_02_15 : day_number 2025 2 15 ≡ on_2025_02_15
  pub is_2025_02_17 : day_number 2025 2 17 ≡ on_2025_02_17
  pub is_2025_02_28 : day_number 2025 2 28 ≡ on_2025_02_28
  pub is_2025_03_01 : day_number 2025 3 1 ≡ on_2025_03_01
  pub is_2025_03_20 : day_number 2025 3 20 ≡ on_2025_03_20
  pub is_2025_04_01 : day_number 2025 4 1 ≡ on_2025_04_01
  pub is_2025_04_15 : day_number 2025 4 15 ≡ on_2025_04_15
  pub is_2025_04_16 : day_number 2025 4 16 ≡ on_2025_04_16
  pub is_2025_04_20 : day_number 2025 4 20 ≡ on_2025_04_20
