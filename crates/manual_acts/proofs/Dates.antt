-- The days of the manual are those dates.
use Rattle.std.proofs.Common.{refl}
use Rattle.manual_acts.specs.Days.{DaysAreDates}
use Rattle.manual_acts.proofs.Days.{first_881, first_1200, first_1728, first_1729, first_1730, first_1731, first_1732, first_1733, first_1734, first_1735, first_1736, first_1737, first_1738, first_1739, first_1740, first_1741, first_1742, first_1743}

pub days_are_dates : DaysAreDates
days_are_dates = record {
  is_1953_06_01 = rw first_881 refl;
  is_1980_01_01 = rw first_1200 refl;
  is_2024_01_01 = rw first_1728 refl;
  is_2024_01_02 = rw first_1728 refl;
  is_2024_01_03 = rw first_1728 refl;
  is_2024_01_22 = rw first_1728 refl;
  is_2024_01_31 = rw first_1728 refl;
  is_2024_02_01 = rw first_1729 refl;
  is_2024_02_05 = rw first_1729 refl;
  is_2024_02_10 = rw first_1729 refl;
  is_2024_02_20 = rw first_1729 refl;
  is_2024_02_29 = rw first_1729 refl;
  is_2024_03_01 = rw first_1730 refl;
  is_2024_03_05 = rw first_1730 refl;
  is_2024_03_20 = rw first_1730 refl;
  is_2024_03_29 = rw first_1730 refl;
  is_2024_03_31 = rw first_1730 refl;
  is_2024_04_01 = rw first_1731 refl;
  is_2024_04_12 = rw first_1731 refl;
  is_2024_04_15 = rw first_1731 refl;
  is_2024_04_30 = rw first_1731 refl;
  is_2024_05_01 = rw first_1732 refl;
  is_2024_05_10 = rw first_1732 refl;
  is_2024_05_31 = rw first_1732 refl;
  is_2024_06_01 = rw first_1733 refl;
  is_2024_06_10 = rw first_1733 refl;
  is_2024_06_28 = rw first_1733 refl;
  is_2024_06_30 = rw first_1733 refl;
  is_2024_07_01 = rw first_1734 refl;
  is_2024_07_31 = rw first_1734 refl;
  is_2024_08_01 = rw first_1735 refl;
  is_2024_08_30 = rw first_1735 refl;
  is_2024_08_31 = rw first_1735 refl;
  is_2024_09_01 = rw first_1736 refl;
  is_2024_09_30 = rw first_1736 refl;
  is_2024_10_01 = rw first_1737 refl;
  is_2024_10_31 = rw first_1737 refl;
  is_2024_11_01 = rw first_1738 refl;
  is_2024_11_20 = rw first_1738 refl;
  is_2024_11_29 = rw first_1738 refl;
  is_2024_11_30 = rw first_1738 refl;
  is_2024_12_01 = rw first_1739 refl;
  is_2024_12_02 = rw first_1739 refl;
  is_2024_12_09 = rw first_1739 refl;
  is_2024_12_31 = rw first_1739 refl;
  is_2025_01_01 = rw first_1740 refl;
  is_2025_01_31 = rw first_1740 refl;
  is_2025_02_01 = rw first_1741 refl;
  is_2025_02_10 = rw first_1741 refl;
  is_2025_02_14 = rw first_1741 refl;
  is_2025_02_15 = rw first_1741 refl;
  is_2025_02_17 = rw first_1741 refl;
  is_2025_02_28 = rw first_1741 refl;
  is_2025_03_01 = rw first_1742 refl;
  is_2025_03_20 = rw first_1742 refl;
  is_2025_04_01 = rw first_1743 refl;
  is_2025_04_15 = rw first_1743 refl;
  is_2025_04_16 = rw first_1743 refl;
  is_2025_04_20 = rw first_1743 refl;
}
