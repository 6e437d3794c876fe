-- The first days of the months that the manual tells of, and the months of its days.
use Rattle.std.proofs.Common.{◌≡◌, ℕ, suc, ◌+◌, ◌≤◌, refl, arith, pos}
use Rattle.days_core.specs.Calendar.{first_of, month_of, days_in}
use Rattle.days_core.proofs.Bridge.{day_count-first_of, first_of-suc, month_of_is}
use Rattle.jiff_core.proofs.MarchLemmas.{day_count-early}

-- one month later
next : (month first : ℕ) → first_of month ≡ first → first_of (suc month) ≡ first + days_in month
next month first is = omega (arith, first_of-suc month)

pub first_876 : first_of 876 ≡ 26663
first_876 = omega (arith, day_count-first_of 876, day_count-early (pos 1953) 11952 1 1 refl (omega arith) (omega arith) (omega arith))

pub first_877 : first_of 877 ≡ 26694
first_877 = next 876 26663 first_876

pub first_878 : first_of 878 ≡ 26722
first_878 = next 877 26694 first_877

pub first_879 : first_of 879 ≡ 26753
first_879 = next 878 26722 first_878

pub first_880 : first_of 880 ≡ 26783
first_880 = next 879 26753 first_879

pub first_881 : first_of 881 ≡ 26814
first_881 = next 880 26783 first_880

pub first_882 : first_of 882 ≡ 26844
first_882 = next 881 26814 first_881

pub first_1200 : first_of 1200 ≡ 36524
first_1200 = omega (arith, day_count-first_of 1200, day_count-early (pos 1980) 11979 1 1 refl (omega arith) (omega arith) (omega arith))

pub first_1201 : first_of 1201 ≡ 36555
first_1201 = next 1200 36524 first_1200

pub first_1728 : first_of 1728 ≡ 52595
first_1728 = omega (arith, day_count-first_of 1728, day_count-early (pos 2024) 12023 1 1 refl (omega arith) (omega arith) (omega arith))

pub first_1729 : first_of 1729 ≡ 52626
first_1729 = next 1728 52595 first_1728

pub first_1730 : first_of 1730 ≡ 52655
first_1730 = next 1729 52626 first_1729

pub first_1731 : first_of 1731 ≡ 52686
first_1731 = next 1730 52655 first_1730

pub first_1732 : first_of 1732 ≡ 52716
first_1732 = next 1731 52686 first_1731

pub first_1733 : first_of 1733 ≡ 52747
first_1733 = next 1732 52716 first_1732

pub first_1734 : first_of 1734 ≡ 52777
first_1734 = next 1733 52747 first_1733

pub first_1735 : first_of 1735 ≡ 52808
first_1735 = next 1734 52777 first_1734

pub first_1736 : first_of 1736 ≡ 52839
first_1736 = next 1735 52808 first_1735

pub first_1737 : first_of 1737 ≡ 52869
first_1737 = next 1736 52839 first_1736

pub first_1738 : first_of 1738 ≡ 52900
first_1738 = next 1737 52869 first_1737

pub first_1739 : first_of 1739 ≡ 52930
first_1739 = next 1738 52900 first_1738

pub first_1740 : first_of 1740 ≡ 52961
first_1740 = next 1739 52930 first_1739

pub first_1741 : first_of 1741 ≡ 52992
first_1741 = next 1740 52961 first_1740

pub first_1742 : first_of 1742 ≡ 53020
first_1742 = next 1741 52992 first_1741

pub first_1743 : first_of 1743 ≡ 53051
first_1743 = next 1742 53020 first_1742

pub first_1744 : first_of 1744 ≡ 53081
first_1744 = next 1743 53051 first_1743

-- a day of a month, by the first days of that month and the next
within : (month day first end : ℕ) → first_of month ≡ first → first_of (suc month) ≡ end → month ≤ 3839 → first ≤ day → suc day ≤ end → month_of day ≡ month
within month day first end is is_end in_calendar from to =
    month_of_is month day (record { month_in = in_calendar; begun = omega arith; ends = omega (arith, first_of-suc month) })

pub month_26814 : month_of 26814 ≡ 881
month_26814 = within 881 26814 26814 26844 first_881 first_882 (omega arith) (omega arith) (omega arith)

pub month_36524 : month_of 36524 ≡ 1200
month_36524 = within 1200 36524 36524 36555 first_1200 first_1201 (omega arith) (omega arith) (omega arith)

pub month_52595 : month_of 52595 ≡ 1728
month_52595 = within 1728 52595 52595 52626 first_1728 first_1729 (omega arith) (omega arith) (omega arith)

pub month_52626 : month_of 52626 ≡ 1729
month_52626 = within 1729 52626 52626 52655 first_1729 first_1730 (omega arith) (omega arith) (omega arith)

pub month_52675 : month_of 52675 ≡ 1730
month_52675 = within 1730 52675 52655 52686 first_1730 first_1731 (omega arith) (omega arith) (omega arith)

pub month_52686 : month_of 52686 ≡ 1731
month_52686 = within 1731 52686 52686 52716 first_1731 first_1732 (omega arith) (omega arith) (omega arith)

pub month_52961 : month_of 52961 ≡ 1740
month_52961 = within 1740 52961 52961 52992 first_1740 first_1741 (omega arith) (omega arith) (omega arith)

pub month_53039 : month_of 53039 ≡ 1742
month_53039 = within 1742 53039 53020 53051 first_1742 first_1743 (omega arith) (omega arith) (omega arith)

pub month_53051 : month_of 53051 ≡ 1743
month_53051 = within 1743 53051 53051 53081 first_1743 first_1744 (omega arith) (omega arith) (omega arith)

pub month_52635 : month_of 52635 ≡ 1729
month_52635 = within 1729 52635 52626 52655 first_1729 first_1730 (omega arith) (omega arith) (omega arith)

pub month_52655 : month_of 52655 ≡ 1730
month_52655 = within 1730 52655 52655 52686 first_1730 first_1731 (omega arith) (omega arith) (omega arith)
