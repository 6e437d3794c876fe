-- The lines of a closing, by the first days of months.
use Rattle.std.proofs.Common.{◌≡◌, ◌∙◌, ap, refl, ℕ, suc, ◌+◌, ◌-◌, ◌==◌, not, if◌then◌else◌, Bool, true, false, List, [], ◌++◌, map, filter, pos, ◌-ℤ◌, sum_by}
use Rattle.std.specs.{List.range_with_len, List.flat_map, Ordering.int_eq}
use Rattle.std.proofs.lemmas.Bool.{eqb-true}
use Rattle.days_core.specs.Calendar.{first_of, days_in}
use Rattle.record_history.specs.{declared.records.Record.Record, declared.stretch.Stretch.Stretch, Stretch.stretches, Stretch.days}
use Rattle.share_rules.specs.Shares.{day_share}
use Rattle.voucher_core.specs.{declared.changes.Change.Change, declared.closing.Closing.Closing, declared.line.Line.Line, Certified.assistance_on}
use Rattle.voucher_core.specs.Lines.{is_same_change, change_on, known_as_of, is_first, closing_lines, placed}
use Rattle.manual_acts.proofs.Days.{first_1728, first_1729, first_1730, first_1731, first_1732, first_1733, first_1734, first_1735, first_1736, first_1737, first_1738, first_1739, first_1740, first_1741, first_1742}

-- ---- the lines of a closing, by the first days of months

module _ (first : ℕ → ℕ) where
  abbrev certified_by : List Record → ℕ → ℕ → ℕ → ℕ
  certified_by records month from to =
      sum_by (λ day. day_share (assistance_on records day) (day + 1 - first month) (days_in month)) (days from (to + 1))

  abbrev line_by : Closing → ℕ → ℕ → List Record → List Record → Stretch Change → Line
  line_by closing household month old new run = record {
    act = closing.act;
    place = 0;
    month = closing.closed;
    household = household;
    for_month = month;
    first = run.first;
    last = run.last;
    old = run.key.old;
    new = run.key.new;
    amount = pos (certified_by new month run.first run.last) -ℤ pos (certified_by old month run.first run.last);
  }

  abbrev month_lines_by : Closing → ℕ → ℕ → List Record → List Record → List Line
  month_lines_by closing household month old new =
      filter (λ l. not (int_eq l.amount (pos 0)))
      (map (line_by closing household month old new) (stretches is_same_change (change_on old new) (first month) (first (suc month) - 1 + 1)))

  abbrev lines_for_by : (ℕ → List Record) → (ℕ → List Record) → ℕ → Closing → ℕ → List Line
  lines_for_by old new count closing month = flat_map (λ h. month_lines_by closing h month (old h) (new h)) (range_with_len 1 count)

  abbrev pub closing_lines_by : (ℕ → List Record) → ℕ → Closing → List Line
  closing_lines_by own count closing =
      (if is_first closing then []
      else flat_map (lines_for_by (known_as_of own closing.last_close) (known_as_of own closing.act) count closing) (range_with_len closing.first_month (closing.closed - closing.first_month)))
      ++ lines_for_by (λ h. []) (known_as_of own closing.act) count closing closing.closed

-- ---- the first days of the months from 2024-01 to 2025-03

abbrev begins : ℕ → ℕ
begins month = if month == 1728 then 52595 else (if month == 1729 then 52626 else (if month == 1730 then 52655 else (if month == 1731 then 52686 else (if month == 1732 then 52716 else (if month == 1733 then 52747 else (if month == 1734 then 52777 else (if month == 1735 then 52808 else (if month == 1736 then 52839 else (if month == 1737 then 52869 else (if month == 1738 then 52900 else (if month == 1739 then 52930 else (if month == 1740 then 52961 else (if month == 1741 then 52992 else (if month == 1742 then 53020 else first_of month))))))))))))))

at_month : (month its first other : ℕ) → first_of its ≡ first → first_of month ≡ other → first_of month ≡ (if month == its then first else other)
at_month month its first other is otherwise = by_test (month == its) refl
  where
    by_test : (same : Bool) → (month == its) ≡ same → first_of month ≡ (if same then first else other)
    by_test true e = ap first_of (eqb-true month its e) ∙ is
    by_test false e = otherwise

first_is : (month : ℕ) → first_of month ≡ begins month
first_is month = at_month month 1728 52595 _ first_1728 (at_month month 1729 52626 _ first_1729 (at_month month 1730 52655 _ first_1730 (at_month month 1731 52686 _ first_1731 (at_month month 1732 52716 _ first_1732 (at_month month 1733 52747 _ first_1733 (at_month month 1734 52777 _ first_1734 (at_month month 1735 52808 _ first_1735 (at_month month 1736 52839 _ first_1736 (at_month month 1737 52869 _ first_1737 (at_month month 1738 52900 _ first_1738 (at_month month 1739 52930 _ first_1739 (at_month month 1740 52961 _ first_1740 (at_month month 1741 52992 _ first_1741 (at_month month 1742 53020 _ first_1742 refl))))))))))))))

-- so the lines of a closing in these months compute
pub by_begins : (own : ℕ → List Record) (count : ℕ) (closing : Closing) → placed 1 (closing_lines own count closing) ≡ placed 1 (closing_lines_by begins own count closing)
by_begins own count closing = λ i. placed 1 (closing_lines_by (λ month. first_is month i) own count closing)
