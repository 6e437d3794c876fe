-- What each line of a closing tells of its records.
use Rattle.std.specs.Prelude.{ℕ, ◌+◌, ◌-◌, ◌<◌, ◌≤◌, ◌≡◌, ◌≢◌, ◌==◌, pos, ◌-ℤ◌, List, [], All, Contains, find}
use Rattle.std.specs.Option.{option_map_or}
use Rattle.days_core.specs.Calendar.{days_in, first_of, last_of}
use Rattle.record_history.specs.{declared.records.Record.Record, Records.as_of, Runs.number_on, Stretch.CoverLongest, Held.AreNumbered}
use Rattle.share_rules.specs.Shares.{run_share}
use Rattle.voucher_core.specs.{declared.closing.Closing.Closing, declared.line.Line.Line, Certified.assistance_on}
use Rattle.voucher_core.specs.Lines.{change_on, changes, closing_lines, placed}

-- the assistance of the household's record of that number, and 0 where it has none
abbrev pub assistance_of : List Record → ℕ → ℕ
assistance_of records number = option_map_or (λ r. r.assistance) (find (λ r. r.number == number) records) 0

-- the shares of the line's days in the assistance of the household's record of that number
abbrev pub shares_of : List Record → ℕ → Line → ℕ
shares_of records number l =
    run_share (assistance_of records number) (l.first + 1 - first_of l.for_month) (l.last + 1 - first_of l.for_month) (days_in l.for_month)

-- A line names its pair: its days are days of its month; on each of them its old record is in force by the records
-- known before, and its new one by those known now; it amounts to the shares of the new record over these days less
-- those of the old one, and isn't for 0.
pub record NamesItsPair (records before now : List Record) (l : Line) : Type 0 where
  pub from : first_of l.for_month ≤ l.first
  pub in_order : l.first ≤ l.last
  pub to : l.last ≤ last_of l.for_month
  pub old : (day : ℕ) → l.first ≤ day → day ≤ l.last → l.old ≡ number_on before day
  pub new : (day : ℕ) → l.first ≤ day → day ≤ l.last → l.new ≡ number_on now day
  pub amount : l.amount ≡ pos (shares_of records l.new l) -ℤ pos (shares_of records l.old l)
  pub not_for_nothing : l.amount ≢ pos 0

-- Each line of a closing is for the closed month or an earlier one. One for an earlier month names what was in force as
-- of the last closing, and what is as of this act; one for the closed month names none for old.
pub record NameTheirPairs (own : ℕ → List Record) (closing : Closing) (lines : List Line) : Type 0 where
  pub months : All (λ l. l.for_month ≤ closing.closed) lines
  pub earlier : All (λ l. l.for_month < closing.closed → NamesItsPair (own l.household) (as_of closing.last_close (own l.household)) (as_of closing.act (own l.household)) l) lines
  pub none_before : All (λ l. l.for_month ≡ closing.closed → l.old ≡ 0) lines
  pub closed_month : All (λ l. l.for_month ≡ closing.closed → NamesItsPair (own l.household) [] (as_of closing.act (own l.household)) l) lines

-- Where each household's records are numbered from 1, the lines of a closing name their pairs.
abbrev pub LinesNameTheirPairs : Type 0
LinesNameTheirPairs = (own : ℕ → List Record) (count : ℕ) (closing : Closing) (place : ℕ) →
    ((household : ℕ) → AreNumbered (own household)) →
    NameTheirPairs own closing (placed place (closing_lines own count closing))

-- the changes of a month are the longest runs of its days with one pair of records
abbrev pub ChangesAreLongest : Type 0
ChangesAreLongest = (old new : List Record) (month : ℕ) →
    CoverLongest (change_on old new) (first_of month) (last_of month + 1) (changes old new month)

-- the old records and the new ones are all of one household, whose records are numbered from 1
pub record AreOfOne (records old new : List Record) : Type 0 where
  pub numbered : AreNumbered records
  pub old_own : All (Contains records) old
  pub new_own : All (Contains records) new

-- the number of the record in force tells its assistance, on whatever day and by whatever is known
abbrev pub NumberTellsAssistance : Type 0
NumberTellsAssistance = (records old new : List Record) (day next : ℕ) →
    AreOfOne records old new →
    number_on old day ≡ number_on new next → assistance_on old day ≡ assistance_on new next
