-- The three tables of a book's file, and what a row of the book has in each column.
use Rattle.std.specs.Prelude.{ℕ, [], ◌∷◌, codes, Option, None, Some, option_map}
use Rattle.sqlite.specs.Order.{column}
use Rattle.sqlite_rules.specs.Edit.{id_in}
use Rattle.record_history.specs.declared.records.{Record.Record, Dates.Dates}
use Rattle.voucher_core.specs.declared.line.Line.{Line}
use Rattle.book_rows.specs.declared.rows.ActRow.{ActRow}
use Rattle.store_sql.specs.Cells.{number_of, day_of, month_of, kind_of, flag_of, words_of, maybe_day_of}
use Rattle.store_sql.specs.Tables.{Table, number, day, month, kind, flag, amount, words, maybe_day}

-- three days, or none
abbrev pub dates_of : Option ℕ → Option ℕ → Option ℕ → Option Dates
dates_of (Some event) (Some notice) (Some done) = Some (record { event = event; notice = notice; done = done })
dates_of _ _ _ = None

-- by the act's number, and no two of one clerk and request
abbrev pub acts : Table ActRow
acts = record {
  name = codes "acts";
  tree = 0;
  key = Some (codes "n", λ a. a.n);
  columns =
      (codes "session", number (λ a. a.session))
      ∷ (codes "clerk", number (λ a. a.clerk))
      ∷ (codes "request", number (λ a. a.request))
      ∷ (codes "day", day (λ a. a.day))
      ∷ (codes "body", words (λ a. a.body))
      ∷ [];
  unique = 2 ∷ 3 ∷ [];
  row_of = λ row. record {
    n = number_of (column row 0);
    session = number_of (column row 1);
    clerk = number_of (column row 2);
    request = number_of (column row 3);
    day = day_of (column row 4);
    body = words_of (column row 5);
  };
}

-- by the act's number, and no two of one household and number
abbrev pub records : Table Record
records = record {
  name = codes "records";
  tree = 2;
  key = Some (codes "act", λ r. r.act);
  columns =
      (codes "household", number (λ r. r.household))
      ∷ (codes "number", number (λ r. r.number))
      ∷ (codes "kind", kind (λ r. r.kind))
      ∷ (codes "first", day (λ r. r.from))
      ∷ (codes "corrects", number (λ r. r.corrects))
      ∷ (codes "unit", number (λ r. r.unit))
      ∷ (codes "persons", number (λ r. r.persons))
      ∷ (codes "size", number (λ r. r.size))
      ∷ (codes "extremely", flag (λ r. r.extremely))
      ∷ (codes "annual", number (λ r. r.annual))
      ∷ (codes "adjusted", number (λ r. r.adjusted))
      ∷ (codes "ttp", number (λ r. r.ttp))
      ∷ (codes "contract_rent", number (λ r. r.rents.contract_rent))
      ∷ (codes "utility", number (λ r. r.rents.utility))
      ∷ (codes "assistance", number (λ r. r.assistance))
      ∷ (codes "event", maybe_day (λ r. option_map (λ d. d.event) r.dates))
      ∷ (codes "notice", maybe_day (λ r. option_map (λ d. d.notice) r.dates))
      ∷ (codes "done", maybe_day (λ r. option_map (λ d. d.done) r.dates))
      ∷ [];
  unique = 1 ∷ 2 ∷ [];
  row_of = λ row. record {
    act = number_of (column row 0);
    household = number_of (column row 1);
    number = number_of (column row 2);
    kind = kind_of (column row 3);
    from = day_of (column row 4);
    corrects = number_of (column row 5);
    unit = number_of (column row 6);
    persons = number_of (column row 7);
    size = number_of (column row 8);
    extremely = flag_of (column row 9);
    annual = number_of (column row 10);
    adjusted = number_of (column row 11);
    ttp = number_of (column row 12);
    rents = record { contract_rent = number_of (column row 13); utility = number_of (column row 14) };
    assistance = number_of (column row 15);
    dates = dates_of (maybe_day_of (column row 16)) (maybe_day_of (column row 17)) (maybe_day_of (column row 18));
  };
}

-- by the act's number and the place among its lines
abbrev pub lines : Table Line
lines = record {
  name = codes "lines";
  tree = 4;
  key = None;
  columns =
      (codes "act", number (λ l. l.act))
      ∷ (codes "place", number (λ l. l.place))
      ∷ (codes "month", month (λ l. l.month))
      ∷ (codes "household", number (λ l. l.household))
      ∷ (codes "for_month", month (λ l. l.for_month))
      ∷ (codes "first", day (λ l. l.first))
      ∷ (codes "last", day (λ l. l.last))
      ∷ (codes "old", number (λ l. l.old))
      ∷ (codes "new", number (λ l. l.new))
      ∷ (codes "amount", amount (λ l. l.amount))
      ∷ [];
  unique = 0 ∷ 1 ∷ [];
  row_of = λ row. record {
    act = number_of (column row 0);
    place = number_of (column row 1);
    month = month_of (column row 2);
    household = number_of (column row 3);
    for_month = month_of (column row 4);
    first = day_of (column row 5);
    last = day_of (column row 6);
    old = number_of (column row 7);
    new = number_of (column row 8);
    amount = id_in (column row 9);
  };
}
