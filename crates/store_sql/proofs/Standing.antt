-- A row of the file stands for one row of the book.
use Rattle.std.proofs.Common.{◌≡◌, ◌<◌, ℕ, zero, suc, ◌+◌, pos, ◌+ℤ◌, ◌-ℤ◌, Bool, true, false, [], ◌∷◌, length, Option, None, Some, option_map, unsigned_abs, refl, sym, ap, ap₂, subst, ◌∙◌, arith}
use Rattle.std.proofs.lemmas.Int.{ints}
use Rattle.sqlite.specs.Order.{Row, column}
use Rattle.record_history.specs.declared.records.{Record.Record, Kind.Kind, Dates.Dates}
use Rattle.record_history.specs.declared.records.Kind.TheVariants.{MI, IC, AR, IR, GR, UT, MO, TM, WD}
use Rattle.voucher_core.specs.declared.line.Line.{Line}
use Rattle.book_rows.specs.declared.rows.ActRow.{ActRow}
use Rattle.store_sql.specs.Cells.{day_cell, month_cell, kind_cell, flag_cell, maybe_day_cell, day_of, month_of, kind_of, flag_of, maybe_day_of}
use Rattle.store_sql.specs.Tables.{Table, cells}
use Rattle.store_sql.specs.Columns.{acts, records, lines, dates_of}

day_back : (d : ℕ) → day_of (day_cell d) ≡ d
day_back d = let e : pos d -ℤ pos 32872 +ℤ pos 32872 ≡ pos d = omega (arith, ints) in ap unsigned_abs e

month_back : (m : ℕ) → month_of (month_cell m) ≡ m
month_back m = omega arith

kind_back : (k : Kind) → kind_of (kind_cell k) ≡ k
kind_back MI = refl
kind_back IC = refl
kind_back AR = refl
kind_back IR = refl
kind_back GR = refl
kind_back UT = refl
kind_back MO = refl
kind_back TM = refl
kind_back WD = refl

flag_back : (b : Bool) → flag_of (flag_cell b) ≡ b
flag_back true = refl
flag_back false = refl

dates_back : (d : Option Dates) → dates_of (maybe_day_of (maybe_day_cell (option_map (λ (x : Dates). x.event) d))) (maybe_day_of (maybe_day_cell (option_map (λ (x : Dates). x.notice) d))) (maybe_day_of (maybe_day_cell (option_map (λ (x : Dates). x.done) d))) ≡ d
dates_back None = refl
dates_back (Some d) = λ i. Some (record { event = day_back d.event i; notice = day_back d.notice i; done = day_back d.done i })

acts_back : (a : ActRow) → acts.row_of (cells acts a) ≡ a
acts_back a = rw (day_back a.day) refl

records_back : (r : Record) → records.row_of (cells records r) ≡ r
records_back r = rw (day_back r.from, kind_back r.kind, flag_back r.extremely, dates_back r.dates) refl

lines_back : (l : Line) → lines.row_of (cells lines l) ≡ l
lines_back l = rw (month_back l.month, month_back l.for_month, day_back l.first, day_back l.last) refl

one_row : {A : Type 0} (t : Table A) → ((a : A) → t.row_of (cells t a) ≡ a) → (a b : A) → cells t a ≡ cells t b → a ≡ b
one_row t back a b same = sym (back a) ∙ ap t.row_of same ∙ back b

pub one_act : (a b : ActRow) → cells acts a ≡ cells acts b → a ≡ b
one_act = one_row acts acts_back

pub one_record : (a b : Record) → cells records a ≡ cells records b → a ≡ b
one_record = one_row records records_back

pub one_line : (a b : Line) → cells lines a ≡ cells lines b → a ≡ b
one_line = one_row lines lines_back

-- ---- cell by cell

-- these cells stand in the row from this place on
abbrev pub AreAt : ℕ → Row → Row → Type 0
AreAt from [] row = Unit {0}
AreAt from (v ∷ vs) row = (v ≡ column row from) × AreAt (from + 1) vs row

each_at : (vs : Row) (from : ℕ) (row : Row) → AreAt from vs row → (at : ℕ) → at < length vs → column vs at ≡ column row (from + at)
each_at [] from row h at low = absurd (omega (arith, low))
each_at (v ∷ vs) from row h zero low = let e : from ≡ from + 0 = omega arith in subst (λ n. v ≡ column row n) e h.0
each_at (v ∷ vs) from row h (suc at) low =
    let e : from + 1 + at ≡ from + suc at = omega arith in
    subst (λ n. column vs at ≡ column row n) e (each_at vs (from + 1) row h.1 at (omega (arith, low)))

same_list : (vs row : Row) → length row ≡ length vs → ((at : ℕ) → at < length vs → column vs at ≡ column row at) → vs ≡ row
same_list [] [] len h = refl
same_list [] (x ∷ row) len h = absurd (omega (arith, len))
same_list (v ∷ vs) [] len h = absurd (omega (arith, len))
same_list (v ∷ vs) (x ∷ row) len h = ap₂ (λ a l. a ∷ l) (h 0 (omega arith)) (same_list vs row (omega (arith, len)) (λ at low. h (suc at) (omega (arith, low))))

pub same_cells : (vs row : Row) → length row ≡ length vs → AreAt 0 vs row → vs ≡ row
same_cells vs row len h = same_list vs row len (λ at low. let e : 0 + at ≡ at = omega arith in subst (λ n. column vs at ≡ column row n) e (each_at vs 0 row h at low))
