-- Which tables are those of an office: act by act, the rows that it appends. And where other tables first go wrong.
use Rattle.std.specs.Prelude.{ℕ, ◌≡◌, ◌==◌, ◌&&◌, not, nat_le, if◌then◌else◌, Bool, Option, Some, None, option_and_then, option_to_list, List, [], ◌∷◌, length, map, filter}
use Rattle.std.specs.{Option.option_map, Option.option_map_or, Option.option_or, Cmp.Lexicographic.pointwise}
use Rattle.record_history.specs.declared.records.Record.{Record}
use Rattle.voucher_core.specs.declared.line.Line.{Line}
use Rattle.book_rows.specs.{declared.rows.ActRow.ActRow, declared.rows.Batch.Batch, declared.rows.Table.Table, Book.Book, Book.empty_book, Book.appended, Same.same_act, Same.same_record, Same.same_line}
use Rattle.command_forms.specs.Commands.{command_in}
use Rattle.office_step.specs.declared.{call.Call.Call, call.Capacity.Capacity, fault.Fault.Fault}
use Rattle.office_step.specs.Step.{Outcome, again, refused, appends, step, is_fit_call}

abbrev pub fault_in : Table → ℕ → Fault
fault_in table act = record { table = table; act = act }

-- ---- one act

-- the call, where it is fit
abbrev pub fit_call : Call → Option Call
fit_call call = if is_fit_call call then Some call else None

-- the call that the row is of, where its clerk, request and body make one
abbrev pub call_of : ActRow → Option Call
call_of row =
    option_and_then (λ asked. fit_call (record { clerk = row.clerk; request = row.request; command = asked })) (command_in row.body)

-- the rows that are appended, if any are
abbrev pub rows_in : Outcome → Option Batch
rows_in (again done) = None
rows_in (refused refusal) = None
rows_in (appends rows) = Some rows

-- what the office of that book appends for the row's session, day and call, if it appends anything
abbrev pub replayed : Capacity → Book → ActRow → Option Batch
replayed capacity book row = option_and_then (λ call. rows_in (step book capacity row.session row.day call)) (call_of row)

-- the records that name the act
abbrev pub records_by : ℕ → List Record → List Record
records_by act records = filter (λ r. r.act == act) records

-- the lines that name the act
abbrev pub lines_by : ℕ → List Line → List Line
lines_by act lines = filter (λ line. line.act == act) lines

-- where the rows of tables differ from those appended: in the act's own, else in its records, else in its lines
abbrev pub difference : Book → ActRow → Option Batch → Option Fault
difference tables row None = Some (fault_in Table.Acts row.n)
difference tables row (Some rows) =
    if not (same_act rows.act row) then Some (fault_in Table.Acts row.n)
    else if not (pointwise same_record (option_to_list rows.made) (records_by row.n tables.records)) then Some (fault_in Table.Records row.n)
    else if not (pointwise same_line rows.lines (lines_by row.n tables.lines)) then Some (fault_in Table.Lines row.n)
    else None

-- ---- rows that no act made

-- the act of a row is one of so many, and no earlier one than that of the row before it
abbrev pub is_in_place : ℕ → ℕ → ℕ → Bool
is_in_place count last act = nat_le 1 act && (nat_le last act && nat_le act count)

-- the first of these acts of rows that isn't in its place
abbrev pub stray : ℕ → ℕ → List ℕ → Option ℕ
stray count last [] = None
stray count last (act ∷ acts) = if is_in_place count last act then stray count act acts else Some act

-- the first stray record, else the first stray line
abbrev pub stray_row : Book → Option Fault
stray_row tables = option_or
    (option_map (fault_in Table.Records) (stray (length tables.acts) 0 (map (λ r. r.act) tables.records)))
    (option_map (fault_in Table.Lines) (stray (length tables.acts) 0 (map (λ line. line.act) tables.lines)))

-- ---- tables

-- the book with the rows that an act appends, if it appends any
abbrev pub with_rows : Book → Option Batch → Book
with_rows book rows = option_map_or (appended book) rows book

-- the first fault of tables whose acts from here on are these, after the acts that made the book
abbrev pub fault_from : Capacity → Book → Book → List ActRow → Option Fault
fault_from capacity tables book [] = stray_row tables
fault_from capacity tables book (row ∷ rows) =
    let own = replayed capacity book row in
    option_or (difference tables row own) (fault_from capacity tables (with_rows book own) rows)

-- the first fault of tables
abbrev pub first_fault : Capacity → Book → Option Fault
first_fault capacity tables = fault_from capacity tables empty_book tables.acts

-- they are an office's, of that capacity
abbrev pub IsValid : Capacity → Book → Type 0
IsValid capacity tables = first_fault capacity tables ≡ None
