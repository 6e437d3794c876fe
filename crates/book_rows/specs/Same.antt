-- When two rows of a book are the same: field by field.
use Rattle.std.specs.Prelude.{ℕ, ◌&&◌, ◌==◌, nat_eq, Bool}
use Rattle.std.specs.{Option.option_eq, Ordering.int_eq, Cmp.Lexicographic.pointwise, Bool.beq}
use Rattle.record_history.specs.declared.records.{Kind.Kind, Dates.Dates, Record.Record}
use Rattle.voucher_core.specs.declared.line.Line.{Line}
use Rattle.book_rows.specs.declared.rows.ActRow.{ActRow}

abbrev pub same_act : ActRow → ActRow → Bool
same_act a b =
    a.n == b.n
    && (a.session == b.session
    && (a.clerk == b.clerk && (a.request == b.request && (a.day == b.day && pointwise nat_eq a.body b.body))))

-- the place of a kind among the kinds, from 1
abbrev pub kind_number : Kind → ℕ
kind_number Kind.MI = 1
kind_number Kind.IC = 2
kind_number Kind.AR = 3
kind_number Kind.IR = 4
kind_number Kind.GR = 5
kind_number Kind.UT = 6
kind_number Kind.MO = 7
kind_number Kind.TM = 8
kind_number Kind.WD = 9

abbrev pub same_dates : Dates → Dates → Bool
same_dates a b = a.event == b.event && (a.notice == b.notice && a.done == b.done)

-- whose record it is, and what it is about
abbrev pub same_heading : Record → Record → Bool
same_heading a b =
    a.household == b.household
    && (a.number == b.number
    && (a.act == b.act
    && (kind_number a.kind == kind_number b.kind && (a.from == b.from && (a.corrects == b.corrects && a.unit == b.unit)))))

-- what it certifies
abbrev pub same_figures : Record → Record → Bool
same_figures a b =
    a.persons == b.persons
    && (a.size == b.size
    && (beq a.extremely b.extremely
    && (a.annual == b.annual
    && (a.adjusted == b.adjusted
    && (a.ttp == b.ttp
    && (a.rents.contract_rent == b.rents.contract_rent
    && (a.rents.utility == b.rents.utility && (a.assistance == b.assistance && option_eq same_dates a.dates b.dates))))))))

abbrev pub same_record : Record → Record → Bool
same_record a b = same_heading a b && same_figures a b

abbrev pub same_line : Line → Line → Bool
same_line a b =
    a.act == b.act
    && (a.place == b.place
    && (a.month == b.month
    && (a.household == b.household
    && (a.for_month == b.for_month
    && (a.first == b.first && (a.last == b.last && (a.old == b.old && (a.new == b.new && int_eq a.amount b.amount))))))))
