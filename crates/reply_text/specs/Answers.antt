-- How answers are written in JSON.
use Rattle.std.specs.Prelude.{ℕ, List, Option, Some, None, codes}
use Rattle.serde_json.specs.{Data.Data, Data.null, Data.boolean, Data.string, Data.object, Data.member, Data.no_members, Written.compact_text}
use Rattle.json_form.specs.Written.{number_data, amount_data, day_data, month_data, text_data, or_null, array_data}
use Rattle.record_history.specs.declared.records.{Kind.Kind, Dates.Dates, Record.Record}
use Rattle.voucher_core.specs.declared.line.Line.{Line}
use Rattle.office_answers.specs.declared.answer.{HouseholdSummary.HouseholdSummary, Voucher.Voucher, DueDay.DueDay, Admissions.Admissions, Answer.Answer}
use Rattle.reply_text.specs.Refusals.{candidate_data}

-- ---- households and records

abbrev pub household_data : HouseholdSummary → Data
household_data summary = object (
    member (codes "household") (number_data summary.household) (
    member (codes "live") (array_data number_data summary.live) (
    member (codes "name") (text_data summary.name) (
    member (codes "newest") (number_data summary.newest) no_members))))

abbrev pub kind_word : Kind → List ℕ
kind_word Kind.MI = codes "MI"
kind_word Kind.IC = codes "IC"
kind_word Kind.AR = codes "AR"
kind_word Kind.IR = codes "IR"
kind_word Kind.GR = codes "GR"
kind_word Kind.UT = codes "UT"
kind_word Kind.MO = codes "MO"
kind_word Kind.TM = codes "TM"
kind_word Kind.WD = codes "WD"

abbrev pub dates_data : Dates → Data
dates_data dates =
    object (member (codes "done") (day_data dates.done) (member (codes "event") (day_data dates.event) (member (codes "notice") (day_data dates.notice) no_members)))

-- all its fields
abbrev pub record_data : Record → Data
record_data r = object (
    member (codes "act") (number_data r.act) (
    member (codes "adjusted") (number_data r.adjusted) (
    member (codes "annual") (number_data r.annual) (
    member (codes "assistance") (number_data r.assistance) (
    member (codes "contract_rent") (number_data r.rents.contract_rent) (
    member (codes "corrects") (number_data r.corrects) (
    member (codes "dates") (or_null dates_data r.dates) (
    member (codes "extremely") (boolean r.extremely) (
    member (codes "from") (day_data r.from) (
    member (codes "household") (number_data r.household) (
    member (codes "kind") (string (kind_word r.kind)) (
    member (codes "number") (number_data r.number) (
    member (codes "persons") (number_data r.persons) (
    member (codes "size") (number_data r.size) (
    member (codes "ttp") (number_data r.ttp) (
    member (codes "unit") (number_data r.unit) (
    member (codes "utility") (number_data r.rents.utility) no_members)))))))))))))))))

-- ---- vouchers

abbrev pub line_data : Line → Data
line_data line = object (
    member (codes "amount") (amount_data line.amount) (
    member (codes "first") (day_data line.first) (
    member (codes "for_month") (month_data line.for_month) (
    member (codes "household") (number_data line.household) (
    member (codes "last") (day_data line.last) (
    member (codes "new") (number_data line.new) (
    member (codes "old") (number_data line.old) no_members)))))))

-- a closed month, and null where the month isn't closed
abbrev pub voucher_data : Option Voucher → Data
voucher_data (Some voucher) = object (
    member (codes "adjustments") (amount_data voucher.adjustments) (
    member (codes "lines") (array_data line_data voucher.lines) (
    member (codes "month") (month_data voucher.month) (
    member (codes "requested") (amount_data voucher.requested) (
    member (codes "total") (amount_data voucher.total) no_members)))))
voucher_data None = object (member (codes "voucher") null no_members)

-- ---- the other answers

abbrev pub due_day_data : DueDay → Data
due_day_data due = object (member (codes "due") (day_data due.day) (member (codes "household") (number_data due.household) no_members))

abbrev pub targets_data : Admissions → Data
targets_data targets = object (
    member (codes "admitted") (number_data targets.admitted) (
    member (codes "expected") (number_data targets.expected) (
    member (codes "extremely_low") (number_data targets.extremely_low) (
    member (codes "first_day") (day_data targets.first_day) (
    member (codes "open") (boolean targets.opened) no_members)))))

-- ---- answers

abbrev pub answer_data : Answer → Data
answer_data (Answer.Household summary) = household_data summary
answer_data (Answer.Record r) = record_data r
answer_data (Answer.Next next) = object (member (codes "next") (or_null candidate_data next) no_members)
answer_data (Answer.Voucher voucher) = voucher_data voucher
answer_data (Answer.Paid paid) = object (member (codes "paid") (amount_data paid) no_members)
answer_data (Answer.Due due) = object (member (codes "due") (array_data due_day_data due) no_members)
answer_data (Answer.Targets targets) = targets_data targets

-- the text of an answer
abbrev pub answer_text : Answer → List ℕ
answer_text told = compact_text (answer_data told)
