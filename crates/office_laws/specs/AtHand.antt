-- What an office may answer from what it has at hand, without going over its acts again.
use Rattle.std.specs.Prelude.{◌≡◌, ◌≤◌, ◌<◌, ◌⊎◌, ℕ, ◌+◌, nat_le, true, false, Some, None, List, length, filter, find, All, AllPairs, Contains, IfSome, bytes_eq}
use Rattle.std.specs.Option.{option_map_or}
use Rattle.rent_table.specs.Table.{unit_named}
use Rattle.book_rows.specs.{declared.property.UnitAct.UnitAct, declared.rows.ActRow.ActRow, declared.rows.Batch.Batch, declared.command.Command.Command, Book.Book, Book.appended}
use Rattle.voucher_core.specs.declared.line.Line.{Line}
use Rattle.command_forms.specs.Commands.{command_in}
use Rattle.days_core.specs.OfficeDays.{last_office_day}
use Rattle.office_step.specs.{declared.call.Capacity.Capacity, declared.reply.Done.Done, declared.reply.Made.Made, Acts.units_of, Acts.applications_of, Known.Known, Known.known_of, Made.record_of, Refusals.is_request_of, Refusals.repeated, Refusals.request_reused, Against.refused_by, declared.refusal.Refusal.Refusal}
use Rattle.office_step.specs.Reply.{acts_up_to, certified, closed, done_of}
use Rattle.office_step.specs.Step.{last_act_day, act_day, IsAppended, IsReached}
use Rattle.record_history.specs.Limits.{most_acts, most_lines}

-- ---- requests

-- where no act is of the clerk and request, nothing is repeated or used again
abbrev pub NewRequests : Type 0
NewRequests = (capacity : Capacity) (book : Book) → IsReached capacity book → (clerk request : ℕ) (body : List ℕ) →
    find (is_request_of clerk request) book.acts ≡ None →
    (repeated book.acts clerk request body ≡ None) × (request_reused book.acts clerk request body ≡ None)

-- where an act is, its command is repeated
abbrev pub RepeatedRequests : Type 0
RepeatedRequests = (capacity : Capacity) (book : Book) → IsReached capacity book → (clerk request : ℕ) (body : List ℕ) (row : ActRow) →
    find (is_request_of clerk request) book.acts ≡ Some row → bytes_eq row.body body ≡ true →
    repeated book.acts clerk request body ≡ Some row

-- and with another command its request is used again
abbrev pub ReusedRequests : Type 0
ReusedRequests = (capacity : Capacity) (book : Book) → IsReached capacity book → (clerk request : ℕ) (body : List ℕ) (row : ActRow) →
    find (is_request_of clerk request) book.acts ≡ Some row → bytes_eq row.body body ≡ false →
    (repeated book.acts clerk request body ≡ None) × (request_reused book.acts clerk request body ≡ Some (Refusal.RequestReused row.n))

-- ---- the reply to a new act

-- what an act of that command made, by what was known before it and by its rows
abbrev pub made_now : Known → Batch → Command → Made
made_now known rows (Command.Unit unit) = Made.Unit (length known.units + 1)
made_now known rows (Command.Apply apply) = Made.Applicant (length known.applications + 1)
made_now known rows (Command.Close close) = closed rows.lines close.month
made_now known rows asked = option_map_or certified rows.made Made.Nothing

abbrev pub done_now : Known → Batch → Command → Done
done_now known rows asked = record { act = rows.act.n; day = rows.act.day; made = made_now known rows asked }

-- the reply to the act whose rows are appended
abbrev pub NewReplies : Type 0
NewReplies = (capacity : Capacity) (book : Book) (rows : Batch) → IsReached capacity book → (appends : IsAppended capacity book rows) →
    done_of (appended book rows) rows.act ≡ done_now (known_of book) rows appends.call.command

-- ---- the reply to an act of the book

-- as many units as there were after the act is the number of the unit of its name
abbrev pub UnitReplies : Type 0
UnitReplies = (capacity : Capacity) (book : Book) → IsReached capacity book → (row : ActRow) → Contains book.acts row →
    (unit : UnitAct) → command_in row.body ≡ Some (Command.Unit unit) →
    unit_named (known_of book).units unit.name ≡ Some (length (units_of (acts_up_to book row.n)))

-- as many had applied after the act as the applications of acts up to it
abbrev pub ApplicantReplies : Type 0
ApplicantReplies = (capacity : Capacity) (book : Book) → IsReached capacity book → (n : ℕ) →
    length (applications_of (acts_up_to book n)) ≡ length (filter (λ application. nat_le application.act n) (known_of book).applications)

-- and each application is of a later act than those before it
abbrev pub ApplicationsRise : Type 0
ApplicationsRise = (capacity : Capacity) (book : Book) → IsReached capacity book →
    AllPairs (λ application next. application.act < next.act) (known_of book).applications

-- ---- days

-- no act is of a later day than 2099-12-31
abbrev pub LastDayIsLived : Type 0
LastDayIsLived = (capacity : Capacity) (book : Book) → IsReached capacity book → last_act_day book.acts ≤ last_office_day

-- nor is the next act
abbrev pub NextDayIsLived : Type 0
NextDayIsLived = (capacity : Capacity) (book : Book) → IsReached capacity book → (clock : ℕ) → act_day book.acts clock ≤ last_office_day

-- whose day is that of a clock that shows this day
abbrev pub NextDayStays : Type 0
NextDayStays = (capacity : Capacity) (book : Book) → IsReached capacity book → (clock : ℕ) →
    act_day book.acts (act_day book.acts clock) ≡ act_day book.acts clock

-- ---- lines

-- A line stands before another: its closing is earlier. Or that is the same, and the month for which it pays is earlier. Or
-- both are the same, and its household has no greater number.
abbrev pub StandsBefore : Line → Line → Type 0
StandsBefore line next =
    (line.month < next.month)
    ⊎ ((line.month ≡ next.month) × ((line.for_month < next.for_month) ⊎ ((line.for_month ≡ next.for_month) × (line.household ≤ next.household))))

abbrev pub StandInOrder : List Line → Type 0
StandInOrder lines = AllPairs StandsBefore lines

-- the lines of a book stand by closing, month and household
abbrev pub LinesStandInOrder : Type 0
LinesStandInOrder = (capacity : Capacity) (book : Book) → IsReached capacity book → StandInOrder book.lines

-- and their households have no greater numbers than there are acts
abbrev pub LinesNameHouseholds : Type 0
LinesNameHouseholds = (capacity : Capacity) (book : Book) → IsReached capacity book → All (λ line. line.household ≤ length book.acts) book.lines

-- ---- what comes next

-- the record of an act that isn't refused is of a household that is there, or of the one that comes next
abbrev pub NextRecords : Type 0
NextRecords = (known : Known) (most today : ℕ) (asked : Command) → refused_by known most today asked ≡ None →
    IfSome (record_of known asked) (λ r. (1 ≤ r.household) × (r.household ≤ length known.households + 1))

-- ---- room

-- within a capacity of 100,000 acts a book has no more
abbrev pub ActsAreWithinRoom : Type 0
ActsAreWithinRoom = (capacity : Capacity) (book : Book) → IsReached capacity book → capacity.acts ≤ most_acts → length book.acts ≤ most_acts

-- and within one of 4,000,000 lines no more of these
abbrev pub LinesAreWithinRoom : Type 0
LinesAreWithinRoom = (capacity : Capacity) (book : Book) → IsReached capacity book → capacity.lines ≤ most_lines → length book.lines ≤ most_lines
