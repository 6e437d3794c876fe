-- After any acts the lines total what was certified at the last closing.
use Rattle.std.specs.Prelude.{◌≡◌, ◌≤◌, ℕ, ◌+◌, ◌&&◌, nat_le, if◌then◌else◌, pos, Option, Some, None, List, []}
use Rattle.record_history.specs.{declared.records.Record.Record, Records.as_of}
use Rattle.rent_table.specs.declared.plan.Plan.{Plan}
use Rattle.voucher_core.specs.{declared.line.Line.Line, Certified.certified_amount, Lines.paid, Law.Span, Law.IsSettled}
use Rattle.book_rows.specs.Book.{Book}
use Rattle.office_step.specs.{declared.call.Capacity.Capacity, declared.known.Closed.Closed, Known.known_of, Known.own_in, Step.IsReached}

-- the months from the plan's first through the closed one, as of the closing
abbrev pub span_of : Plan → Closed → Span
span_of plan closing = record { first_month = plan.first; next = closing.month + 1; act = closing.act }

-- before the first closing there is no line; after a closing the lines pay each household for each month, from the plan's
-- first through the closed one, what it was certified for as of the closing, and nothing for another month
abbrev pub AreSettled : Option Plan → Option Closed → (ℕ → List Record) → List Line → Type 0
AreSettled plan None own lines = lines ≡ []
AreSettled None (Some closing) own lines = ⊥
AreSettled (Some plan) (Some closing) own lines = (plan.first ≤ closing.month) × IsSettled own (span_of plan closing) lines

abbrev pub LinesAreSettled : Type 0
LinesAreSettled = (capacity : Capacity) (book : Book) → IsReached capacity book →
    AreSettled (known_of book).plan (known_of book).closing (own_in (known_of book)) book.lines

-- what is due to a household with these records for a month, by the plan and the last closing
abbrev pub due_for : Option Plan → Option Closed → List Record → ℕ → ℕ
due_for (Some plan) (Some closing) own month =
    if nat_le plan.first month && nat_le month closing.month then certified_amount (as_of closing.act own) month else 0
due_for _ _ own month = 0

-- the lines of every household and month total just that
abbrev pub LinesTotalWhatIsDue : Type 0
LinesTotalWhatIsDue = (capacity : Capacity) (book : Book) → IsReached capacity book → (household month : ℕ) → 1 ≤ household →
    paid household month book.lines ≡ pos (due_for (known_of book).plan (known_of book).closing (own_in (known_of book) household) month)
