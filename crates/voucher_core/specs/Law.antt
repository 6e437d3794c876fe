-- What closings keep: the lines total what is certified, and each line names its records.
use Rattle.std.specs.Prelude.{ℕ, ◌+◌, ◌⊎◌, ◌<◌, ◌≤◌, ◌≡◌, true, pos, ◌+ℤ◌, List, [], ◌∷◌, ◌++◌, All}
use Rattle.record_history.specs.{declared.records.Record.Record, Records.as_of}
use Rattle.voucher_core.specs.{declared.closing.Closing.Closing, declared.line.Line.Line, Certified.certified_amount, Lines.is_first, Lines.closing_lines, Lines.placed, Lines.paid}

-- The months from the first to the one before the next, and the act as of which they are paid.
pub record Span : Type 0 where
  pub first_month : ℕ
  pub next : ℕ
  pub act : ℕ

-- The lines pay each household for each month of the span what it was certified for as of its act, and nothing for any
-- other month.
pub record IsSettled (own : ℕ → List Record) (span : Span) (lines : List Line) : Type 0 where
  pub months : (household month : ℕ) → 1 ≤ household → span.first_month ≤ month → month < span.next →
      paid household month lines ≡ pos (certified_amount (as_of span.act (own household)) month)
  pub earlier : All (λ l. span.first_month ≤ l.for_month) lines
  pub later : All (λ l. l.for_month < span.next) lines

-- up to the month that is closed, as of the last closing
abbrev pub span_before : Closing → Span
span_before closing = record { first_month = closing.first_month; next = closing.closed; act = closing.last_close }

-- through that month, as of this act
abbrev pub span_after : Closing → Span
span_after closing = record { first_month = closing.first_month; next = closing.closed + 1; act = closing.act }

-- The law of one closing: where the lines were settled up to the closed month as of the last closing, they are settled
-- through it as of this act once the lines of this closing stand after them.
abbrev pub ClosingSettles : Type 0
ClosingSettles = (own : ℕ → List Record) (count : ℕ) (closing : Closing) (place : ℕ) (lines : List Line) →
    ((household : ℕ) → count < household → own household ≡ []) →
    closing.first_month ≤ closing.closed →
    (is_first closing ≡ true → closing.closed ≡ closing.first_month) →
    IsSettled own (span_before closing) lines →
    IsSettled own (span_after closing) (lines ++ placed place (closing_lines own count closing))

-- What lines pay for a household and month is the sum of the amounts of those that are for both: without a line it is 0, and
-- one line more pays its amount for its own household and month, and nothing for any other.
pub record PaidIsTheSum : Type 0 where
  pub of_none : (household month : ℕ) → paid household month [] ≡ pos 0
  pub of_its_own : (lines : List Line) (l : Line) → paid l.household l.for_month (lines ++ l ∷ []) ≡ paid l.household l.for_month lines +ℤ l.amount
  pub of_others : (household month : ℕ) (lines : List Line) (l : Line) → ¬ ((l.household ≡ household) × (l.for_month ≡ month)) →
      paid household month (lines ++ l ∷ []) ≡ paid household month lines

-- Before any closing no line is wanted.
abbrev pub NothingIsSettled : Type 0
NothingIsSettled = (own : ℕ → List Record) (first_month act : ℕ) →
    IsSettled own (record { first_month = first_month; next = first_month; act = act }) []

-- Settled lines pay nothing for a month before the first or after those that were closed.
abbrev pub SettledPaysNoOther : Type 0
SettledPaysNoOther = (own : ℕ → List Record) (span : Span) (lines : List Line) (household month : ℕ) →
    IsSettled own span lines →
    (month < span.first_month) ⊎ (span.next ≤ month) →
    paid household month lines ≡ pos 0

-- later acts leave what a household was certified for as of an act
abbrev pub CertifiedStays : Type 0
CertifiedStays = (records more : List Record) (act month : ℕ) →
    All (λ r. act < r.act) more → certified_amount (as_of act (records ++ more)) month ≡ certified_amount (as_of act records) month

-- so lines that are settled stay so while later acts add records
abbrev pub SettledStays : Type 0
SettledStays = (own more : ℕ → List Record) (span : Span) (lines : List Line) →
    ((household : ℕ) → All (λ r. span.act < r.act) (more household)) →
    IsSettled own span lines →
    IsSettled (λ h. own h ++ more h) span lines
