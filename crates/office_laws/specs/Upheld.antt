-- What every book of an office upholds, of all that it holds.
use Rattle.std.specs.Prelude.{◌≡◌, ◌≢◌, ◌↔◌, ◌≤◌, ◌<◌, ◌+◌, ◌-ℤ◌, ⊤, ℕ, pos, Some, IfSome, List, length, slice_index_or, filter_map, All, Contains}
use Rattle.days_core.specs.Calendar.{first_of, last_of}
use Rattle.record_history.specs.{declared.records.Record.Record, Law.CountsOn, Law.IsInForceOn}
use Rattle.voucher_core.specs.{declared.line.Line.Line, Lines.paid, Naming.shares_of}
use Rattle.book_rows.specs.{declared.rows.ActRow.ActRow, declared.command.Command.Command, Book.Book, Book.appended}
use Rattle.command_forms.specs.Commands.{command_in}
use Rattle.office_step.specs.{declared.call.Call.Call, declared.call.Capacity.Capacity, declared.known.Closed.Closed, declared.known.Request.Request, Acts.acts_of, Acts.closing_of, Candidates.request_in, Known.Known, Known.known_of, Known.own_in, Made.last_close, Reply.done_of, plain.Replies.TellsRecord, Step.step, Step.again, Step.IsReached}
use Rattle.office_laws.specs.{Allowed.IsAllowed, Closing.HasItsRents, Conserved.due_for, InPlace.book_before, InPlace.rows_by, InPlace.OfEachAct, Replies.IsOf, Requests.SaidLast, Taken.TakesNext, Tenancy.IsInOrder, Tenancy.AreApart, Terms.MeetsTerms, Certifies.CertifiesRightly, Waiting.ThoseWaitWhoApplied}

-- ---- lines

-- the act of that number closes the month
pub record Closes (book : Book) (n month : ℕ) : Type 0 where
  pub row : ActRow
  pub there : Contains book.acts row
  pub is : row.n ≡ n
  pub reads : command_in row.body ≡ Some (Command.Close (record { month = month }))

-- it is the number of the record in force on the day, of those that the acts up to that one made, and 0 where none is
pub record IsOfInForce (own : List Record) (act day number : ℕ) : Type 0 where
  pub some : (r : Record) → IsInForceOn (λ other. Contains own other × (other.act ≤ act)) day r → number ≡ r.number
  pub none : ((r : Record) → ¬ CountsOn (λ other. Contains own other × (other.act ≤ act)) day r) → number ≡ 0

-- A line is of a closing of its month, and of days of the month for which it pays. On each of them its new record is in force
-- as of its closing, and its old one was as of the closing before, where it pays for an earlier month; for the closed month
-- it names no old one. It amounts to the new record's shares of these days less those of the old one, and isn't for 0.
pub record NamesItsRecords (book : Book) (l : Line) : Type 0 where
  pub closing : Closes book l.act l.month
  pub months : l.for_month ≤ l.month
  pub from : first_of l.for_month ≤ l.first
  pub in_order : l.first ≤ l.last
  pub to : l.last ≤ last_of l.for_month
  pub new : (day : ℕ) → l.first ≤ day → day ≤ l.last → IsOfInForce (own_in (known_of book) l.household) l.act day l.new
  pub old : l.for_month < l.month → (day : ℕ) → l.first ≤ day → day ≤ l.last →
      IsOfInForce (own_in (known_of book) l.household) (last_close (known_of (book_before book l.act))) day l.old
  pub none_before : l.for_month ≡ l.month → l.old ≡ 0
  pub amount : l.amount ≡ pos (shares_of (own_in (known_of book) l.household) l.new l) -ℤ pos (shares_of (own_in (known_of book) l.household) l.old l)
  pub not_for_nothing : l.amount ≢ pos 0

-- ---- closings

-- the closings of a book, in their order
abbrev pub closings_of : Book → List Closed
closings_of book = filter_map closing_of (acts_of book.acts)

-- they close one month after another, from that one on
abbrev pub FollowFrom : ℕ → List Closed → Type 0
FollowFrom first closings = (place : ℕ) (d : Closed) → place < length closings → (slice_index_or closings place d).month ≡ first + place

-- a closing is made when every record in force has its unit's rents
abbrev pub HasRentsDone : Known → Command → Type 0
HasRentsDone known (Command.Close close) = IfSome known.plan (HasItsRents known close.month)
HasRentsDone known _ = ⊤

-- ---- replies

-- the call of an act gets the reply that the act got when it was appended, in any session and on any day
abbrev pub AnswersAgain : Capacity → Book → ActRow → Type 0
AnswersAgain capacity book row =
    (call : Call) → IsOf call row → (session clock : ℕ) →
    step book capacity session clock call ≡ again (done_of (appended (book_before book row.n) (rows_by book row)) row)

-- ---- the book

pub record IsUpheld (capacity : Capacity) (book : Book) : Type 0 where
  -- the lines of every household and month total what is certified for it as of the last closing
  pub total : (household month : ℕ) → 1 ≤ household →
      paid household month book.lines ≡ pos (due_for (known_of book).plan (known_of book).closing (own_in (known_of book) household) month)
  pub named : All (NamesItsRecords book) book.lines
  pub closings : IfSome (known_of book).plan (λ plan. FollowFrom plan.first (closings_of book))
  pub rents : OfEachAct book (λ known rows asked. HasRentsDone known asked)
  pub order : All IsInOrder (known_of book).households
  pub apart : AreApart (known_of book)
  -- what is known of a household's request is what it said last
  pub requests : (household : ℕ) (request : Request) → (request_in (known_of book).requests household ≡ Some request) ↔ SaidLast book household request
  pub next : OfEachAct book (λ known rows asked. TakesNext known asked)
  pub allowed : OfEachAct book (IsAllowed capacity.acts)
  pub terms : OfEachAct book MeetsTerms
  pub certified : OfEachAct book CertifiesRightly
  pub waiting : ThoseWaitWhoApplied book
  pub replies : (row : ActRow) → Contains book.acts row → AnswersAgain capacity book row
  -- the reply to an act tells what its record certifies
  pub told : (row : ActRow) (r : Record) → Contains book.acts row → Contains book.records r → r.act ≡ row.n → TellsRecord r (done_of book row).made

abbrev pub BooksAreUpheld : Type 0
BooksAreUpheld = (capacity : Capacity) (book : Book) → IsReached capacity book → IsUpheld capacity book
