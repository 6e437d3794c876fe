-- An office's own tables: each act that is done again appends the rows that are there.
use Rattle.book_replay.proofs.Words.{◌≡◌, ◌∙◌, sym, ap, refl, ℕ, ◌+◌, ◌≤◌, ◌==◌, arith, true, List, [], ◌∷◌, ◌++◌, Option, Some, None, length, option_and_then, option_to_list, append_assoc, All, option_or, option_map, option_eq, pointwise, pointwise_decides, eq-eqb, append-nil, length_push, All-nil, All-append, Record, Line, ActRow, Batch, Book, IsBatch, IsBefore, empty_book, appended, same_dates, same_act, same_record, same_line, record_equal, line_equal, Call, Capacity, step, IsAppended, IsReached, reached_empty, reached_more, fault_in, call_of, rows_in, replayed, difference, records_by, lines_by, fault_from, Accepted, AppendedIsAccepted, ReachedIsValid, All-IfSome, common_steps, Decides-int_eq}
use Rattle.std.specs.Cmp.{booleans_Decides}
use Rattle.std.proofs.lemmas.Slice.Eq.{bytes_eq-Decides}
use Rattle.record_history.specs.declared.records.Dates.{Dates}
use Rattle.book_rows.specs.declared.rows.Table.{Table}
use Rattle.office_laws.specs.Kept.{Kept, BooksAreKept, BatchesFollow}
use Rattle.book_replay.proofs.InPlace.{in_place}
use Rattle.list_laws.proofs.ByNumber.{filter_earlier, filter_last}

-- ---- a row is the same as itself

number_itself : (n : ℕ) → (n == n) ≡ true
number_itself n = eq-eqb n n refl

act_itself : (a : ActRow) → same_act a a ≡ true
act_itself a = simp (number_itself, (bytes_eq-Decides a.body a.body).1 refl)

dates_themselves : (dates : Option Dates) → option_eq same_dates dates dates ≡ true
dates_themselves None = refl
dates_themselves (Some dates) = simp number_itself

record_itself : (r : Record) → same_record r r ≡ true
record_itself r = simp (number_itself, (booleans_Decides r.extremely r.extremely).1 refl, dates_themselves)

line_itself : (line : Line) → same_line line line ≡ true
line_itself line = simp (number_itself, (Decides-int_eq line.amount line.amount).1 refl)

pub records_decide : (a b : Record) → (same_record a b ≡ true → a ≡ b) × (a ≡ b → same_record a b ≡ true)
records_decide a b = (record_equal a b, λ is. rw (← is) (record_itself a))

pub lines_decide : (a b : Line) → (same_line a b ≡ true → a ≡ b) × (a ≡ b → same_line a b ≡ true)
lines_decide a b = (line_equal a b, λ is. rw (← is) (line_itself a))

-- ---- one act

-- the tables have the book's own rows of each of its acts
record HasRows (tables book : Book) : Type 0 where
  records : (k : ℕ) → k ≤ length book.acts → records_by k tables.records ≡ records_by k book.records
  lines : (k : ℕ) → k ≤ length book.acts → lines_by k tables.lines ≡ lines_by k book.lines

module _ (accepted : AppendedIsAccepted) (follow : BatchesFollow) (capacity : Capacity) (tables book : Book) (rows : Batch)
    (reached : IsReached capacity book) (more : IsAppended capacity book rows) where
  is : Accepted capacity book more.call rows
  is = accepted capacity book rows more

  own : IsBatch rows
  own = (follow capacity book rows reached more).0

  earlier : IsBefore book rows.act.n
  earlier = (follow capacity book rows reached more).1

  own_records : All (λ r. r.act ≡ rows.act.n) (option_to_list rows.made)
  own_records = All-IfSome (λ r. r.act ≡ rows.act.n) rows.made own.made

  has_before : HasRows tables (appended book rows) → HasRows tables book
  has_before has = record {
    records = λ k within. has.records k (omega (arith, within, length_push book.acts rows.act))
        ∙ filter_earlier (λ (r : Record). r.act) k rows.act.n book.records (option_to_list rows.made) (omega (arith, within, is.n)) own_records;
    lines = λ k within. has.lines k (omega (arith, within, length_push book.acts rows.act))
        ∙ filter_earlier (λ (line : Line). line.act) k rows.act.n book.lines rows.lines (omega (arith, within, is.n)) own.lines;
  }

  same_rows : HasRows tables (appended book rows) → difference tables rows.act (Some rows) ≡ None
  same_rows has = grind (arith, common_steps, act_itself rows.act, same_made, same_lines)
    where
      last : rows.act.n ≤ length (appended book rows).acts
      last = omega (arith, length_push book.acts rows.act, is.n)

      same_made : pointwise same_record (option_to_list rows.made) (records_by rows.act.n tables.records) ≡ true
      same_made =
          (pointwise_decides records_decide (option_to_list rows.made) (records_by rows.act.n tables.records)).1
          (sym (has.records rows.act.n last ∙ filter_last (λ (r : Record). r.act) rows.act.n book.records (option_to_list rows.made) earlier.records own_records))

      same_lines : pointwise same_line rows.lines (lines_by rows.act.n tables.lines) ≡ true
      same_lines =
          (pointwise_decides lines_decide rows.lines (lines_by rows.act.n tables.lines)).1
          (sym (has.lines rows.act.n last ∙ filter_last (λ (line : Line). line.act) rows.act.n book.lines rows.lines earlier.lines own.lines))

  call_is : call_of rows.act ≡ Some more.call
  call_is = rw (more.read, is.clerk, is.request, more.fit) refl

  done_again : replayed capacity book rows.act ≡ Some rows
  done_again =
      ap (option_and_then (λ (call : Call). rows_in (step book capacity rows.act.session rows.act.day call))) call_is
      ∙ ap rows_in more.same

-- ---- all acts

module _ (accepted : AppendedIsAccepted) (follow : BatchesFollow) (capacity : Capacity) (tables : Book) where
  fault_through : (book : Book) → IsReached capacity book → (rest : List ActRow) → HasRows tables book →
      fault_from capacity tables empty_book (book.acts ++ rest) ≡ fault_from capacity tables book rest
  fault_through _ reached_empty rest has = refl
  fault_through _ (reached_more {book} {rows} reached more) rest has =
      ap (fault_from capacity tables empty_book) (append_assoc book.acts (rows.act ∷ []) rest)
      ∙ fault_through book reached (rows.act ∷ rest) (has_before accepted follow capacity tables book rows reached more has)
      ∙ rw (done_again accepted follow capacity tables book rows reached more, same_rows accepted follow capacity tables book rows reached more has) refl

-- every record and line is of an act from 1
record FromOne (book : Book) : Type 0 where
  records : All (λ r. 1 ≤ r.act) book.records
  lines : All (λ line. 1 ≤ line.act) book.lines

from_one : AppendedIsAccepted → BatchesFollow → (capacity : Capacity) (book : Book) → IsReached capacity book → FromOne book
from_one accepted follow capacity _ reached_empty = record { records = All-nil (λ r. 1 ≤ r.act); lines = All-nil (λ line. 1 ≤ line.act) }
from_one accepted follow capacity _ (reached_more {book} {rows} reached more) =
    let so_far : FromOne book = from_one accepted follow capacity book reached in
    let n : rows.act.n ≡ length book.acts + 1 = (accepted capacity book rows more).n in
    let own : IsBatch rows = (follow capacity book rows reached more).0 in
    record {
      records = All-append (λ r. 1 ≤ r.act) book.records (option_to_list rows.made) so_far.records
          (λ k d within. omega (arith, n, All-IfSome (λ r. r.act ≡ rows.act.n) rows.made own.made k d within));
      lines = All-append (λ line. 1 ≤ line.act) book.lines rows.lines so_far.lines
          (λ k d within. omega (arith, n, own.lines k d within));
    }

no_stray : (count : ℕ) (records lines : Option ℕ) → records ≡ None → lines ≡ None →
    option_or (option_map (fault_in Table.Records) records) (option_map (fault_in Table.Lines) lines) ≡ None
no_stray count records lines none also = grind (arith, common_steps, none, also)

pub reached_is_valid : AppendedIsAccepted → BatchesFollow → BooksAreKept → ReachedIsValid
reached_is_valid accepted follow are_kept capacity book reached =
    let kept : Kept capacity book = are_kept capacity book reached in
    let ones : FromOne book = from_one accepted follow capacity book reached in
    ap (fault_from capacity book empty_book) (sym (append-nil book.acts))
    ∙ fault_through accepted follow capacity book book reached [] (record { records = λ k within. refl; lines = λ k within. refl })
    ∙ no_stray (length book.acts) _ _
    (in_place (λ (r : Record). r.act) (length book.acts) 0 book.records (λ k d within. omega arith) ones.records kept.made.of_records
    (λ i j d before within. (let less = kept.made.records_rise i j d before within in omega (arith, less))))
    (in_place (λ (line : Line). line.act) (length book.acts) 0 book.lines (λ k d within. omega arith) ones.lines kept.made.of_lines kept.made.lines_rise)
