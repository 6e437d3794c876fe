-- What holds of the rows that were answered so far, and how the rows end.
use Rattle.std.proofs.Common.{◌≡◌, ◌<◌, ◌+◌, ◌⊎◌, Err, inl, inr, ℕ, List, [], ◌∷◌, ◌++◌, None, Some, length, take, drop, get_or, map, refl, sym, ap, subst, ◌∙◌}
use Rattle.std.specs.{Prelude.Option, Prelude.All, Prelude.Contains, Io.KnownBytes.Appends, Io.KnownBytes.Keeps}
use Rattle.std.proofs.KnownBytes.{Appends-nil, Appends-kept}
use Rattle.std.proofs.lemmas.{List.map-append, List.map-id, List.take_more, List.take-append-drop, List.Elements.All-nil, List.Elements.All-push}
use Rattle.book_rows.specs.Book.{Book}
use Rattle.applicant_rows.specs.declared.row.ImportRow.{ImportRow}
use Rattle.batch_command.specs.Below.office_step.declared.call.Capacity.{Capacity}
use Rattle.batch_command.specs.{declared.ending.Ending.Ending, Line.AnswersLine, Line.IsMadeBy, Line.TellsLine, Output.Told, Output.output}
use Rattle.batch_command.proofs.More.{book-more, written-more, part_written}
use Rattle.import_command.specs.Rows.{GivenRow, told_of_row, rows_in, RowsRan, LeavesByRow}

-- these rows were answered
pub record SoFar (capacity : Capacity) (shows : ℕ → Type 0) (old new : Book) (held held_now : Option (List ℕ)) (answered : List ImportRow) : Type 0 where
  pub given : List GivenRow
  pub are : rows_in given ≡ answered
  pub shown : All (λ g. shows g.day) given
  pub book : new ≡ (output (told_of_row capacity) old given).book
  pub written : Appends held held_now (output (told_of_row capacity) old given).text

-- the row was answered on a day that the clock may show
abbrev pub AnsweredOn : (ℕ → Type 0) → Capacity → Book → Book → ImportRow → Option (List ℕ) → Option (List ℕ) → Option Ending → Type 0
AnsweredOn shows capacity mid new row held_mid held_now found =
    (day : ℕ) × shows day × AnswersLine (told_of_row capacity mid (record { row = row; day = day })) mid new held_mid held_now found

-- the rows that were given are a front of all
abbrev pub IsFront : List ImportRow → List ImportRow → Type 0
IsFront rows answered = (rest : List ImportRow) × (rows ≡ answered ++ rest)

front : (rows answered : List ImportRow) (count : ℕ) → answered ≡ take count rows → IsFront rows answered
front rows answered count is = (drop count rows, sym (ap (λ front. front ++ drop count rows) is ∙ take-append-drop count rows))

pub so_far : (rows yielded : List ImportRow) → map (λ row. row) yielded ≡ take (length yielded) rows → yielded ≡ take (length yielded) rows
so_far rows yielded is = sym (map-id yielded) ∙ is

one_more : (rows yielded : List ImportRow) (row : ImportRow) → yielded ≡ take (length yielded) rows → length yielded < length rows
    → row ≡ get_or rows (length yielded) row → yielded ++ row ∷ [] ≡ take (length yielded + 1) rows
one_more rows yielded row is inside there =
    ap (λ front. front ++ row ∷ []) is ∙ ap (λ next. take (length yielded) rows ++ next ∷ []) there ∙ sym (take_more rows (length yielded) row inside)

pub same_capacity : (shows : ℕ → Type 0) (capacity own : Capacity) (mid new : Book) (row : ImportRow) (held_mid held_now : Option (List ℕ)) (found : Option Ending)
    → own ≡ capacity → AnsweredOn shows own mid new row held_mid held_now found → AnsweredOn shows capacity mid new row held_mid held_now found
same_capacity shows capacity own mid new row held_mid held_now found is answered =
    subst (λ (k : Capacity). AnsweredOn shows k mid new row held_mid held_now found) is answered

keeps_itself : (known : Option (List ℕ)) → Keeps known known
keeps_itself None = tt
keeps_itself (Some bytes) = refl

-- nothing is written of a row that has no answer
pub unsaid : (told : Told) (old new : Book) (held : Option (List ℕ)) (end : Ending) → TellsLine told old new (Err end) → AnswersLine told old new held held (Some end)
unsaid told old new held Ending.StoreFault tells = (tells, keeps_itself held)
unsaid told old new held Ending.NoMemory tells = (tells, keeps_itself held)
unsaid told old new held Ending.Done tells = absurd tells
unsaid told old new held Ending.TooLong tells = absurd tells
unsaid told old new held Ending.ReadFault tells = absurd tells
unsaid told old new held Ending.WriteFault tells = absurd tells

abbrev with_row : List GivenRow → ImportRow → ℕ → List GivenRow
with_row given row day = given ++ record { row = row; day = day } ∷ []

are_more : (given : List GivenRow) (answered : List ImportRow) (row : ImportRow) (day : ℕ) → rows_in given ≡ answered → rows_in (with_row given row day) ≡ answered ++ row ∷ []
are_more given answered row day are = map-append (λ (g : GivenRow). g.row) given (record { row = row; day = day } ∷ []) ∙ ap (λ front. front ++ row ∷ []) are

shown_more : (shows : ℕ → Type 0) (given : List GivenRow) (row : ImportRow) (day : ℕ) → All (λ g. shows g.day) given → shows day → All (λ g. shows g.day) (with_row given row day)
shown_more shows given row day before shown = All-push (λ (g : GivenRow). shows g.day) given (record { row = row; day = day }) before shown

-- the row in work, where the office's capacity stays
pub by_row : (capacity own : Capacity) (shows : ℕ → Type 0) (rows : List ImportRow) (row : ImportRow) (now : Book) (after : Option Book) → own ≡ capacity → Contains rows row
    → (after ≡ Some now) ⊎ IsMadeBy shows own now (λ day. told_of_row own now (record { row = row; day = day })) after → LeavesByRow capacity shows rows now after
by_row capacity own shows rows row now after same inside (inl e) = inl e
by_row capacity own shows rows row now after same inside (inr made) =
    inr (row, inside, subst (λ (k : Capacity). IsMadeBy shows k now (λ day. told_of_row k now (record { row = row; day = day })) after) same made)

module _ {capacity : Capacity} {shows : ℕ → Type 0} {old : Book} {held : Option (List ℕ)} where
  pub start : SoFar capacity shows old old held held []
  start = record { given = []; are = refl; shown = All-nil _; book = refl; written = Appends-nil held }

  -- all rows were answered
  pub done : {rows answered : List ImportRow} {new : Book} {held_now : Option (List ℕ)} → SoFar capacity shows old new held held_now answered → answered ≡ rows
      → RowsRan capacity shows rows old new held held_now Ending.Done
  done before all = record { given = before.given; shown = before.shown; front = before.are ∙ all; book = before.book; writes = before.written }

  -- one row more
  module _ {mid new : Book} {held_mid held_now : Option (List ℕ)} {answered : List ImportRow} (before : SoFar capacity shows old mid held held_mid answered) (row : ImportRow) where
    pub goes_on : AnsweredOn shows capacity mid new row held_mid held_now None → SoFar capacity shows old new held held_now (answered ++ row ∷ [])
    goes_on (day, shown, answers) = record {
      given = with_row before.given row day;
      are = are_more before.given answered row day before.are;
      shown = shown_more shows before.given row day before.shown shown;
      book = book-more (told_of_row capacity) old mid new before.given (record { row = row; day = day }) before.book answers.0;
      written = written-more (told_of_row capacity) old mid held held_mid held_now before.given (record { row = row; day = day }) before.book before.written answers.1;
    }

    -- the rows end within it
    module _ (rows : List ImportRow) (is : answered ≡ take (length answered) rows) (inside : length answered < length rows) (there : row ≡ get_or rows (length answered) row) where
      pub ends_within : (end : Ending) → AnsweredOn shows capacity mid new row held_mid held_now (Some end) → RowsRan capacity shows rows old new held held_now end
      ends_within Ending.WriteFault (day, shown, answers) = record {
        given = with_row before.given row day;
        shown = shown_more shows before.given row day before.shown shown;
        front = front rows (rows_in (with_row before.given row day)) (length answered + 1) (are_more before.given answered row day before.are ∙ one_more rows answered row is inside there);
        book = book-more (told_of_row capacity) old mid new before.given (record { row = row; day = day }) before.book answers.0;
        writes = part_written (told_of_row capacity) old mid held held_mid held_now before.given (record { row = row; day = day }) before.book before.written answers.1;
      }
      ends_within Ending.StoreFault (day, shown, answers) = record {
        given = before.given;
        shown = before.shown;
        front = front rows (rows_in before.given) (length answered) (before.are ∙ is);
        book = answers.0 ∙ before.book;
        writes = Appends-kept held held_mid held_now _ before.written answers.1;
      }
      ends_within Ending.NoMemory (day, shown, answers) = by_book answers.0
        where
          by_book : (new ≡ mid) ⊎ (new ≡ (told_of_row capacity mid (record { row = row; day = day })).book) → RowsRan capacity shows rows old new held held_now Ending.NoMemory
          by_book (inl same) = record {
            given = before.given;
            shown = before.shown;
            front = front rows (rows_in before.given) (length answered) (before.are ∙ is);
            book = same ∙ before.book;
            writes = inl (Appends-kept held held_mid held_now _ before.written answers.1);
          }
          by_book (inr moved) = record {
            given = with_row before.given row day;
            shown = shown_more shows before.given row day before.shown shown;
            front = front rows (rows_in (with_row before.given row day)) (length answered + 1) (are_more before.given answered row day before.are ∙ one_more rows answered row is inside there);
            book = book-more (told_of_row capacity) old mid new before.given (record { row = row; day = day }) before.book moved;
            writes = inr (record {
              before = before.given;
              last = record { row = row; day = day };
              ends = refl;
              written = Appends-kept held held_mid held_now _ before.written answers.1;
            });
          }
      ends_within Ending.Done (day, shown, answers) = absurd answers
      ends_within Ending.TooLong (day, shown, answers) = absurd answers
      ends_within Ending.ReadFault (day, shown, answers) = absurd answers
