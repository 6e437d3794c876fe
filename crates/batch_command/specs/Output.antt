-- What a batch writes and what it makes of a book, line after line.
use Rattle.std.specs.Prelude.{ℕ, ◌||◌, if◌then◌else◌, Bool, unwrap_or, List, [], ◌∷◌, ◌++◌, Result, Ok, Err, fold, bytes_eq}
use Rattle.book_rows.specs.Book.{Book}
use Rattle.clerk_desk.specs.Below.office_step.{declared.call.Capacity.Capacity, declared.refusal.Refusal.Refusal, Step.Outcome, Step.step}
use Rattle.clerk_desk.specs.{Below.office_answers.declared.answer.Answer.Answer, Below.office_answers.Answering.answer_to, Below.office_answers.declared.reply.Reply.Reply, Serving.reply_of, Serving.book_after}
use Rattle.json_front.specs.{declared.line.BatchLine.BatchLine, Lines.line_from}
use Rattle.reply_text.specs.{Replies.reply_text, Replies.bad_form_text, Answers.answer_text}

-- a line of the input, and the day that the clock showed for it
pub record Given : Type 0 where
  pub line : List ℕ
  pub day : ℕ

-- what was written, and the book
pub record Told : Type 0 where
  pub text : List ℕ
  pub book : Book

-- every act of a batch has this session
abbrev pub session : ℕ
session = 1

-- an empty line, or one of a single carriage return, is passed over
abbrev pub is_passed_over : List ℕ → Bool
is_passed_over line = bytes_eq line [] || bytes_eq line (13 ∷ [])

abbrev pub line_end : List ℕ
line_end = 10 ∷ []

-- ---- one line

-- a call: the office's reply, and the book after it
abbrev pub told_of_call : Book → Outcome → Told
told_of_call book outcome = record { text = reply_text (reply_of book outcome) ++ line_end; book = book_after book outcome }

-- a question: the answer, or why there is none
abbrev pub answered_text : Result Answer Refusal → List ℕ
answered_text (Ok answer) = answer_text answer
answered_text (Err refusal) = reply_text (Reply.Refused refusal)

-- by what the line is read as; the line's own day takes the place of the clock's
abbrev pub told_by : Capacity → Book → ℕ → Result BatchLine (List ℕ) → Told
told_by capacity book day (Ok (BatchLine.Act today call)) = told_of_call book (step book capacity session (unwrap_or today day) call)
told_by capacity book day (Ok (BatchLine.Ask question)) = record { text = answered_text (answer_to book question) ++ line_end; book = book }
told_by capacity book day (Err path) = record { text = bad_form_text path ++ line_end; book = book }

-- what a line is answered with, and the book after it
abbrev pub told_of : Capacity → Book → Given → Told
told_of capacity book given =
    if is_passed_over given.line then record { text = []; book = book } else told_by capacity book given.day (line_from given.line)

-- ---- all inputs, be they lines or rows

-- and then one more
abbrev pub one_more : {X : Type 0} → (Book → X → Told) → Told → X → Told
one_more told earlier input = record { text = earlier.text ++ (told earlier.book input).text; book = (told earlier.book input).book }

-- what inputs are answered with, one after another, and the book after them
abbrev pub output : {X : Type 0} → (Book → X → Told) → Book → List X → Told
output told book inputs = fold (one_more told) (record { text = []; book = book }) inputs

-- what the lines are answered with, and the book after them
abbrev pub batch_output : Capacity → Book → List Given → Told
batch_output capacity book given = output (told_of capacity) book given
