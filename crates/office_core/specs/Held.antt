-- A book to which a call is new, by what is known of it and how much it holds.
use Rattle.std.specs.Prelude.{◌≡◌, None, length, find}
use Rattle.book_rows.specs.Book.{Book}
use Rattle.office_answers.specs.Below.office_step.{declared.call.Call.Call, Known.Known, Known.known_of, Refusals.is_request_of, Step.last_act_day, Step.IsReached}
use Rattle.office_core.specs.declared.drafting.BookLimits.{BookLimits}

-- an office of that capacity comes to it, by it that is known, that is the day of its last act, it has so many lines, and
-- none of its acts is of the call's clerk and request
pub record IsNewTo (known : Known) (held : BookLimits) (call : Call) (book : Book) : Type 0 where
  pub reached : IsReached held.capacity book
  pub known_is : known ≡ known_of book
  pub last : held.last ≡ last_act_day book.acts
  pub lines : held.lines ≡ length book.lines
  pub is_new : find (is_request_of call.clerk call.request) book.acts ≡ None
