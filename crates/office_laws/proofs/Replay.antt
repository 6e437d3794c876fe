-- A book is what its acts give when they are done again.
use Rattle.office_laws.proofs.Words.{common_steps, arith, ◌≡◌, ◌∙◌, sym, ap, refl, ℕ, List, [], ◌∷◌, Some, bytes_eq, bytes_decides, option_and_then_some, fold-append, Batch, Book, empty_book, Command, body_of, only_own, command_from, command_in, Call, Outcome, appends, step, act_day, rows_for, is_fit_call, reached_empty, reached_more, Accepted, cond_some}
use Rattle.office_step.specs.Valid.{call_of, rows_in, with_rows}
use Rattle.office_laws.specs.Replay.{after_row, ActsGiveTheBook, AppendedIsReplayed, ReplayedIsAppended, RowsAreOfTheSession}
use Rattle.office_laws.proofs.Inversion.{accepted, appended_again, not_refused}

pub appended_is_replayed : AppendedIsReplayed
appended_is_replayed capacity book rows now =
    let is : Accepted capacity book now.call rows = accepted capacity book rows now in
    let call : call_of rows.act ≡ Some now.call = rw (now.read, is.clerk, is.request, now.fit) refl in
    rw call (ap rows_in now.same)

pub acts_give_the_book : ActsGiveTheBook
acts_give_the_book capacity _ reached_empty = refl
acts_give_the_book capacity _ (reached_more {book} {rows} reached now) =
    fold-append (after_row capacity) empty_book book.acts (rows.act ∷ [])
    ∙ ap (λ (so_far : Book). after_row capacity so_far rows.act) (acts_give_the_book capacity book reached)
    ∙ ap (with_rows book) (appended_is_replayed capacity book rows now)

rows_appended : (outcome : Outcome) (rows : Batch) → rows_in outcome ≡ Some rows → outcome ≡ appends rows
rows_appended outcome rows is = grind (arith, common_steps, is)

-- a body that reads as a command is that command's
own_body : (body : List ℕ) (asked : Command) → command_in body ≡ Some asked → body_of asked ≡ body
own_body body asked is =
    option_and_then_some (only_own body) (command_from body) asked is (λ found read own.
    (let both = cond_some (bytes_eq (body_of found) body) found asked own in
    rw (← both.1) ((bytes_decides (body_of found) body).0 both.0)))

pub replayed_is_appended : ReplayedIsAppended
replayed_is_appended capacity book row rows is =
    option_and_then_some (λ call. rows_in (step book capacity row.session row.day call)) (call_of row) rows is (λ call is_call found.
    option_and_then_some _ (command_in row.body) call is_call (λ asked read fits.
    (let both = cond_some (is_fit_call (record { clerk = row.clerk; request = row.request; command = asked })) _ call fits in
    let own : asked ≡ call.command = ap (λ (call : Call). call.command) both.1 in
    appended_again capacity book row.session row.day call rows (rw (← both.1) both.0) (rw (← own, own_body row.body asked read) read)
    (rows_appended (step book capacity row.session row.day call) rows found))))

pub rows_are_of_the_session : RowsAreOfTheSession
rows_are_of_the_session capacity book session clock call rows is =
    let own = (not_refused book _ _ (rows_for book session (act_day book.acts clock) call) rows is).2 in
    (ap (λ (rows : Batch). rows.act.session) (sym own), ap (λ (rows : Batch). rows.act.n) (sym own))
