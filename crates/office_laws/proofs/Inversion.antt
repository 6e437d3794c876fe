-- What it comes to that rows are appended.
use Rattle.office_laws.proofs.Words.{Accepted, subst, common_steps, ◌++◌, ◌≡◌, ◌∙◌, sym, ap, ap₂, refl, ℕ, arith, true, List, [], ◌∷◌, Option, Some, None, ActRow, Batch, Book, body_of, command_in, Call, Capacity, Refusal, known_of, first_of, repeated, tests_of, first_of-around, Passed, passed, last_act_day, day_after, act_day, rows_for, first_step, step, again, refused, appends, done_of, option_map_or, is_fit_call, IsAppended, AppendedIsAccepted}

-- what is appended is neither a repeat nor refused
pub not_refused : (book : Book) (found : Option ActRow) (against : Option Refusal) (own rows : Batch) →
    option_map_or (λ (row : ActRow). again (done_of book row)) found (option_map_or refused against (appends own)) ≡ appends rows → (found ≡ None) × (against ≡ None) × (own ≡ rows)
not_refused book None None own rows same = (refl, refl, cc)
not_refused book None (Some refusal) own rows same = absurd (cc)
not_refused book (Some row) against own rows same = absurd (cc)

none_stand : (first last : Option Refusal) (tests : List (Option Refusal)) → first_of (first ∷ (tests ++ last ∷ [])) ≡ None →
    (first ≡ None) × (first_of tests ≡ None) × (last ≡ None)
none_stand first last tests none = grind (arith, common_steps, first_of-around first tests last, none)

-- the day of an act is that of the next act on it
same_day : (last clock : ℕ) → day_after last (day_after last clock) ≡ day_after last clock
same_day last clock = omega arith

pub accepted : AppendedIsAccepted
accepted capacity book rows is =
    let today : ℕ = act_day book.acts rows.act.day in
    let parts = not_refused book _ _ (rows_for book rows.act.session today is.call) rows is.same in
    let none = none_stand _ _ (tests_of (known_of book) capacity.acts today is.call.command) parts.1 in
    let day : today ≡ act_day book.acts today = sym (same_day (last_act_day book.acts) rows.act.day) in
    let own : Accepted capacity book is.call (rows_for book rows.act.session today is.call) = assumption (parts.0, none, day) in
    subst (Accepted capacity book is.call) parts.2 own

-- nothing stood against the call
pub passes : (capacity : Capacity) (book : Book) (rows : Batch) → (is : IsAppended capacity book rows) →
    Passed (known_of book) capacity.acts rows.act.day is.call.command
passes capacity book rows is =
    passed (known_of book) capacity.acts rows.act.day is.call.command (accepted capacity book rows is).is_allowed

-- what is appended on a day is appended on the day of its own act, where its body reads as its command
pub appended_again : (capacity : Capacity) (book : Book) (session clock : ℕ) (call : Call) (rows : Batch) → is_fit_call call ≡ true →
    command_in (body_of call.command) ≡ Some call.command → step book capacity session clock call ≡ appends rows → IsAppended capacity book rows
appended_again capacity book session clock call rows fit reads same =
    let parts = not_refused book _ _ (rows_for book session (act_day book.acts clock) call) rows same in
    let day : act_day book.acts rows.act.day ≡ act_day book.acts clock =
    ap (act_day book.acts) (sym (ap (λ (r : Batch). r.act.day) parts.2)) ∙ same_day (last_act_day book.acts) clock in
    record {
      call = call;
      fit = fit;
      read = ap command_in (sym (ap (λ (r : Batch). r.act.body) parts.2)) ∙ reads;
      same =
          ap₂ (λ (of_session today : ℕ). option_map_or (λ (row : ActRow). again (done_of book row)) (repeated book.acts call.clerk call.request (body_of call.command))
          (first_step book capacity of_session today call))
          (sym (ap (λ (r : Batch). r.act.session) parts.2)) day
          ∙ same;
    }
