-- What a call leaves, from what was decided while its pass was held.
use Rattle.std.proofs.Common.{◌≡◌, ◌∙◌, sym, ap, subst, subst₂, inl, inr, ⊎_elim, ℕ, arith, List, [], ◌∷◌, length, Result}
use Rattle.std.proofs.lemmas.List.{length_push}
use Rattle.book_rows.specs.{declared.rows.ActRow.ActRow, declared.rows.Batch.Batch, Book.Book}
use Rattle.questions.specs.declared.question.Question.{Question}
use Rattle.clerk_desk.specs.Below.office_answers.{declared.answer.Answer.Answer, declared.answer.Asked.Asked, declared.reply.Reply.Reply, Answered.Answers, Answering.answer_to}
use Rattle.clerk_desk.specs.Below.office_step.{declared.call.Call.Call, declared.call.Capacity.Capacity, Step.Outcome, Step.appends, Step.step}
use Rattle.clerk_desk.specs.Below.office_laws.Replay.{RowsAreOfTheSession}
use Rattle.clerk_desk.specs.Serving.{reply_of}
use Rattle.desk_history.specs.declared.views.{Start.Start, BookView.BookView, PassView.PassView, HoldingView.HoldingView}
use Rattle.desk_history.specs.{Moves.holding, Moves.returned, Rule.IsHeld, Laws.GoesOn, Laws.PassesGoOn}
use Rattle.shared_desk.specs.History.{capacity_of, tables_at, IsLegalHistory, HistoriesAreReached}
use Rattle.shared_desk.specs.Deciding.{HoldsOn, Books, Rests, IsReplied, AreTries, Decides}
use Rattle.shared_desk.specs.Calls.{step_at, IsBooked, IsUnbooked, IsCalled}

module _ (b : BookView) (p : PassView) (k : HoldingView) (held : IsHeld k) (on : HoldsOn (holding b p) k) where
  -- the start that the pass knows is the book's
  start_is : k.pass.start ≡ b.start
  start_is = held.start ∙ on.start

  number_is : k.pass.number ≡ p.number
  number_is = ap (λ (pass : PassView). pass.number) on.pass

  goes_on_since : PassesGoOn → GoesOn p (returned k) k.since k.tries
  goes_on_since law = subst (λ (pass : PassView). GoesOn pass (returned k) k.since k.tries) on.pass (law k held)

  goes_on_by : PassesGoOn → (rows : List ActRow) (tries : List Batch) → k.since ≡ rows → k.tries ≡ tries → GoesOn p (returned k) rows tries
  goes_on_by law rows tries is same =
      subst₂ (λ (since : List ActRow) (tried : List Batch). GoesOn p (returned k) since tried) is same (goes_on_since law)

  pub called : PassesGoOn → RowsAreOfTheSession → HistoriesAreReached → (capacity : Capacity) (book : Book) (number clock : ℕ) (call : Call) (reply : Reply) →
      book ≡ tables_at b.start b.list → capacity ≡ capacity_of b.start → number ≡ p.number → IsLegalHistory b.start b.list →
      Decides (step book capacity number clock call) book (holding b p) k reply → IsCalled clock call p (returned k) reply
  called law rows_of reached capacity book number clock call reply tables room is legal decides =
      ⊎_elim (λ books. inl (booked books)) (λ rests. inr (unbooked rests)) decides
    where
      same_tables : tables_at k.pass.start b.list ≡ book
      same_tables = ap (λ (start : Start). tables_at start b.list) start_is ∙ sym tables

      same_step : step_at (returned k) b.list clock call ≡ step book capacity number clock call
      same_step = λ i. step (same_tables i) ((ap capacity_of start_is ∙ sym room) i) ((number_is ∙ sym is) i) clock call

      booked : Books (step book capacity number clock call) book (holding b p) k reply → IsBooked clock call p (returned k) reply
      booked books =
          let of = rows_of capacity book number clock call books.rows books.appends_them in
          let acts = (reached b.start b.list legal).acts in
          let before = ap (λ (t : Book). length t.acts) tables in
          let after = ap (λ (list : List ActRow). length list) books.list ∙ length_push b.list books.rows.act in
          let opened = ap (λ (start : Start). length start.opening.acts) start_is in
          record {
            rows = books.rows;
            earlier = b.list;
            last = books.list;
            appends_them = same_step ∙ books.appends_them;
            replied = books.replied ∙ ap (λ (t : Book). reply_of t (appends books.rows)) (sym same_tables);
            point = (let n = of.1 in omega (arith, n, acts, before, after, opened));
            session = of.0 ∙ is ∙ sym number_is;
            goes_on = goes_on_by law (books.rows.act ∷ []) [] books.since books.tries_since;
          }

      unbooked : Rests (step book capacity number clock call) (holding b p) k reply → IsUnbooked clock call p (returned k) reply
      unbooked rests =
          let at_point = sym same_step ∙ ap (λ (list : List ActRow). step_at (returned k) list clock call) (sym rests.list) in
          record {
            replied = subst (λ (outcome : Outcome). IsReplied outcome reply) at_point rests.replied;
            tries = rests.tries;
            tried = subst (λ (outcome : Outcome). AreTries outcome rests.tries reply) at_point rests.tried;
            goes_on = goes_on_by law [] rests.tries rests.since rests.tries_since;
          }

-- ---- the same, where the views are known by equations

pub called_as : PassesGoOn → RowsAreOfTheSession → HistoriesAreReached → (b : BookView) (p now : PassView) (h k : HoldingView) (new : PassView) →
    h ≡ holding b p → now ≡ p → new ≡ returned k → IsHeld k → HoldsOn h k →
    (capacity : Capacity) (book : Book) (number clock : ℕ) (call : Call) (reply : Reply) →
    Decides (step book capacity number clock call) book h k reply → number ≡ p.number →
    book ≡ tables_at b.start b.list → capacity ≡ capacity_of b.start → IsLegalHistory b.start b.list → IsCalled clock call now new reply
called_as law rows_of reached b p now h k new is here there held on capacity book number clock call reply decides same tables room legal =
    subst₂ (λ (old last : PassView). IsCalled clock call old last reply) (sym here) (sym there)
    (called b p k held (subst (λ (x : HoldingView). HoldsOn x k) is on) law rows_of reached capacity book number clock call reply tables room same legal
    (subst (λ (x : HoldingView). Decides (step book capacity number clock call) book x k reply) is decides))

pub answered_as : (b : BookView) (k : HoldingView) (new : PassView) → k.book.start ≡ b.start → k.book.list ≡ b.list → new ≡ returned k → IsHeld k →
    (book : Book) (question : Question) (answer : Result Answer Asked) → book ≡ tables_at b.start b.list →
    Answers (answer_to book question) answer → Answers (answer_to (tables_at new.start new.list) question) answer
answered_as b k new start list there held book question answer tables right =
    let now : tables_at new.start new.list ≡ book =
    ap (λ (pass : PassView). tables_at pass.start pass.list) there
    ∙ ((λ i. tables_at ((held.start ∙ start) i) (list i)) ∙ sym tables) in
    subst (λ (t : Book). Answers (answer_to t question) answer) (sym now) right
