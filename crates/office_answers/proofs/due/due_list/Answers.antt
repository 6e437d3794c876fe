use Rattle.std.proofs.Common.{◌≤◌, ◌∙◌, ap, ℕ, refl, rules}
use Rattle.std.proofs.lemmas.List.Sorted.{All-permutation, answers_always}
use Rattle.office_answers.specs.{declared.answer.DueDay.DueDay, DueList.horizon, DueList.day_by_day}
use Rattle.office_answers.proofs.ByDay.{sorted_one_by_one}
use Rattle.office_answers.proofs.due.due_list.Goals as goal

pub returns : goal.returns
returns c =
    let day_of : DueDay → ℕ = λ due. due.day in
    let soon = All-permutation (λ (due : DueDay). due.day ≤ horizon c.args.day) _ _ c.in_ok-sort_by_key.ensures.permutation c.in_ok-dues.ensures.soon in
    sorted_one_by_one day_of (λ (day : ℕ). record { day = day; household = 0 }) (λ (day : ℕ). refl) (horizon c.args.day) _ _ soon
    (c.in_ok-sort_by_key.ensures.sorted day_of (answers_always _ _ _ (λ f a r g h. search rules)))
    (c.in_ok-sort_by_key.ensures.stable day_of (answers_always _ _ _ (λ f a r g h. search rules)))
    ∙ ap (day_by_day (horizon c.args.day)) c.in_ok-dues.ensures.all
