-- What is due of so many households, and of one more.
use Rattle.std.proofs.Common.{◌≡◌, ◌∙◌, sym, ap, add-one, ℕ, suc, ◌+◌, ◌≤◌, List, [], ◌∷◌, ◌++◌, Option, Some, None, arith, All, append-nil}
use Rattle.std.specs.{Prelude.option_to_list, List.range_with_len, List.filter_map}
use Rattle.std.proofs.lemmas.List.Elements.{All-push}
use Rattle.record_history.specs.declared.records.Record.{Record}
use Rattle.list_laws.proofs.{FilterMaps.filter_map_more, Ranges.range_more}
use Rattle.office_answers.specs.{declared.answer.DueDay.DueDay, DueList.horizon, DueList.due_of}

one_more : {X : Type 0} (f : ℕ → Option X) (place : ℕ) →
    filter_map f (range_with_len 1 (place + 1)) ≡ filter_map f (range_with_len 1 place) ++ option_to_list (f (place + 1))
one_more f place = rw add-one (ap (filter_map f) (range_more 1 place (suc place) (omega arith)) ∙ filter_map_more f (range_with_len 1 place) (suc place))

-- these are due of so many households, all of them soon enough
pub record AreDue (households : List (List Record)) (day place : ℕ) (dues : List DueDay) : Type 0 where
  pub all : dues ≡ filter_map (due_of households day) (range_with_len 1 place)
  pub soon : All (λ due. due.day ≤ horizon day) dues

with_next : (households : List (List Record)) (day place : ℕ) (dues : List DueDay) (found : Option DueDay) →
    AreDue households day place dues → found ≡ due_of households day (place + 1) →
    dues ++ option_to_list found ≡ filter_map (due_of households day) (range_with_len 1 (place + 1))
with_next households day place dues found are is =
    ap (λ (earlier : List DueDay). earlier ++ option_to_list found) are.all
    ∙ ap (λ (next : Option DueDay). filter_map (due_of households day) (range_with_len 1 place) ++ option_to_list next) is
    ∙ sym (one_more (due_of households day) place)

-- of one household more, which has a due day
pub one_is_due : (households : List (List Record)) (day place : ℕ) (dues : List DueDay) (due : DueDay) →
    AreDue households day place dues → Some due ≡ due_of households day (place + 1) → due.day ≤ horizon day →
    AreDue households day (place + 1) (dues ++ due ∷ [])
one_is_due households day place dues due are is soon = record {
  all = with_next households day place dues (Some due) are is;
  soon = All-push (λ (due : DueDay). due.day ≤ horizon day) dues due are.soon soon;
}

-- or has none
pub none_is_due : (households : List (List Record)) (day place : ℕ) (dues : List DueDay) →
    AreDue households day place dues → None ≡ due_of households day (place + 1) → AreDue households day (place + 1) dues
none_is_due households day place dues are is = record {
  all = sym (append-nil dues) ∙ with_next households day place dues None are is;
  soon = are.soon;
}
